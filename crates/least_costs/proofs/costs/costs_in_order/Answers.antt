use Rattle.std.proofs.Common.{◌<◌, ◌∷◌, ◌++◌, [], List, ℕ, slice_index, subst, sym, take, length, arith}
use Rattle.std.proofs.lemmas.List.{take_all, take_more}
use Rattle.std.proofs.lemmas.List.Elements.{All-get_or}
use Rattle.route_walks.specs.Label.{IsLeast}
use Rattle.least_costs.specs.Costs.{AreCostsTo}
use Rattle.least_costs.specs.Network.{seeds_at}
use Rattle.least_costs.proofs.Reaching.{costs-more, least-told}
use Rattle.least_costs.proofs.costs.costs_in_order.Goals as goal

pub loop-label-preserved : goal.loop-label-preserved
loop-label-preserved c =
    let net = c.args.network.now in
    let from = c.args.start in
    let vertices = c.args.vertices.now in
    let labels = c.args.labels.now in
    let i = c.loop-label.label-index in
    let here : i < length vertices = omega (arith, c.loop-label-test.true, c.requires.least.count) in
    let v = slice_index vertices i in
    let within : v < net.n = All-get_or (λ x. x < net.n) vertices i 0 here c.requires.vertices in
    let least : IsLeast net.arcs (seeds_at net.n from) v (slice_index labels i) = c.requires.least.least i here in
    let cost =
    least-told c.least_labels_exist.ensures c.inf_means_no_walk.ensures net from c.n.ensures.network c.requires.start v
    (slice_index labels i) within least c.cost_of.result c.cost_of.ensures.some c.cost_of.ensures.none in
    rw c.in_ok-push.ensures.items
    (subst (λ (xs : List ℕ). AreCostsTo net from xs (c.loop-label.costs.items ++ c.cost_of.result ∷ []))
    (sym (take_more vertices i 0 here))
    (costs-more net from (take i vertices) c.loop-label.costs.items v c.cost_of.result c.loop-label.invariant cost))

pub returns : goal.returns
returns c =
    let vertices = c.args.vertices.now in
    subst (λ (xs : List ℕ). AreCostsTo c.args.network.now c.args.start xs c.loop-label.costs.items)
    (take_all c.loop-label.label-index vertices (omega (arith, c.loop-label-test.false, c.requires.least.count)))
    c.loop-label.invariant
