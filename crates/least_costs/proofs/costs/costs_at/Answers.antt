use Rattle.std.proofs.Common.{◌<◌, ◌∷◌, ◌++◌, [], List, ℕ, slice_index, subst, sym, take}
use Rattle.std.proofs.lemmas.List.{take_all, take_more}
use Rattle.std.proofs.lemmas.List.Elements.{All-get_or}
use Rattle.route_walks.specs.Label.{IsLeast}
use Rattle.least_costs.specs.Costs.{AreCostsTo}
use Rattle.least_costs.specs.Network.{seeds_at}
use Rattle.least_costs.proofs.Reaching.{costs-more, least-told}
use Rattle.least_costs.proofs.costs.costs_at.Goals as goal

pub loop-v-preserved : goal.loop-v-preserved
loop-v-preserved c =
    let net = c.args.network.now in
    let from = c.args.start in
    let vertices = c.args.vertices.now in
    let labels = c.args.labels.now in
    let i = c.loop-v.v-index in
    let here = c.loop-v-test.true in
    let v = slice_index vertices i in
    let within : v < net.n = All-get_or (λ x. x < net.n) vertices i 0 here c.requires.vertices in
    let least : IsLeast net.arcs (seeds_at net.n from) v (slice_index labels v) =
    All-get_or (λ x. IsLeast net.arcs (seeds_at net.n from) x (slice_index labels x)) vertices i 0 here c.requires.least in
    let cost =
    least-told c.least_labels_exist.ensures c.inf_means_no_walk.ensures net from c.n.ensures.network c.requires.start v
    (slice_index labels v) within least c.cost_of.result c.cost_of.ensures.some c.cost_of.ensures.none in
    rw c.in_ok-push.ensures.items
    (subst (λ (xs : List ℕ). AreCostsTo net from xs (c.loop-v.costs.items ++ c.cost_of.result ∷ []))
    (sym (take_more vertices i 0 here))
    (costs-more net from (take i vertices) c.loop-v.costs.items v c.cost_of.result c.loop-v.invariant cost))

pub returns : goal.returns
returns c =
    subst (λ (xs : List ℕ). AreCostsTo c.args.network.now c.args.start xs c.loop-v.costs.items)
    (take_all c.loop-v.v-index c.args.vertices.now c.loop-v-test.false) c.loop-v.invariant
