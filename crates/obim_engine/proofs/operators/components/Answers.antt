use Rattle.std.proofs.Common.{◌∙◌, ℕ, List, ap, subst}
use Rattle.std.proofs.lemmas.Result.{IfOk-weaker}
use Rattle.route_walks.specs.declared.graph.Seed.{Seed}
use Rattle.route_walks.specs.Label.{AreLeastLabels}
use Rattle.route_walks.specs.Operators.{seeds_all, both_ways}
use Rattle.obim_engine.proofs.operators.components.Goals as goal

pub returns : goal.returns
returns g c =
    let both = c.in_ok-both.both in
    let seeds = c.in_ok-seeds.ensures.exact ∙ ap seeds_all c.n.ensures.vertices in
    IfOk-weaker c.least_labels.result _ _
    (λ labels least.
    c.least_labels_follow_the_arcs.ensures c.args.csr.now.n both.arcs (both_ways c.args.csr.now.arcs)
    (seeds_all c.args.csr.now.n) labels.items c.in_ok-both.ensures.arcs
    (subst (λ (n : ℕ). AreLeastLabels n both.arcs (seeds_all c.args.csr.now.n) labels.items)
    c.in_ok-both.ensures.vertices
    (subst (λ (from : List Seed). AreLeastLabels both.n both.arcs from labels.items) seeds least)))
    c.least_labels.ensures
