use Rattle.std.proofs.Common.{ℕ, subst}
use Rattle.std.proofs.lemmas.Result.{IfOk-weaker}
use Rattle.route_walks.specs.Label.{AreLeastLabels}
use Rattle.route_walks.specs.Operators.{seeds_from, unit_weights}
use Rattle.obim_engine.proofs.operators.levels.Goals as goal

pub returns : goal.returns
returns g c =
    let units = c.in_ok-units.units in
    let seeds = seeds_from c.args.source in
    IfOk-weaker c.distances.result _ _
    (λ labels least.
    c.least_labels_follow_the_arcs.ensures c.args.csr.now.n units.arcs (unit_weights c.args.csr.now.arcs) seeds
    labels.items c.in_ok-units.ensures.arcs
    (subst (λ (n : ℕ). AreLeastLabels n units.arcs seeds labels.items) c.in_ok-units.ensures.vertices least))
    c.distances.ensures
