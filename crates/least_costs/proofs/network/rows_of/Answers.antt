-- Where each arc counts 1 the list has its weights set before it is sorted.
use Rattle.std.proofs.Common.{◌≡◌, ◌∙◌, ◌++◌, length, drop, take, ap, take_at, arith}
use Rattle.std.proofs.lemmas.List.Elements.{All-map}
use Rattle.route_walks.specs.Operators.{unit_weight, unit_weights}
use Rattle.route_walks.specs.Walk.{IsArcBelow}
use Rattle.least_costs.proofs.Networks.{both_ways-length}
use Rattle.least_costs.proofs.network.rows_of.Goals as goal

pub build_from-requires-in-One-clause-ends : goal.build_from-requires-in-One-clause-ends
build_from-requires-in-One-clause-ends g c κs within =
    let arcs = c.set_unit_weights.new.arcs in
    let units : take c.args.arcs.len (arcs ++ drop (length arcs) c.args.arcs.items) ≡ unit_weights c.args.arcs.items =
    take_at arcs _ c.args.arcs.len (omega arith) ∙ c.set_unit_weights.ensures ∙ ap unit_weights c.deref_mut.ensures.value in
    let ends = All-map (IsArcBelow c.args.n) unit_weight c.args.arcs.items c.requires.graph in
    rw units ends

pub returns-in-Weight-clause-arcs : goal.returns-in-Weight-clause-arcs
returns-in-Weight-clause-arcs g c = rw c.in-Weight.is c.build_from.ensures.arcs

pub returns-in-One-clause-arcs : goal.returns-in-One-clause-arcs
returns-in-One-clause-arcs g c =
    let arcs = c.set_unit_weights.new.arcs in
    let units : take c.args.arcs.len (arcs ++ drop (length arcs) c.args.arcs.items) ≡ unit_weights c.args.arcs.items =
    take_at arcs _ c.args.arcs.len (omega arith) ∙ c.set_unit_weights.ensures ∙ ap unit_weights c.deref_mut.ensures.value in
    rw (c.in-One.is, ← units) c.build_from-in-One.ensures.arcs

pub returns-in-FreeBothWays-clause-arcs : goal.returns-in-FreeBothWays-clause-arcs
returns-in-FreeBothWays-clause-arcs g c = rw c.in-FreeBothWays.is c.build_both_ways.ensures.arcs

pub returns-in-FreeBothWays-clause-count : goal.returns-in-FreeBothWays-clause-count
returns-in-FreeBothWays-clause-count g c =
    rw (c.in-FreeBothWays.is, both_ways-length c.args.arcs.items) c.build_both_ways.ensures.places
