use Rattle.std.proofs.Common.{◌≡◌, ◌<◌, ℕ, subst, arith}
use Rattle.std.specs.Prelude.{slice_index}
use Rattle.std.proofs.lemmas.List.{get_or_read}
use Rattle.route_walks.specs.Label.{IsLeast}
use Rattle.route_walks.specs.Operators.{seeds_from}
use Rattle.near_labels.specs.UpDown.{IsLeastUpDown}
use Rattle.hierarchy.proofs.Arcs.{if-some}
use Rattle.hierarchy.proofs.hierarchy.Hierarchy.cost_between.Goals as goal

pub returns-clause-least : goal.returns-clause-least
returns-clause-least c =
    let inside = c.self.inside in
    let graph = inside.of.value in
    let are = c.self.invariant in
    let vertex = slice_index are.vertices in
    let place = slice_index inside.places.items in
    let s = c.args.source in
    let t = c.args.target in
    let s-in : s < graph.n = rw (← c.self.view_is) at c.requires.source in
    let t-in : t < graph.n = rw (← c.self.view_is) at c.requires.target in
    let from : c.index.result.now ≡ place s =
    get_or_read inside.places.items s c.index.result.now (omega (arith, s-in, are.count)) c.index.ensures 0 in
    let to : c.index-2.result.now ≡ place t =
    get_or_read inside.places.items t c.index-2.result.now (omega (arith, t-in, are.count)) c.index-2.ensures 0 in
    rw (← c.self.view_is)
    (if-some c.cost_above.result (IsLeastUpDown inside.up.arcs inside.down.arcs c.index.result.now c.index-2.result.now)
    (λ d. IsLeast graph.arcs (seeds_from s) t d)
    (λ d least.
    c.hierarchies_are_exact.ensures vertex place graph.arcs inside.up.arcs inside.down.arcs s t d are.exact
    (are.placed s s-in).1 (are.placed t t-in).1
    (subst (λ (v : ℕ). IsLeastUpDown inside.up.arcs inside.down.arcs (place s) v d) to
    (subst (λ (u : ℕ). IsLeastUpDown inside.up.arcs inside.down.arcs u c.index-2.result.now d) from least)))
    c.cost_above.ensures.least)
