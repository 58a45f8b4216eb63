use Rattle.std.proofs.Common.{◌≡◌, ◌∙◌, ◌<◌, ℕ, ap, length, subst, arith}
use Rattle.std.specs.Prelude.{slice_index}
use Rattle.std.proofs.lemmas.List.{get_or_read, get_or-map, length-map}
use Rattle.std.proofs.lemmas.List.Elements.{All-get_or}
use Rattle.std.proofs.lemmas.Option.{IfSome_then}
use Rattle.near_labels.specs.UpDown.{IsLeastUpDown}
use Rattle.hierarchy.proofs.hierarchy.Hierarchy.costs_above.Goals as goal

pub returns-clause-least : goal.returns-clause-least
returns-clause-least c =
    let inside = c.self.inside in
    let graph = inside.of.value in
    let ups = inside.up.arcs in
    let downs = inside.down.arcs in
    let are = c.self.invariant in
    let place = slice_index inside.places.items in
    let s = c.args.source in
    let targets = c.args.targets.now in
    let ends = c.args.ends.now in
    let s-in : s < graph.n = rw (← c.self.view_is) at c.requires.source in
    let order = rw (← c.self.view_is) at c.requires.order in
    let from : c.index-from.result.now ≡ place s =
    get_or_read inside.places.items s c.index-from.result.now (omega (arith, s-in, are.count)) c.index-from.ensures 0 in
    let many : length ends ≡ length targets = ap length order.placed ∙ length-map targets place in
    rw (← c.self.view_is)
    (IfSome_then c.costs_above.result c.costs_above.ensures.least (λ costs least. record {
      count = least.count ∙ many;
      least = λ k lt.
          let t = slice_index targets k in
          let d = slice_index costs.items k in
          let t-in : t < graph.n = All-get_or (λ (v : ℕ). v < graph.n) targets k 0 lt order.inside in
          let end : slice_index ends k ≡ place t =
          ap (λ xs. slice_index xs k) order.placed ∙ get_or-map place targets k 0 0 lt in
          let above = least.least k (omega (arith, lt, many)) in
          c.hierarchies_are_exact.ensures (slice_index are.vertices) place graph.arcs ups downs s t d are.exact
          (are.placed s s-in).1 (are.placed t t-in).1
          (subst (λ (v : ℕ). IsLeastUpDown ups downs (place s) v d) end
          (subst (λ (u : ℕ). IsLeastUpDown ups downs u (slice_index ends k) d) from above));
    }))
