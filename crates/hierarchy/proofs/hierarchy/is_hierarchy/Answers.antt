use Rattle.std.proofs.Common.{◌≡◌, ℕ, subst, length, arith}
use Rattle.std.specs.Prelude.{All, slice_index}
use Rattle.hierarchy.specs.Checked.{DoesRise, IsChecked}
use Rattle.hierarchy.specs.Hierarchy.{ArePlaced}
use Rattle.hierarchy.proofs.hierarchy.is_hierarchy.Goals as goal

pub returns-then-are_kept : goal.returns-then-are_kept
returns-then-are_kept c =
    let graph = c.args.csr.now in
    let parts = c.args.parts.now in
    let up = parts.up in
    let down = parts.down in
    let vertex = slice_index parts.vertices.items in
    let place = slice_index parts.places.items in
    let same : up.n ≡ graph.n = omega (arith, c.if-n.false, c.n.ensures.vertices, c.n-n.ensures.vertices) in
    let same' : down.n ≡ graph.n = omega (arith, c.if-n-2.false, c.n-else-n.ensures.vertices, c.n-n.ensures.vertices) in
    let long : length parts.places.items ≡ graph.n =
    omega (arith, c.if-len-n.false, c.len.ensures, c.n-n.ensures.vertices) in
    let placed : ArePlaced (length parts.places.items) vertex place =
    rw (c.deref.ensures.value, c.deref-2.ensures.value) at (c.are_placed.ensures c.if-not-are_placed.false) in
    let rises-up : All (DoesRise graph.n) up.arcs =
    subst (λ (m : ℕ). All (DoesRise m) up.arcs) same (c.are_rising.ensures c.if-not-are_rising.false) in
    let rises-down : All (DoesRise graph.n) down.arcs =
    subst (λ (m : ℕ). All (DoesRise m) down.arcs) same'
    (c.are_rising-else-not-are_rising.ensures c.if-not-are_rising-2.false) in
    λ is.
    let checked : IsChecked graph.n vertex place graph.arcs up.arcs down.arcs = record {
      rises_up = rises-up;
      rises_down = rises-down;
      made_up = c.are_made_up.ensures c.if-not-are_made_up.false;
      made_down = c.are_made_down.ensures c.if-not-are_made_down.false;
      kept = c.are_kept.ensures.kept c.if-are_kept.true;
      bridged = c.are_bridged.ensures.bridged is;
    } in
    record {
      vertices = parts.vertices.items;
      count = long;
      count_up = same;
      count_down = same';
      placed = subst (λ (m : ℕ). ArePlaced m vertex place) long placed;
      exact = c.checked_is_hierarchy.ensures graph.n vertex place graph.arcs up.arcs down.arcs checked;
    }
