-- One landmark more.
use Rattle.std.proofs.Common.{refl, rules, [], ◌≡◌, ◌≢◌, ◌∙◌, ◌<◌, ℕ, List, true, ap, arith, drop, length, sym}
use Rattle.std.specs.Prelude.{All, slice_index}
use Rattle.std.proofs.lemmas.Bool.{false≢true}
use Rattle.std.proofs.lemmas.List.{nil_from_length, take_at}
use Rattle.route_walks.specs.Label.{IsRelaxed}
use Rattle.route_walks.specs.Bounds.{IsRelaxedBackward}
use Rattle.least_costs.specs.Landmarks.{IsCell, LandmarksSeen, column}
use Rattle.least_costs.proofs.Cells.{landmarks-more}
use Rattle.least_costs.proofs.network.landmarks.Landmarks.add.Goals as goal
use Rattle.least_costs.proofs.network.landmarks.Landmarks.add.Goals.{then-self, else-self}

pub invariant_of-self-2 : goal.invariant_of-self-2
invariant_of-self-2 c =
    let inside = c.self.inside in
    let graph = inside.of.value in
    let labels = c.args.labels.now in
    let seen : LandmarksSeen = record {
      graph = graph;
      count = inside.count;
      cells = inside.cells.value.items;
      unit = inside.unit;
      is_two_way = inside.is_two_way;
      gone = inside.gone.items;
    } in
    let new = c.put_column.new.cells in
    let old = inside.cells.value.items in
    let lent : c.in-Some.cells.now.items ≡ old = rw c.in-Some.ensures.value refl in
    let before : c.deref_mut.result.now ≡ old = c.deref_mut.ensures.value ∙ lent in
    let same : length new ≡ length old = c.put_column.ensures.room ∙ ap (λ (xs : List ℕ). length xs) before in
    let size : length new ≡ c.in-Some.cells.now.len =
    omega (arith, c.put_column.ensures.room, c.deref_mut.ensures.len) in
    let none : inside.gone.items ≡ [] = nil_from_length inside.gone.items (search rules) in
    let relaxed : All (IsRelaxed (slice_index labels)) graph.arcs = rw (← c.self.view_is) at c.requires.relaxed in
    let twins : c.if-self.self ≡ true → All (IsRelaxedBackward (slice_index labels)) graph.arcs =
    elim c.if-self.branch [
      | then-self w ↦ λ both. rw (← c.self.view_is) at c.requires.two_way (sym w.self-is ∙ both)
      | else-self w ↦ λ both. absurd (false≢true (sym w.if-self.false ∙ sym w.self-is ∙ both))
    ] in
    let less : c.if-self.self ≡ true → inside.is_two_way ≡ true =
    elim c.if-self.branch [
      | then-self w ↦ λ both. w.if-self.true
      | else-self w ↦ λ both. absurd (false≢true (sym w.if-self.false ∙ sym w.self-is ∙ both))
    ] in
    let count : length labels ≡ graph.n = rw (← c.self.view_is) at c.requires.count in
    let put : (v : ℕ) → v < graph.n → IsCell inside.unit (column inside.count new inside.used v) (slice_index labels v) =
    λ v below. c.put_column.ensures.put v (omega (arith, below, count)) in
    let others : (i v : ℕ) → i < inside.count → i ≢ inside.used
    → column inside.count new i v ≡ column inside.count old i v =
    λ i v i-in differs.
    c.put_column.ensures.others i v i-in differs
    ∙ ap (λ (xs : List ℕ). column inside.count xs i v) before in
    rw (take_at new (drop (length new) c.in-Some.cells.now.items) c.in-Some.cells.now.len size)
    (landmarks-more seen inside.used c.if-self.self new labels c.self.invariant none relaxed twins less same put others)
