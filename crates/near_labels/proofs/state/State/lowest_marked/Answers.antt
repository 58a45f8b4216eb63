-- One more of those that are noted has no mark, or no lower label.
use Rattle.std.proofs.Common.{◌≡◌, ◌∙◌, sym, ℕ, ◌<◌, ◌≤◌, true, false, get_or, length, subst, arith, rules}
use Rattle.std.specs.Prelude.{All, slice_index}
use Rattle.std.proofs.lemmas.List.{get_or_read, take_all}
use Rattle.std.proofs.lemmas.List.Elements.{All-more, All-get_or}
use Rattle.std.proofs.lemmas.Bool.{false≢true}
use Rattle.relax_core.specs.State.{mark_of}
use Rattle.near_labels.proofs.Noting.{noted-marked}
use Rattle.near_labels.proofs.state.State.lowest_marked.Goals as goal
use Rattle.near_labels.proofs.state.State.lowest_marked.Goals.{then-index, else-index}

pub loop-v-preserved : goal.loop-v-preserved
loop-v-preserved c =
    let labels = c.args.self.now.labels.items in
    let marks = c.args.self.now.marks.items in
    let noted = c.args.self.now.noted.items in
    let i = c.loop-v.v-index in
    let v = get_or noted i 0 in
    let same = c.deref-v-items.ensures.value in
    let here : i < length noted = search rules in
    let below : v < length labels = All-get_or (λ w. w < length labels) noted i 0 here c.requires.within in
    let mark = get_or_read marks v c.index.result.now (omega (arith, below, c.requires.count)) (rw same at c.index.ensures) false in
    let lowest = c.if-index.lowest in
    let falls : lowest ≤ c.loop-v.lowest =
    elim c.if-index.branch [
      | then-index w ↦ omega (arith, w.lowest-is, w.min-lowest.ensures)
      | else-index w ↦ omega (arith, w.lowest-is)
    ] in
    let fine : mark_of marks v ≡ true → lowest ≤ slice_index labels v =
    elim c.if-index.branch [
      | then-index w ↦
          λ _.
          omega (
            arith,
            w.lowest-is,
            w.min-lowest.ensures,
            get_or_read labels v w.index-then-index.result.now below (rw same at w.index-then-index.ensures) 0,
          )
      | else-index w ↦ λ marked. absurd (false≢true (sym w.if-index.false ∙ mark ∙ marked))
    ] in
    All-more (λ (w : ℕ). mark_of marks w ≡ true → lowest ≤ slice_index labels w) noted i 0 here
    (λ k d lt marked. omega (arith, falls, c.loop-v.invariant k d lt marked)) fine

pub returns : goal.returns
returns c =
    let labels = c.args.self.now.labels.items in
    let marks = c.args.self.now.marks.items in
    let noted = c.args.self.now.noted.items in
    let lowest = c.loop-v.lowest in
    noted-marked (λ (w : ℕ). lowest ≤ slice_index labels w) labels marks noted c.requires
    (subst (All (λ (w : ℕ). mark_of marks w ≡ true → lowest ≤ slice_index labels w))
    (take_all c.loop-v.v-index noted (search rules)) c.loop-v.invariant)
