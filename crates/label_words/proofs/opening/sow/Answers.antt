-- One more seed is sown.
use Rattle.std.proofs.Common.{◌≡◌, ◌≤◌, ◌+◌, refl, cond, ℕ, arith, get_or, get_or-set_other}
use Rattle.std.proofs.lemmas.Bool.{lt-ltb}
use Rattle.relax_core.specs.State.{mark_of as is_marked}
use Rattle.relax_core.proofs.Facts.{marks_le}
use Rattle.label_words.specs.Layout.{mark_of}
use Rattle.label_words.proofs.Sowing.{sown_more}
use Rattle.label_words.proofs.opening.sow.Goals as goal
use Rattle.label_words.proofs.opening.sow.Goals.{then-words-mark-eq0, else-words-mark-eq0}

pub overflow_add-words : goal.overflow_add-words
overflow_add-words c =
    let sown = c.requires.3 in
    let few : c.if-words-mark-eq0.new_marks ≤ 1 =
    elim c.if-words-mark-eq0.branch [
      | then-words-mark-eq0 w ↦ omega (arith, w.new_marks-is)
      | else-words-mark-eq0 w ↦ omega (arith, w.new_marks-is)
    ] in
    let same = get_or-set_other c.args.words.now c.label_word-label.result 0 c.min.result 0
    (omega (arith, c.label_word-label.ensures)) in
    omega (
      arith,
      few,
      marks_le
          (is_marked sown.state.marks) c.requires.0,
      same,
      sown.laid.total,
      sown.total,
      sown.vertices,
    )

pub returns : goal.returns
returns c n seeds sown lt =
    let new : c.if-words-mark-eq0.new_marks + cond {A = ℕ} (mark_of c.args.words.now c.args.seed.now.vertex) 1 0 ≡ 1 =
    elim c.if-words-mark-eq0.branch [
      | then-words-mark-eq0 w ↦ rw (← c.mark_word-mark.ensures, w.if-words-mark-eq0.true, w.new_marks-is) refl
      | else-words-mark-eq0 w ↦
          let marked = lt-ltb 0 (get_or c.args.words.now c.mark_word-mark.result 0)
          (omega (arith, w.if-words-mark-eq0.false)) in
          rw (← c.mark_word-mark.ensures, marked, w.new_marks-is) refl
    ] in
    rw (c.mark_word-mark.ensures, c.label_word-label.ensures)
    (sown_more n seeds c.args.seed.now c.args.words.now c.min.result c.if-words-mark-eq0.new_marks lt (omega arith) sown
    (rw (← c.label_word-label.ensures) c.min.ensures) new)
