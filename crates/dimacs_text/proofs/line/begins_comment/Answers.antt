use Rattle.std.proofs.Common.{◌≡◌, ◌∙◌, Bool, true, false, List, ℕ, length, eqb, get_or, ap, refl, sym, subst, take, drop}
use Rattle.std.proofs.Common.{take-append-drop}
use Rattle.std.specs.Bool.{OnTrue}
use Rattle.std.proofs.lemmas.Bool.{eqb-false, eqb-true}
use Rattle.dimacs_text.specs.Lines.{begins_comment}
use Rattle.dimacs_text.specs.reader.Pieces.{SkipsBlanks}
use Rattle.dimacs_text.proofs.CommentLemmas.{comment-more, comment_here}
use Rattle.dimacs_text.proofs.line.begins_comment.Goals as goal

-- what the first bytes begin all of them do
of_first : (test : Bool) (count : ℕ) (bytes first rest : List ℕ)
    → first ≡ take count bytes → SkipsBlanks first rest → eqb (length rest) 0 ≡ false → eqb (get_or rest 0 0) 99 ≡ test
    → OnTrue test (begins_comment bytes ≡ true)
of_first true count bytes first rest is skips filled letter =
    let begun = comment_here first rest skips (eqb-false _ _ filled) (eqb-true _ _ letter) in
    subst (λ all. begins_comment all ≡ true) (take-append-drop count bytes)
    (comment-more (take count bytes) (drop count bytes) (ap (λ l. begins_comment l) (sym is) ∙ begun))
of_first false count bytes first rest is skips filled letter = tt

pub returns-then-not-is_empty : goal.returns-then-not-is_empty
returns-then-not-is_empty c =
    of_first _ c.min.result c.args.bytes.now c.split_at.result.0.now c.skip_blanks-rest.result.now
    c.split_at.ensures.front c.skip_blanks-rest.ensures (sym c.is_empty.ensures ∙ c.if-not-is_empty.true) refl

pub returns-else-not-is_empty : goal.returns-else-not-is_empty
returns-else-not-is_empty c = rw c.if-not-is_empty.false tt
