-- Comments: which bytes begin one, and that a line which begins so says nothing.
use Rattle.std.proofs.Common.{cond, filter, not, eqb, ◌≡◌, ℕ, zero, suc, ◌+◌, ◌-◌, ◌<◌, Bool, true, false, List, [], ◌∷◌, ◌++◌}
use Rattle.std.proofs.Common.{length, take, get_or, refl, sym, ap, subst, ◌∙◌, arith, Ok, None}
use Rattle.std.specs.List.{onto_first, slice_split}
use Rattle.std.proofs.lemmas.Bool.{eqb-true}
use Rattle.std.proofs.lemmas.List.Splits.{slice_split-cons_no}
use Rattle.dimacs_text.specs.Lines.{begins_comment, fields, is_blank, is_empty, without_cr}
use Rattle.dimacs_text.specs.Forms.{begins_with, fields_reading, reading}
use Rattle.dimacs_text.specs.Heads.{begins_section, front}
use Rattle.dimacs_text.specs.AfterGraph.{reading_after}
use Rattle.dimacs_text.specs.reader.Pieces.{AreBlank, SkipsBlanks}
use Rattle.dimacs_text.proofs.LineLemmas.{fields_after_blank}
use Rattle.dimacs_text.proofs.AfterGraphLemmas.{others_say}

-- what begins a comment still does with more bytes after it,
pub comment-more : (bs more : List ℕ) → begins_comment bs ≡ true → begins_comment (bs ++ more) ≡ true
comment-more [] more is = absurd (cc)
comment-more (b ∷ bs) more is = step (is_blank b) refl (λ rest. comment-more bs more rest)
  where
    step : (test : Bool) → is_blank b ≡ test
        → (begins_comment bs ≡ true → begins_comment (bs ++ more) ≡ true)
        → begins_comment (b ∷ (bs ++ more)) ≡ true
    step true e longer = rw e (longer (rw e at is))
    step false e longer = rw e (rw e at is)

-- with blanks before it,
pub comment-blanks : (blanks rest : List ℕ) → AreBlank true blanks
    → begins_comment (blanks ++ rest) ≡ begins_comment rest
comment-blanks [] rest all = refl
comment-blanks (b ∷ bs) rest all = rw all.0 (comment-blanks bs rest all.1)

-- and without a carriage return at its end
comment-short : (line : List ℕ) (i : ℕ)
    → i + 1 ≡ length line → get_or line i 0 ≡ 13 → begins_comment line ≡ true
    → begins_comment (take i line) ≡ true
comment-short [] i last cr is = absurd (omega arith)
comment-short (b ∷ bs) zero last cr is =
    let bad : begins_comment (13 ∷ bs) ≡ true = subst (λ x. begins_comment (x ∷ bs) ≡ true) cr is in absurd (cc)
comment-short (b ∷ bs) (suc i) last cr is =
    step (is_blank b) refl (λ rest. comment-short bs i (omega arith) cr rest)
  where
    step : (test : Bool) → is_blank b ≡ test
        → (begins_comment bs ≡ true → begins_comment (take i bs) ≡ true)
        → begins_comment (take (suc i) (b ∷ bs)) ≡ true
    step true e shorter = rw e (shorter (rw e at is))
    step false e shorter = rw e (rw e at is)

comment-no_cr : (line : List ℕ) → begins_comment line ≡ true → begins_comment (without_cr line) ≡ true
comment-no_cr [] is = is
comment-no_cr (b ∷ bs) is = step (eqb (get_or (b ∷ bs) (length (b ∷ bs) - 1) 0) 13) refl
  where
    step : (test : Bool) → eqb (get_or (b ∷ bs) (length (b ∷ bs) - 1) 0) 13 ≡ test
        → begins_comment (cond test (take (length (b ∷ bs) - 1) (b ∷ bs)) (b ∷ bs)) ≡ true
    step true e = comment-short (b ∷ bs) (length (b ∷ bs) - 1) (omega arith) (eqb-true _ _ e) is
    step false e = is

first_run : (b : ℕ) (ls : List (List ℕ))
    → (run : List ℕ) × (rest : List (List ℕ))
    × (filter (λ run. not (is_empty run)) (onto_first b ls) ≡ (b ∷ run) ∷ rest)
first_run b [] = ([], [], refl)
first_run b (l ∷ ls) = (l, filter (λ run. not (is_empty run)) ls, refl)

comment-first : (line : List ℕ) → begins_comment line ≡ true
    → (run : List ℕ) × (rest : List (List ℕ)) × (fields line ≡ (99 ∷ run) ∷ rest)
unfolding fields
comment-first [] is = absurd (cc)
comment-first (b ∷ bs) is = step (is_blank b) refl (λ rest. comment-first bs rest)
  where
    step : (test : Bool) → is_blank b ≡ test
        → (begins_comment bs ≡ true
        → (run : List ℕ) × (rest : List (List ℕ)) × (fields bs ≡ (99 ∷ run) ∷ rest))
        → (run : List ℕ) × (rest : List (List ℕ)) × (fields (b ∷ bs) ≡ (99 ∷ run) ∷ rest)
    step true e later =
        let next = later (rw e at is) in (next.0, next.1, fields_after_blank b bs e ∙ next.2)
    step false e later =
        let letter : b ≡ 99 = eqb-true b 99 (rw e at is) in
        let first = first_run b (slice_split is_blank bs) in (
          first.0,
          first.1,
          ap (λ ls. filter (λ run. not (is_empty run)) ls) (slice_split-cons_no is_blank b bs e)
              ∙ first.2
              ∙ ap (λ x. (x ∷ first.0) ∷ first.1) letter,
        )

pub comment_filled : (line : List ℕ) → begins_comment line ≡ true → 0 < length line
comment_filled [] is = absurd (cc)
comment_filled (b ∷ bs) is = omega arith

-- its first field begins with the letter
pub comment_fields : (line : List ℕ) → begins_comment line ≡ true
    → (run : List ℕ) × (rest : List (List ℕ)) × (fields (without_cr line) ≡ (99 ∷ run) ∷ rest)
comment_fields line is = comment-first (without_cr line) (comment-no_cr line is)

-- the letter after blanks
pub comment_here : (line rest : List ℕ) → SkipsBlanks line rest → (length rest ≡ 0 → ⊥) → get_or rest 0 0 ≡ 99
    → begins_comment line ≡ true
comment_here line [] s filled is = absurd (filled refl)
comment_here line (b ∷ bs) s filled is =
    ap (λ l. begins_comment l) s.1.joined
    ∙ comment-blanks s.0 (b ∷ bs) s.1.alike
    ∙ subst (λ x. begins_comment (x ∷ bs) ≡ true) (sym is) refl

-- ---- what it says

-- nothing in a job,
pub comment_reading : (vertices : ℕ) (line : List ℕ) → begins_comment line ≡ true → reading vertices line ≡ Ok None
unfolding reading fields_reading
comment_reading vertices line is = ap (λ fs. fields_reading vertices fs) (comment_fields line is).2

-- where it begins no section,
pub comment_begins_none : (line : List ℕ) → begins_comment line ≡ true → begins_section line ≡ false
unfolding begins_section
comment_begins_none line is = ap (λ fs. begins_with front fs) (comment_fields line is).2

-- nor after a graph
pub comment_after : (n : ℕ) (line : List ℕ) → begins_comment line ≡ true → reading_after n line ≡ Ok None
comment_after n line is = others_say n line (comment_begins_none line is) ∙ comment_reading n line is
