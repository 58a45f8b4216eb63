-- How lines and fields come off the front of a text, and what digits are worth.
use Rattle.std.proofs.Common.{cond, Option, None, ◌≡◌, ℕ, zero, suc, ◌+◌, ◌-◌, ◌*◌, ◌<◌, ◌≤◌, Bool, ◌&&◌, true, false}
use Rattle.std.proofs.Common.{not, eqb, List, [], ◌∷◌, ◌++◌, length, take, drop, get_or, Some, option_map, refl, sym}
use Rattle.std.proofs.Common.{ap, subst, ◌∙◌, arith, add-one, drop-cons, take-append-drop, drop_of_length-le}
use Rattle.std.proofs.Common.{eq-or-lt_of_le, ◌⊎◌, inl, inr, length-drop, get_or-drop, drop-drop}
use native.Mathlib.Numerals.{unary_clauses}
use Rattle.std.specs.List.{onto_first, slice_split}
use Rattle.std.specs.Str.{all_ascii_digits}
use Rattle.std.specs.Str.Parse.{digits_value, digits_value_after}
use Rattle.std.specs.Char.{digit_value, is_ascii_digit}
use Rattle.std.proofs.lemmas.Bool.{ne_eqb, eqb-true}
use Rattle.std.proofs.lemmas.List.{drop_more}
use Rattle.std.proofs.lemmas.Bool.Decides.{nat_tests}
use Rattle.std.proofs.lemmas.List.Splits.{slice_split-cons_yes, slice_split-cons_no}
use Rattle.dimacs_text.specs.Lines.{lines, is_blank, fields, number}
use Rattle.dimacs_text.specs.reader.FastArc.{HasNoFeed}
use Rattle.dimacs_text.specs.reader.Pieces.{Begins, AreBlank, SplitsAfter, SkipsBlanks, SplitsRun, capped}

lines-feed : (b : ℕ) (bs : List ℕ) → b ≡ 10 → lines (b ∷ bs) ≡ [] ∷ lines bs
lines-feed b bs e = rw e refl

lines-other : (b : ℕ) (bs : List ℕ) → (b ≡ 10 → ⊥) → lines (b ∷ bs) ≡ onto_first b (lines bs)
lines-other b bs ne = rw (ne_eqb b 10 ne) refl

lines_cut : (bs : List ℕ) (i : ℕ) (more : List ℕ)
    → i < length bs → ((k : ℕ) → k < i → get_or bs k 0 ≡ 10 → ⊥) → get_or bs i 0 ≡ 10
    → lines (bs ++ more) ≡ take i bs ∷ lines (drop (i + 1) bs ++ more)
lines_cut [] i more small none here = absurd (omega arith)
lines_cut (b ∷ bs) zero more small none here = lines-feed b (bs ++ more) here
lines_cut (b ∷ bs) (suc i) more small none here =
    simp unary_clauses
    (lines-other b (bs ++ more) (none 0 (omega arith))
    ∙ ap (λ ls. onto_first b ls)
    (simp unary_clauses at
    (lines_cut bs i more (omega arith) (λ k h e. none (suc k) (omega arith) e) here)))

-- a line and its line feed, whatever comes after
pub line_first : (line more : List ℕ) → HasNoFeed line 0 (length line) → lines (line ++ 10 ∷ more) ≡ line ∷ lines more
line_first [] more free = refl
line_first (b ∷ bs) more free =
    lines-other b (bs ++ 10 ∷ more) (free 0 (omega arith) (omega arith))
    ∙ ap (λ ls. onto_first b ls) (line_first bs more (λ k from to. free (suc k) (omega arith) (omega arith)))

-- the line from one place to a line feed, whatever comes after
pub line_split : (bytes : List ℕ) (start end : ℕ)
    → start ≤ end → end < length bytes → get_or bytes end 0 ≡ 10 → HasNoFeed bytes start end
    → (more : List ℕ)
    → lines (drop start bytes ++ more) ≡ take (end - start) (drop start bytes) ∷ lines (drop (end + 1) bytes ++ more)
line_split bytes start end after inside feed none more =
    lines_cut (drop start bytes) (end - start) more (omega (arith, length-drop start bytes))
    (λ k few e. none (start + k) (omega arith) (omega arith) (sym (get_or-drop start bytes k 0) ∙ e))
    (get_or-drop start bytes (end - start) 0 ∙ ap (λ n. get_or bytes n 0) (omega arith) ∙ feed)
    ∙ ap (λ l. take (end - start) (drop start bytes) ∷ lines (l ++ more))
    (drop-drop (end - start + 1) start bytes ∙ ap (λ n. drop n bytes) (omega arith))

pub lines_whole : (bs : List ℕ)
    → 0 < length bs → ((k : ℕ) → k < length bs → get_or bs k 0 ≡ 10 → ⊥)
    → lines bs ≡ bs ∷ []
lines_whole [] filled none = absurd (omega arith)
lines_whole (b ∷ []) filled none = lines-other b [] (none 0 (omega arith))
lines_whole (b ∷ c ∷ bs) filled none =
    lines-other b (c ∷ bs) (none 0 (omega arith))
    ∙ ap (λ ls. onto_first b ls)
    (lines_whole (c ∷ bs) (omega arith) (λ k h e. none (suc k) (omega arith) e))

pub fields_after_blank : (b : ℕ) (bs : List ℕ) → is_blank b ≡ true → fields (b ∷ bs) ≡ fields bs
unfolding fields
fields_after_blank b bs e = rw (slice_split-cons_yes is_blank b bs e) refl

pub fields-blanks : (blanks rest : List ℕ) → AreBlank true blanks → fields (blanks ++ rest) ≡ fields rest
fields-blanks [] rest all = refl
fields-blanks (b ∷ bs) rest all = fields_after_blank b (bs ++ rest) all.0 ∙ fields-blanks bs rest all.1

split-run : (run rest : List ℕ) (more : List (List ℕ))
    → AreBlank false run → slice_split is_blank rest ≡ [] ∷ more
    → slice_split is_blank (run ++ rest) ≡ run ∷ more
split-run [] rest more all ends = ends
split-run (b ∷ bs) rest more all ends =
    slice_split-cons_no is_blank b (bs ++ rest) all.0
    ∙ ap (λ ls. onto_first b ls) (split-run bs rest more all.1 ends)

pub fields-run : (run rest : List ℕ)
    → 0 < length run → AreBlank false run → Begins true rest
    → fields (run ++ rest) ≡ run ∷ fields rest
unfolding fields
fields-run [] rest some all ends = absurd (omega arith)
fields-run (b ∷ bs) [] some all ends = rw (split-run (b ∷ bs) [] [] all refl) refl
fields-run (b ∷ bs) (r ∷ rest) some all ends =
    let at = slice_split-cons_yes is_blank r rest ends in rw (split-run (b ∷ bs) (r ∷ rest) _ all at, at) refl

-- what holds of each byte before a place
pub blank_before : (answer : Bool) (bs : List ℕ) (i : ℕ)
    → i ≤ length bs → ((k : ℕ) → k < i → is_blank (get_or bs k 0) ≡ answer)
    → AreBlank answer (take i bs)
blank_before answer bs zero small each = tt
blank_before answer [] (suc i) small each = absurd (omega arith)
blank_before answer (b ∷ bs) (suc i) small each =
    (each 0 (omega arith), blank_before answer bs i (omega arith) (λ k h. each (suc k) (omega arith)))

pub splits : (answer : Bool) (bs : List ℕ) (i : ℕ)
    → i ≤ length bs → ((k : ℕ) → k < i → is_blank (get_or bs k 0) ≡ answer)
    → (i < length bs → is_blank (get_or bs i 0) ≡ not answer)
    → SplitsAfter answer bs (take i bs) (drop i bs)
splits answer bs i small each here =
    record {
      joined = sym (take-append-drop i bs);
      alike = blank_before answer bs i small each;
      ended = at_end (eq-or-lt_of_le small);
    }
  where
    at_end : (i ≡ length bs) ⊎ (i < length bs) → Begins (not answer) (drop i bs)
    at_end (inl e) = let none : drop i bs ≡ [] = drop_of_length-le bs (omega arith) in rw none tt
    at_end (inr lt) = rw (drop_more bs i 0 lt) (here lt)

pub next_none : (line rest : List ℕ) → SkipsBlanks line rest → rest ≡ [] → fields line ≡ []
unfolding fields
next_none line rest s e =
    ap (λ l. fields l) s.1.joined ∙ fields-blanks s.0 rest s.1.alike ∙ rw e refl

pub next_some : (line rest run more : List ℕ)
    → SkipsBlanks line rest → SplitsRun rest run more → (length rest ≡ 0 → ⊥)
    → (fields line ≡ run ∷ fields more) × (0 < length run)
next_some line rest [] [] s t filled = absurd (filled (ap (λ l. length l) t.joined))
next_some line rest [] (m ∷ ms) s t filled =
    let other = subst (λ l. Begins false l) t.joined s.1.ended in let blank = t.ended in absurd (cc)
next_some line rest (b ∷ bs) more s t filled = (
  ap (λ l. fields l) s.1.joined
      ∙ fields-blanks s.0 rest s.1.alike
      ∙ ap (λ l. fields l) t.joined
      ∙ fields-run (b ∷ bs) more (omega arith) t.alike t.ended,
  omega arith,
)

pub digit-value : (c : ℕ) → is_ascii_digit c ≡ true → digit_value c ≡ c - 48
digit-value c e = grind (arith, nat_tests)

-- the number that bytes are after digits of this worth
abbrev pub worth : ℕ → List ℕ → Option ℕ
worth value [] = Some value
worth value (b ∷ bs) = cond (is_ascii_digit b) (worth (capped (capped (value * 10) + (b - 48))) bs) None

worth_after : (cs : List ℕ) (n value : ℕ)
    → value ≡ capped n
    → worth value cs ≡ cond (all_ascii_digits cs) (Some (capped (digits_value_after 10 n cs))) None
worth_after [] n value e = ap (λ v. Some v) e
worth_after (c ∷ cs) n value e =
    where_digit (is_ascii_digit c) (all_ascii_digits cs) _ _
    (λ d. worth_after cs (n * 10 + digit_value c) _ (rw (digit-value c d) (omega arith)))
  where
    where_digit : (t u : Bool) (x y : Option ℕ)
        → (t ≡ true → x ≡ cond u y None)
        → cond t x None ≡ cond (t && u) y None
    where_digit true u x y f = f refl
    where_digit false u x y f = refl

pub worth_start : (field : List ℕ) → (length field ≡ 0 → ⊥) → option_map capped (number field) ≡ worth 0 field
unfolding number
worth_start [] filled = absurd (filled refl)
worth_start (f ∷ fs) filled = sym (worth_after (f ∷ fs) 0 0 refl ∙ by_test (all_ascii_digits (f ∷ fs)))
  where
    by_test : (b : Bool)
        → cond b (Some (capped (digits_value 10 (f ∷ fs)))) None
        ≡ option_map capped (cond b (Some (digits_value 10 (f ∷ fs))) None)
    by_test true = refl
    by_test false = refl

pub empty_length : (bs : List ℕ) → eqb (length bs) 0 ≡ true → bs ≡ []
empty_length [] e = refl
empty_length (b ∷ bs) e = absurd (let none = eqb-true (length (b ∷ bs)) 0 e in omega arith)

pub drop_next : (bs : List ℕ) (i : ℕ) → i < length bs → drop i bs ≡ get_or bs i 0 ∷ drop (i + 1) bs
drop_next bs i small = rw (add-one, drop-cons bs i 0) refl

pub filled_length : (bs : List ℕ) → eqb (length bs) 0 ≡ false → 0 < length bs
filled_length [] e = absurd (cc)
filled_length (b ∷ bs) e = omega arith
