-- What the line of an arc says, from the pieces that the fast way reads.
use Rattle.std.proofs.Common.{◌≡◌, ℕ, suc, ◌+◌, ◌-◌, ◌*◌, ◌<◌, ◌≤◌, Bool, true, false, ◌&&◌, eqb, List, []}
use Rattle.std.proofs.Common.{◌∷◌, ◌++◌, length, take, get_or, ◌⊎◌, inl, inr, Some, Ok, refl, sym, ap, subst, ◌∙◌}
use Rattle.std.proofs.Common.{append_assoc, arith, length-append, ap₂, leb, cond, eq-or-lt_of_le}
use native.Mathlib.Numerals.{unary_clauses}
use Rattle.std.specs.List.{onto_first}
use Rattle.std.specs.Str.{all_ascii_digits}
use Rattle.std.specs.Str.Parse.{digits_value}
use Rattle.std.specs.Char.{is_ascii_digit}
use Rattle.std.proofs.Math.Nat.{pow-le-pow_right}
use Rattle.std.proofs.lemmas.Grind.{pow_more}
use Rattle.std.proofs.lemmas.Int.Digits.{digits_value_push}
use Rattle.std.proofs.lemmas.Bool.{ne_eqb, and_parts}
use Rattle.std.proofs.lemmas.Bool.Decides.{nat_tests}
use Rattle.dimacs_text.specs.declared.form.Item.TheVariants.{Arc}
use Rattle.dimacs_text.specs.Lines.{without_cr, is_blank, fields, number}
use Rattle.dimacs_text.specs.reader.Pieces.{AreBlank, Begins}
use Rattle.dimacs_text.specs.declared.form.Form.TheVariants.{Counted}
use Rattle.dimacs_text.specs.Forms.{limits, in_form, in_limits, fields_reading, reading}
use Rattle.dimacs_text.specs.Jobs.{arc_record}
use Rattle.dimacs_text.specs.reader.FastArc.{EndsWithFeed, AreDigits, LeadsSpaced, EndsLine, IsArcLine}
use Rattle.dimacs_text.proofs.LineLemmas.{fields-blanks, fields-run, digit-value, drop_next}
use Rattle.dimacs_text.proofs.FormLemmas.{exact_numbers}

digits-push : (ds : List ℕ) (c : ℕ)
    → all_ascii_digits ds ≡ true → is_ascii_digit c ≡ true
    → all_ascii_digits (ds ++ c ∷ []) ≡ true
digits-push [] c e d = rw d refl
digits-push (x ∷ xs) c e d =
    let both = and_parts (is_ascii_digit x) (all_ascii_digits xs) e in rw both.0 (digits-push xs c both.1 d)

-- one byte more, which is a digit
pub digits_more : (bytes : List ℕ) (start end value : ℕ)
    → end < length bytes → AreDigits bytes start end value → is_ascii_digit (get_or bytes end 0) ≡ true
    → AreDigits bytes start (end + 1) (value * 10 + (get_or bytes end 0 - 48))
digits_more bytes start end value inside old is_digit =
    let b = get_or bytes end 0 in
    let before = old.small in
    let count = old.count in
    let small : b - 48 < 10 = grind (arith, nat_tests, is_digit) in
    let longer : length (old.digits ++ b ∷ []) ≡ length old.digits + 1 = length-append old.digits (b ∷ []) in
    record {
      digits = old.digits ++ b ∷ [];
      joined = old.joined ∙ rw (drop_next bytes end inside, append_assoc) refl;
      count = omega arith;
      all = digits-push old.digits b old.all is_digit;
      worth =
          digits_value_push 10 old.digits b
          ∙ ap₂ (λ v d. v * 10 + d) old.worth (digit-value b is_digit);
      small = rw (longer, pow_more) (omega arith);
    }

-- so few digits are a number that has room for one more
pub few_digits : (bytes : List ℕ) (start end value : ℕ)
    → end < start + 12 → AreDigits bytes start end value → value < 100000000000
few_digits bytes start end value few are =
    let small = are.small in
    let count = are.count in
    let most = pow-le-pow_right {n = 10} (omega arith) {i = length are.digits} {j = 11} (omega arith) in omega arith

-- a byte that is no line feed is not the last
pub not_last : (bytes : List ℕ) (at : ℕ)
    → EndsWithFeed bytes → at < length bytes → (get_or bytes at 0 ≡ 10 → ⊥)
    → at + 1 < length bytes
not_last bytes at ended inside other = by_order (eq-or-lt_of_le inside)
  where
    by_order : (suc at ≡ length bytes) ⊎ (suc at < length bytes) → at + 1 < length bytes
    by_order (inr less) = omega arith
    by_order (inl last) = absurd (other (ap (λ n. get_or bytes n 0) (omega arith) ∙ ended (omega arith)))

pub number_of_digits : (ds : List ℕ)
    → 0 < length ds → all_ascii_digits ds ≡ true
    → number ds ≡ Some (digits_value 10 ds)
unfolding number
number_of_digits [] some all = absurd (omega arith)
number_of_digits (d ∷ ds) some all = rw all refl

-- a byte more at the start of a line, which is neither a line feed nor a carriage return
line_more : (b : ℕ) (bytes text after : List ℕ)
    → (b ≡ 10 → ⊥) → (b ≡ 13 → ⊥) → EndsLine bytes text after
    → EndsLine (b ∷ bytes) (b ∷ text) after
line_more b bytes text after no_feed no_return e = record {
  whole = b ∷ e.whole;
  joined = ap (λ l. b ∷ l) e.joined;
  line = b ∷ e.line;
  split = λ more. rw (ne_eqb b 10 no_feed) (ap (λ ls. onto_first b ls) (e.split more));
  trimmed = rest_of e.line ∙ ap (λ l. b ∷ l) e.trimmed;
}
  where
    rest_of : (line : List ℕ) → without_cr (b ∷ line) ≡ b ∷ without_cr line
    rest_of [] = rw (ne_eqb b 13 no_return) refl
    rest_of (c ∷ cs) = simp unary_clauses (by_test (eqb (get_or (c ∷ cs) (length cs) 0) 13))
      where
        by_test : (t : Bool)
            → cond t (b ∷ take (length cs) (c ∷ cs)) (b ∷ c ∷ cs) ≡ b ∷ cond t (take (length cs) (c ∷ cs)) (c ∷ cs)
        by_test true = refl
        by_test false = refl

digits_lead : (ds bytes text after : List ℕ)
    → all_ascii_digits ds ≡ true → EndsLine bytes text after
    → EndsLine (ds ++ bytes) (ds ++ text) after
digits_lead [] bytes text after all e = e
digits_lead (d ∷ ds) bytes text after all e =
    let both = and_parts (is_ascii_digit d) (all_ascii_digits ds) all in
    let more = from_48 both.0 in
    line_more d (ds ++ bytes) (ds ++ text) after (λ f. omega arith) (λ f. omega arith)
    (digits_lead ds bytes text after both.1 e)
  where
    from_48 : is_ascii_digit d ≡ true → 48 ≤ d
    from_48 e = grind (arith, nat_tests)

number_leads : (bytes rest text after : List ℕ) (value : ℕ)
    → (s : LeadsSpaced bytes value rest) → EndsLine rest text after
    → EndsLine bytes (s.blank ∷ (s.digits ++ text)) after
number_leads bytes rest text after value s e =
    subst (λ l. EndsLine l (s.blank ∷ (s.digits ++ text)) after) (sym s.joined)
    (line_more s.blank _ _ after (no_end 10 refl) (no_end 13 refl) (digits_lead s.digits rest text after s.all e))
  where
    no_end : (b : ℕ) → is_blank b ≡ false → s.blank ≡ b → ⊥
    no_end b not_blank is = let blank = s.spaced in let same = ap (λ b. is_blank b) is in cc

digits_filled : (ds : List ℕ) → all_ascii_digits ds ≡ true → AreBlank false ds
digits_filled [] all = tt
digits_filled (d ∷ ds) all =
    let both = and_parts (is_ascii_digit d) (all_ascii_digits ds) all in
    (filled both.0, digits_filled ds both.1)
  where
    filled : is_ascii_digit d ≡ true → is_blank d ≡ false
    filled e = grind (arith, nat_tests)

field_leads : (bytes rest text : List ℕ) (value : ℕ)
    → (s : LeadsSpaced bytes value rest) → Begins true text
    → fields (s.blank ∷ (s.digits ++ text)) ≡ s.digits ∷ fields text
field_leads bytes rest text value s begins =
    fields-blanks (s.blank ∷ []) (s.digits ++ text) (s.spaced, tt)
    ∙ fields-run s.digits text s.filled (digits_filled s.digits s.all) begins

from_one : (n u : ℕ) → (leb 1 u && leb u n) ≡ true → u - 1 + 1 ≡ u
from_one n u e = grind (arith, nat_tests)

arc_reads : (n : ℕ) (line d e f : List ℕ) (u v w : ℕ)
    → fields (without_cr line) ≡ (97 ∷ []) ∷ d ∷ e ∷ f ∷ []
    → number d ≡ Some u → number e ≡ Some v → number f ≡ Some w
    → in_limits (limits n (Counted Arc)) (u ∷ v ∷ w ∷ []) ≡ true
    → reading n line ≡ Ok (Some (arc_record (record { tail = u - 1; head = v - 1; weight = w })))
unfolding reading fields_reading
arc_reads n line d e f u v w is du ev fw within =
    let first = and_parts (leb 1 u && leb u n) _ within in
    let second = and_parts (leb 1 v && leb v n) _ first.1 in
    rw (is, from_one n u first.0, from_one n v second.0)
    (ap (λ r. in_form (Counted Arc) r)
    (exact_numbers (limits n (Counted Arc)) (d ∷ e ∷ f ∷ []) (u ∷ v ∷ w ∷ []) refl (rw (du, ev, fw) refl) within))

none_left : fields [] ≡ []
unfolding fields
none_left = refl

arc_fields : (a b c d : List ℕ) (u v w : ℕ)
    → (s : LeadsSpaced a u b) (t : LeadsSpaced b v c) (r : LeadsSpaced c w d)
    → fields (97 ∷ s.blank ∷ (s.digits ++ t.blank ∷ (t.digits ++ r.blank ∷ (r.digits ++ []))))
    ≡ (97 ∷ []) ∷ s.digits ∷ t.digits ∷ r.digits ∷ []
arc_fields a b c d u v w s t r =
    rw (
      fields-run (97 ∷ []) _ (omega arith) (refl, tt) s.spaced,
      field_leads a b _ u s t.spaced,
      field_leads b c _ v t r.spaced,
      field_leads c d [] w r tt,
      none_left,
    ) refl

pub arc_line : (n : ℕ) (rest a b c d after : List ℕ) (u v w : ℕ)
    → rest ≡ 97 ∷ a → LeadsSpaced a u b → LeadsSpaced b v c → LeadsSpaced c w d → EndsLine d [] after
    → in_limits (limits n (Counted Arc)) (u ∷ v ∷ w ∷ []) ≡ true
    → IsArcLine n rest (record { tail = u - 1; head = v - 1; weight = w }) after
arc_line n rest a b c d after u v w e s t r end within =
    from_parts _ (arc_fields a b c d u v w s t r)
    (line_more 97 a _ after (λ e. cc) (λ e. cc)
    (number_leads a b _ after u s (number_leads b c _ after v t (number_leads c d [] after w r end))))
  where
    from_parts : (text : List ℕ)
        → fields text ≡ (97 ∷ []) ∷ s.digits ∷ t.digits ∷ r.digits ∷ [] → EndsLine (97 ∷ a) text after
        → IsArcLine n rest (record { tail = u - 1; head = v - 1; weight = w }) after
    from_parts text is all = record {
      whole = all.whole;
      joined = e ∙ all.joined;
      line = all.line;
      split = all.split;
      reads =
          arc_reads n all.line s.digits t.digits r.digits u v w (ap (λ l. fields l) all.trimmed ∙ is) s.worth t.worth
          r.worth within;
    }
