-- Which form a line has, by its leading fields.
use Rattle.std.proofs.Common.{Option, ◌≡◌, ℕ, ◌+◌, ◌<◌, Bool, false, not, ◌&&◌, List, [], ◌∷◌, length, drop, get_or}
use Rattle.std.proofs.Common.{bytes_eq, find, Bor, refl, sym, ap, ◌∙◌}
use Rattle.std.proofs.lemmas.Bool.{ne_eqb}
use Rattle.std.proofs.Math.Bool.{not-not}
use Rattle.std.proofs.lemmas.List.{at_drop_more, drop-drop}
use Rattle.dimacs_text.specs.declared.form.Form.{Form}
use Rattle.dimacs_text.specs.Lines.{letter_c, without_cr, fields}
use Rattle.dimacs_text.specs.Forms.{form_of, record_reading, fields_reading, reading, begins_with}
use Rattle.dimacs_text.specs.reader.Entries.{fields_of}

-- one leading field is compared
pub lead_more : (lead : List (Bor (List ℕ))) (i : ℕ) (d : Bor (List ℕ)) (f : List ℕ)
    (fs gs : List (List ℕ)) (other : Bool)
    → i < length lead → gs ≡ f ∷ fs → other ≡ not (bytes_eq f (get_or lead i d).now)
    → begins_with (fields_of (drop i lead)) gs ≡ (not other && begins_with (fields_of (drop (i + 1) lead)) fs)
lead_more lead i d f fs gs other h e is =
    rw e (at_drop_more (λ l. begins_with (fields_of l) (f ∷ fs)) lead i d h
    ∙ ap (λ b. b && begins_with (fields_of (drop (i + 1) lead)) fs) (sym (ap (λ b. not b) is ∙ not-not _)))

-- a leading field more than the line has
pub lead_missing : (lead : List (Bor (List ℕ))) (i : ℕ) (d : Bor (List ℕ)) (gs : List (List ℕ))
    → i < length lead → gs ≡ []
    → begins_with (fields_of (drop i lead)) gs ≡ false
lead_missing lead i d gs h e = rw e (at_drop_more (λ l. begins_with (fields_of l) []) lead i d h)

pub drop_further : (i : ℕ) (f : List ℕ) (fs gs hs : List (List ℕ))
    → hs ≡ drop i gs → hs ≡ f ∷ fs
    → fs ≡ drop (i + 1) gs
drop_further i f fs gs hs e g = ap (λ l. drop 1 l) (sym g ∙ e) ∙ drop-drop 1 i gs

-- a form that the line does not have is passed by
pub find_further : (test : Form → Bool) (forms : List Form) (i : ℕ) (d : Form)
    → i < length forms → test (get_or forms i d) ≡ false
    → find test (drop i forms) ≡ find test (drop (i + 1) forms)
find_further test forms i d h other = at_drop_more (λ l. find test l) forms i d h ∙ rw other refl

-- a line that is neither blank nor a comment says what its form does
pub says_form : (n : ℕ) (line text f : List ℕ) (fs : List (List ℕ)) (o : Option Form)
    → text ≡ without_cr line → fields text ≡ f ∷ fs → (get_or f 0 0 ≡ letter_c → ⊥) → form_of (fields text) ≡ o
    → record_reading n o (fields text) ≡ reading n line
unfolding reading fields_reading
says_form n line text f fs o trimmed e other is =
    rw (← is, ← trimmed, e, ne_eqb (get_or f 0 0) letter_c other) refl
