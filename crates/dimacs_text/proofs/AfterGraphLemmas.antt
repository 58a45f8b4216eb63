-- What one line says after a graph, by its leading fields.
use Rattle.std.proofs.Common.{◌≡◌, ◌⊎◌, inl, inr, ℕ, Bool, true, false, cond, eqb, List, [], ◌∷◌, ◌++◌, drop, length, get_or}
use Rattle.std.proofs.Common.{codes, refl, sym, ap, ap₂, subst, ◌∙◌, Bor, Option, Some, None, Result, Ok, Err, MatchOption, bytes_eq, find}
use Rattle.std.proofs.lemmas.Bool.{and_parts}
use Rattle.std.proofs.lemmas.Slice.Eq.{bytes_eq-Decides}
use Rattle.dimacs_text.specs.declared.fault.LineKind.{LineKind}
use Rattle.dimacs_text.specs.declared.fault.LineKind.TheVariants.{Unknown}
use Rattle.dimacs_text.specs.declared.form.Form.{Form}
use Rattle.dimacs_text.specs.declared.form.Form.TheVariants.{Head, Counted}
use Rattle.dimacs_text.specs.declared.form.Section.TheVariants.{Problem, Sources, Pairs, Added}
use Rattle.dimacs_text.specs.declared.head.HeadForm.{HeadForm}
use Rattle.dimacs_text.specs.declared.head.HeadForm.TheVariants as head_form
use Rattle.dimacs_text.specs.declared.head.SectionHead.{SectionHead}
use Rattle.dimacs_text.specs.Lines.{fields, without_cr}
use Rattle.dimacs_text.specs.Forms.{Record, Reading, begins_with, fields_reading, form_of, forms, in_form, leading, limits}
use Rattle.dimacs_text.specs.Forms.{numbers_within, reading, record_reading}
use Rattle.dimacs_text.specs.Heads.{after_front, begins_section, front, head_in}
use Rattle.dimacs_text.specs.Jobs.{sources_record}
use Rattle.dimacs_text.specs.AfterGraph.{head_of, head_reading, is_later, reading_after, section_reading, sources_reading}
use Rattle.dimacs_text.specs.AfterGraph.{with_bound, within_limits}
use Rattle.dimacs_text.specs.reader.Entries.{FollowsLeading}

-- ---- by whether it is a section line

abbrev pub reading_by : ℕ → List ℕ → Bool → Reading
reading_by n line b =
    cond b (section_reading n (head_in (after_front line))) (fields_reading n (fields (without_cr line)))

-- a section line says what its head does
pub section_says_head : (n : ℕ) (line : List ℕ) (fs : List (List ℕ)) (head : Option (SectionHead × List (List ℕ)))
    → begins_section line ≡ true → fs ≡ after_front line → head_in fs ≡ head
    → reading_after n line ≡ section_reading n head
unfolding reading_after
section_says_head n line fs head is after found =
    ap (λ b. reading_by n line b) is
    ∙ ap (λ l. section_reading n (head_in l)) (sym after)
    ∙ ap (λ h. section_reading n h) found

-- any other line says what it says in a job
pub others_say : (n : ℕ) (line : List ℕ) → begins_section line ≡ false → reading_after n line ≡ reading n line
unfolding reading_after reading
others_say n line is = ap (λ b. reading_by n line b) is

-- a section line is its head,
pub section_head : (line : List ℕ) (fs : List (List ℕ)) (head : Option (SectionHead × List (List ℕ)))
    → begins_section line ≡ true → fs ≡ after_front line → head_in fs ≡ head
    → head_of line ≡ with_bound head
unfolding head_of
section_head line fs head is after found =
    ap (λ b. cond b (with_bound (head_in (after_front line))) None) is
    ∙ ap (λ l. with_bound (head_in l)) (sym after)
    ∙ ap (λ h. with_bound h) found

-- and no other line is one
pub others_no_head : (line : List ℕ) → begins_section line ≡ false → head_of line ≡ None
unfolding head_of
others_no_head line is = ap (λ b. cond b (with_bound (head_in (after_front line))) None) is

-- what follows the leading fields of a line
pub stripped : (own lead fs gs : List (List ℕ)) (result : Option (Bor (List ℕ)))
    → lead ≡ own → gs ≡ fs
    → MatchOption result (begins_with lead gs ≡ false) (λ rest. FollowsLeading lead gs (fields rest.now))
    → MatchOption result (begins_with own fs ≡ false)
    (λ rest. (begins_with own fs ≡ true) × (fields rest.now ≡ drop (length own) fs))
stripped own lead fs gs result is same found =
    subst
    (λ l.
    MatchOption result (begins_with l fs ≡ false)
    (λ rest. (begins_with l fs ≡ true) × (fields rest.now ≡ drop (length l) fs))) is
    (subst
    (λ l.
    MatchOption result (begins_with lead l ≡ false)
    (λ rest. (begins_with lead l ≡ true) × (fields rest.now ≡ drop (length lead) l))) same found)

-- the fields that lead are those that a line begins with
pub begins_known : (lead fs : List (List ℕ))
    → begins_with lead fs ≡ true
    → (rest : List (List ℕ)) × (fs ≡ lead ++ rest)
begins_known [] fs e = (fs, refl)
begins_known (w ∷ lead) [] e = absurd (cc)
begins_known (w ∷ lead) (f ∷ fs) e =
    let both = and_parts (bytes_eq f w) (begins_with lead fs) e in
    let later = begins_known lead fs both.1 in
    (later.0, ap₂ (λ x l. x ∷ l) ((bytes_eq-Decides f w).0 both.0) later.1)

-- ---- a section line says a head of a later section, or is wrong

abbrev pub SaysSection : Reading → Type 0
SaysSection r =
    ((kind : LineKind) × (r ≡ Err kind))
    ⊎ ((head : Record) × (r ≡ Ok (Some head)) × (is_later (Some head.form) ≡ true))

in_form_says : (form : Form) (r : Result (List ℕ) LineKind) → is_later (Some form) ≡ true → SaysSection (in_form form r)
in_form_says form (Ok vs) later = inr (record { form = form; numbers = vs }, refl, later)
in_form_says form (Err kind) later = inl (kind, refl)

within_says : (r : Result (List ℕ) LineKind) → SaysSection (sources_reading r)
within_says (Ok vs) = inr (sources_record (get_or vs 1 0), refl, refl)
within_says (Err kind) = inl (kind, refl)

head_says : (n : ℕ) (form : HeadForm) (fs : List (List ℕ)) → SaysSection (head_reading n form fs)
head_says n head_form.Within fs = within_says (numbers_within within_limits fs)
head_says n head_form.Sources fs = in_form_says (Head Sources) (numbers_within (limits n (Head Sources)) fs) refl
head_says n head_form.Pairs fs = in_form_says (Head Pairs) (numbers_within (limits n (Head Pairs)) fs) refl
head_says n head_form.Walk fs = in_form_says (Head Pairs) (numbers_within (limits n (Head Pairs)) fs) refl
head_says n head_form.Added fs = in_form_says (Head Added) (numbers_within (limits n (Head Added)) fs) refl
head_says n head_form.Removed fs = in_form_says (Head Pairs) (numbers_within (limits n (Head Pairs)) fs) refl
head_says n head_form.Replaced fs = in_form_says (Head Added) (numbers_within (limits n (Head Added)) fs) refl
head_says n head_form.Listed fs = in_form_says (Head Pairs) (numbers_within (limits n (Head Pairs)) fs) refl

pub section_says : (n : ℕ) (line : List ℕ) → begins_section line ≡ true → SaysSection (reading_after n line)
section_says n line is =
    subst SaysSection (sym (section_says_head n line (after_front line) (head_in (after_front line)) is refl refl))
    (by_head (head_in (after_front line)))
  where
    by_head : (head : Option (SectionHead × List (List ℕ))) → SaysSection (section_reading n head)
    by_head None = inl (Unknown, refl)
    by_head (Some head) = head_says n head.0.form head.1

-- a line that says nothing begins no section
pub silent_begins : (n : ℕ) (line : List ℕ) → reading_after n line ≡ Ok None → begins_section line ≡ false
silent_begins n line e = by_line (begins_section line) refl
  where
    by_reading : SaysSection (reading_after n line) → ⊥
    by_reading (inl (kind, wrong)) = cc
    by_reading (inr (head, said, later)) = cc

    by_line : (b : Bool) → begins_section line ≡ b → begins_section line ≡ false
    by_line false is = is
    by_line true is = absurd (by_reading (section_says n line is))

-- ---- any other line says no such head

-- a line that has the form of a later section begins as a section line does
front_known : (fs : List (List ℕ)) (word : List ℕ)
    → begins_with (front ++ word ∷ []) fs ≡ true
    → begins_with front fs ≡ true
front_known fs word e =
    let known = begins_known (front ++ word ∷ []) fs e in
    subst (λ l. begins_with front l ≡ true) (sym known.1) refl

front_by : (fs : List (List ℕ)) (form : Form)
    → is_later (Some form) ≡ true → begins_with (leading form) fs ≡ true
    → begins_with front fs ≡ true
front_by fs (Counted item) later e = absurd (cc)
front_by fs (Head Problem) later e = absurd (cc)
front_by fs (Head Sources) later e = front_known fs (codes "ss") e
front_by fs (Head Pairs) later e = front_known fs (codes "p2p") e
front_by fs (Head Added) later e = front_known fs (codes "add") e

later_found : (test : Form → Bool) (all : List Form)
    → is_later (find test all) ≡ true
    → (form : Form) × (is_later (Some form) ≡ true) × (test form ≡ true)
later_found test [] e = absurd (cc)
later_found test (form ∷ all) e = by_test (test form) refl e (λ later. later_found test all later)
  where
    by_test : (b : Bool) → test form ≡ b → is_later (cond b (Some form) (find test all)) ≡ true
        → (is_later (find test all) ≡ true → (form : Form) × (is_later (Some form) ≡ true) × (test form ≡ true))
        → (form : Form) × (is_later (Some form) ≡ true) × (test form ≡ true)
    by_test true is later among = (form, later, is)
    by_test false is later among = among later

-- the form of a line that is no section line is none of those
pub others_form : (fs : List (List ℕ)) → begins_with front fs ≡ false → is_later (form_of fs) ≡ false
others_form fs none = by_form (is_later (form_of fs)) refl
  where
    by_form : (b : Bool) → is_later (form_of fs) ≡ b → is_later (form_of fs) ≡ false
    by_form false is = is
    by_form true is =
        let found = later_found (λ form. begins_with (leading form) fs) forms is in
        let one = front_by fs found.0 found.1 found.2 in
        absurd (cc)

-- what a line has the form of is known from its record
later_record : (n : ℕ) (o : Option Form) (fs : List (List ℕ)) (r : Record)
    → record_reading n o fs ≡ Ok (Some r)
    → is_later o ≡ is_later (Some r.form)
later_record n None fs r e = absurd (cc)
later_record n (Some form) fs r e = by_numbers (numbers_within (limits n form) (drop (length (leading form)) fs)) e
  where
    by_numbers : (res : Result (List ℕ) LineKind)
        → in_form form res ≡ Ok (Some r)
        → is_later (Some form) ≡ is_later (Some r.form)
    by_numbers (Ok vs) is =
        let same : record { form = form; numbers = vs } ≡ r = cc in
        ap (λ (x : Record). is_later (Some x.form)) same
    by_numbers (Err kind) is = absurd (cc)

later_field : (n : ℕ) (f : List ℕ) (fs : List (List ℕ)) (r : Record) (comment : Bool)
    → cond comment (Ok None) (record_reading n (form_of (f ∷ fs)) (f ∷ fs)) ≡ Ok (Some r)
    → is_later (form_of (f ∷ fs)) ≡ is_later (Some r.form)
later_field n f fs r true e = absurd (cc)
later_field n f fs r false e = later_record n (form_of (f ∷ fs)) (f ∷ fs) r e

later_fields : (n : ℕ) (fs : List (List ℕ)) (r : Record)
    → fields_reading n fs ≡ Ok (Some r)
    → is_later (form_of fs) ≡ is_later (Some r.form)
unfolding fields_reading
later_fields n [] r e = absurd (cc)
later_fields n (f ∷ fs) r e = later_field n f fs r (eqb (get_or f 0 0) 99) e

others_later : (n : ℕ) (line : List ℕ) (r : Record)
    → begins_section line ≡ false → reading n line ≡ Ok (Some r)
    → is_later (Some r.form) ≡ false
unfolding begins_section reading
others_later n line r is e =
    sym (later_fields n (fields (without_cr line)) r e) ∙ others_form (fields (without_cr line)) is

-- a line that says a record begins a section if the record does
pub record_begins : (n : ℕ) (line : List ℕ) (r : Record)
    → reading_after n line ≡ Ok (Some r)
    → begins_section line ≡ is_later (Some r.form)
record_begins n line r e = by_line (begins_section line) refl
  where
    by_reading : SaysSection (reading_after n line) → is_later (Some r.form) ≡ true
    by_reading (inl (kind, wrong)) = absurd (cc)
    by_reading (inr (head, said, later)) =
        let same : head ≡ r = cc in
        subst (λ (x : Record). is_later (Some x.form) ≡ true) same later

    by_line : (b : Bool) → begins_section line ≡ b → begins_section line ≡ is_later (Some r.form)
    by_line true is = is ∙ sym (by_reading (section_says n line is))
    by_line false is = is ∙ sym (others_later n line r is (sym (others_say n line is) ∙ e))
