-- The records of a whole request are within their limits, and so is its job.
use Rattle.std.proofs.Common.{◌≡◌, ◌≤◌, ℕ, ◌-◌, Bool, true, false, ◌&&◌, leb, cond, List, [], ◌∷◌, ◌++◌, length, map, get_or}
use Rattle.std.proofs.Common.{Option, Some, None, Result, Ok, Err, All, refl, sym, ap, subst, append-nil, ◌∙◌, arith}
use Rattle.std.proofs.lemmas.Bool.{and_parts}
use Rattle.std.proofs.lemmas.List.Elements.{All-nil}
use Rattle.route_walks.specs.declared.graph.ArcRec.{ArcRec}
use Rattle.route_walks.specs.declared.graph.TheConstants.{INF, MAX_VERTICES}
use Rattle.dimacs_text.specs.declared.fault.LineKind.{LineKind}
use Rattle.dimacs_text.specs.declared.form.Form.{Form}
use Rattle.dimacs_text.specs.declared.form.Form.TheVariants.{Head}
use Rattle.dimacs_text.specs.declared.form.Section.TheVariants.{Sources, Pairs, Added}
use Rattle.dimacs_text.specs.declared.form.TheConstants.{MAX_QUERIES, MAX_TEXT_ARCS}
use Rattle.dimacs_text.specs.declared.head.HeadForm.{HeadForm}
use Rattle.dimacs_text.specs.declared.head.HeadForm.TheVariants as head_form
use Rattle.dimacs_text.specs.declared.head.SectionHead.{SectionHead}
use Rattle.dimacs_text.specs.Lines.{fields, without_cr}
use Rattle.dimacs_text.specs.Forms.{Record, fields_reading, in_form, in_limits, limits, numbers_within, up_to, vertices_next}
use Rattle.dimacs_text.specs.Jobs.{Content, Question, absent, from_sources, of_pairs, arc_record, source_record}
use Rattle.dimacs_text.specs.Jobs.{pair_record, problem_record, records_of, records_of_question, records_of_added}
use Rattle.dimacs_text.specs.Jobs.{records_among, sources_record, IsAddedWithin, IsArcWithin, IsQuestionWithin}
use Rattle.dimacs_text.specs.Jobs.{IsWithinLimits}
use Rattle.dimacs_text.specs.Heads.{after_front, begins_section, head_in}
use Rattle.dimacs_text.specs.AfterGraph.{after_graph, head_reading, reading_after, section_reading, sources_reading}
use Rattle.dimacs_text.specs.AfterGraph.{within_limits, IsWhole}
use Rattle.dimacs_text.proofs.FormLemmas.{said_within}
use Rattle.dimacs_text.proofs.Limits.{IsWithin, AreWithin, fields_within, question_within, added_within}
use Rattle.dimacs_text.proofs.TextLaws.{graph_first, rest_of}

-- each record is within its limits, where vertices count to the same number
abbrev pub AllWithin : ℕ → List Record → Type 0
AllWithin n [] = Unit {0}
AllWithin n (r ∷ rs) = IsWithin n r × AllWithin n rs

-- the head of a section within a bound has as many numbers as its limits, and the second counts sources
count_within : (vs : List ℕ) → in_limits within_limits vs ≡ true → in_limits (up_to MAX_QUERIES ∷ []) (get_or vs 1 0 ∷ []) ≡ true
count_within [] e = absurd (cc)
count_within (v ∷ []) e = absurd (let both = and_parts (leb 0 v && leb v (INF - 1)) false e in cc)
count_within (v ∷ w ∷ []) e =
    (and_parts (leb 0 v && leb v (INF - 1)) (in_limits (up_to MAX_QUERIES ∷ []) (w ∷ [])) e).1
count_within (v ∷ w ∷ u ∷ us) e =
    absurd
    (let both = and_parts (leb 0 v && leb v (INF - 1)) (in_limits (up_to MAX_QUERIES ∷ []) (w ∷ u ∷ us)) e in
    let more = and_parts (leb 0 w && leb w MAX_QUERIES) false both.1 in
    cc)

head_within : (n : ℕ) (fs : List (List ℕ)) (res : Result (List ℕ) LineKind) (r : Record)
    → numbers_within within_limits fs ≡ res → sources_reading res ≡ Ok (Some r)
    → IsWithin n r
head_within n fs (Ok vs) r is e =
    let same : sources_record (get_or vs 1 0) ≡ r = cc in
    subst (λ x. IsWithin n x) same (count_within vs (said_within within_limits fs vs is))
head_within n fs (Err kind) r is e = absurd (cc)

form_within : (n : ℕ) (form : Form) (fs : List (List ℕ)) (res : Result (List ℕ) LineKind) (r : Record)
    → numbers_within (limits n form) fs ≡ res → in_form form res ≡ Ok (Some r)
    → IsWithin n r
form_within n form fs (Ok vs) r is e =
    let same : record { form = form; numbers = vs } ≡ r = cc in
    subst (λ x. IsWithin n x) same (said_within (limits n form) fs vs is)
form_within n form fs (Err kind) r is e = absurd (cc)

numbered_within : (n : ℕ) (form : HeadForm) (fs : List (List ℕ)) (r : Record)
    → head_reading n form fs ≡ Ok (Some r)
    → IsWithin n r
numbered_within n head_form.Within fs r e = head_within n fs (numbers_within within_limits fs) r refl e
numbered_within n head_form.Sources fs r e =
    form_within n (Head Sources) fs (numbers_within (limits n (Head Sources)) fs) r refl e
numbered_within n head_form.Pairs fs r e =
    form_within n (Head Pairs) fs (numbers_within (limits n (Head Pairs)) fs) r refl e
numbered_within n head_form.Walk fs r e =
    form_within n (Head Pairs) fs (numbers_within (limits n (Head Pairs)) fs) r refl e
numbered_within n head_form.Added fs r e =
    form_within n (Head Added) fs (numbers_within (limits n (Head Added)) fs) r refl e
numbered_within n head_form.Removed fs r e =
    form_within n (Head Pairs) fs (numbers_within (limits n (Head Pairs)) fs) r refl e
numbered_within n head_form.Replaced fs r e =
    form_within n (Head Added) fs (numbers_within (limits n (Head Added)) fs) r refl e
numbered_within n head_form.Listed fs r e =
    form_within n (Head Pairs) fs (numbers_within (limits n (Head Pairs)) fs) r refl e

line_within : (n : ℕ) (l : List ℕ) (r : Record) (b : Bool) (head : Option (SectionHead × List (List ℕ)))
    → cond b (section_reading n head) (fields_reading n (fields (without_cr l))) ≡ Ok (Some r)
    → IsWithin n r
line_within n l r true None e = absurd (cc)
line_within n l r true (Some head) e = numbered_within n head.0.form head.1 r e
line_within n l r false head e = fields_within n (fields (without_cr l)) r e

pub lines_within : (n : ℕ) (ls : List (List ℕ)) (said : List (Option Record))
    → map (λ l. reading_after n l) ls ≡ map (λ s. Ok s) said
    → AllWithin n (records_among said)
unfolding reading_after
lines_within n [] [] e = tt
lines_within n [] (s ∷ said) e = absurd (cc)
lines_within n (l ∷ ls) [] e = absurd (cc)
lines_within n (l ∷ ls) (None ∷ said) e =
    let rest : map (λ l. reading_after n l) ls ≡ map (λ s. Ok s) said = cc in
    lines_within n ls said rest
lines_within n (l ∷ ls) (Some r ∷ said) e =
    let first : reading_after n l ≡ Ok (Some r) = cc in
    let rest : map (λ l. reading_after n l) ls ≡ map (λ s. Ok s) said = cc in
    (line_within n l r (begins_section l) (head_in (after_front l)) first, lines_within n ls said rest)

-- so they are, one after the other, where none is a problem line
items_within : {X : Type 0} (n : ℕ) (rec : X → Record) (xs : List X) (rest : List Record)
    → ((x : X) → vertices_next n (rec x).form (get_or (rec x).numbers 0 0) ≡ n)
    → (AllWithin n rest → AreWithin n rest) → AllWithin n (map rec xs ++ rest)
    → AreWithin n (map rec xs ++ rest)
items_within n rec [] rest same later all = later all
items_within n rec (x ∷ xs) rest same later all = (
  all.0,
  subst (λ v. AreWithin v (map rec xs ++ rest)) (sym (same x)) (items_within n rec xs rest same later all.1),
)

added_all : (n : ℕ) (added : Option (List ArcRec))
    → AllWithin n (records_of_added added)
    → AreWithin n (records_of_added added)
added_all n None all = tt
added_all n (Some arcs) all = (
  all.0,
  subst (λ rs. AreWithin n rs) (append-nil (map arc_record arcs))
      (items_within n arc_record arcs [] (λ arc. refl) (λ none. tt)
      (subst (λ rs. AllWithin n rs) (sym (append-nil (map arc_record arcs))) all.1)),
)

question_all : (n : ℕ) (q : Question) (added : Option (List ArcRec))
    → AllWithin n (records_of_question q ++ records_of_added added)
    → AreWithin n (records_of_question q ++ records_of_added added)
question_all n absent added all = added_all n added all
question_all n (from_sources vs) added all =
    (all.0, items_within n source_record vs (records_of_added added) (λ v. refl) (added_all n added) all.1)
question_all n (of_pairs ps) added all =
    (all.0, items_within n pair_record ps (records_of_added added) (λ p. refl) (added_all n added) all.1)

no_items : {X : Type 0} (xs : List X) → 0 ≡ length xs → xs ≡ []
no_items [] e = refl
no_items (x ∷ xs) e = absurd (omega arith)

-- a request's job has the vertices of the graph, and no arcs
by_records : (job : Content) (n : ℕ) (rest : List Record)
    → problem_record n 0 ∷ rest ≡ records_of job
    → (job.n ≡ n) × (job.arcs ≡ []) × (rest ≡ rest_of job)
by_records job n rest e =
    let all : problem_record n 0 ∷ rest
    ≡ problem_record job.n (length job.arcs) ∷ (map arc_record job.arcs ++ rest_of job) =
    e ∙ graph_first job in
    let first : problem_record n 0 ≡ problem_record job.n (length job.arcs) = cc in
    let none : job.arcs ≡ [] = no_items job.arcs (ap (λ (r : Record). get_or r.numbers 1 0) first) in
    let later : rest ≡ map arc_record job.arcs ++ rest_of job = cc in (
      sym (ap (λ (r : Record). get_or r.numbers 0 0) first),
      none,
      later ∙ ap (λ arcs. map arc_record arcs ++ rest_of job) none,
    )

within_by : (n : ℕ) (ls : List (List ℕ)) (job : Content) (said : List (Option Record))
    → n ≤ MAX_VERTICES → after_graph n ls ≡ map (λ s. Ok s) said → records_among said ≡ records_of job
    → IsWithinLimits job × (job.n ≡ n) × (job.arcs ≡ [])
within_by n ls job [] few split is = absurd (cc)
within_by n ls job (None ∷ said) few split is = absurd (cc)
within_by n ls job (Some r ∷ said) few split is =
    let first : r ≡ problem_record n 0 = cc in
    let rest : map (λ l. reading_after n l) ls ≡ map (λ s. Ok s) said = cc in
    let parts =
    by_records job n (records_among said) (ap (λ (x : Record). x ∷ records_among said) (sym first) ∙ is) in
    let all = subst (λ rs. AllWithin n rs) parts.2 (lines_within n ls said rest) in
    let both = question_within n job.question (records_of_added job.added) (question_all n job.question job.added all) in (
      record {
        vertices = subst (λ v. v ≤ MAX_VERTICES) (sym parts.0) few;
        arc_count = subst (λ (arcs : List ArcRec). length arcs ≤ MAX_TEXT_ARCS) (sym parts.1) (omega arith);
        arcs = subst (λ arcs. All (IsArcWithin job.n) arcs) (sym parts.1) (All-nil (IsArcWithin job.n));
        question = subst (λ v. IsQuestionWithin v job.question) (sym parts.0) both.0;
        added = subst (λ v. IsAddedWithin v job.added) (sym parts.0) (added_within n job.added both.1);
      },
      parts.0,
      parts.1,
    )

pub request_within : (n : ℕ) (ls : List (List ℕ)) (job : Content)
    → n ≤ MAX_VERTICES → IsWhole n ls job
    → IsWithinLimits job × (job.n ≡ n) × (job.arcs ≡ [])
request_within n ls job few whole = within_by n ls job whole.is_job.0 few whole.is_job.1 whole.is_job.2
