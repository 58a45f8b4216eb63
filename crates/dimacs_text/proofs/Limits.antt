-- The records of a text are within their limits, and so is its job.
use Rattle.std.proofs.Common.{◌≡◌, ℕ, ◌<◌, Bool, true, false, eqb, cond, List, [], ◌∷◌, ◌++◌, length, map, drop}
use Rattle.std.proofs.Common.{get_or, Option, Some, None, Result, Ok, Err, All, refl, sym, subst, append-nil, ◌∙◌}
use Rattle.std.proofs.Common.{arith}
use Rattle.std.proofs.lemmas.Bool.Decides.{nat_tests}
use Rattle.std.proofs.lemmas.List.Elements.{All-nil, All-cons}
use Rattle.route_walks.specs.declared.graph.ArcRec.{ArcRec}
use Rattle.route_walks.specs.declared.graph.TheConstants.{MAX_VERTICES}
use Rattle.dimacs_text.specs.declared.fault.LineKind.{LineKind}
use Rattle.dimacs_text.proofs.FormLemmas.{said_within}
use Rattle.dimacs_text.proofs.TextLaws.{rest_of, graph_first}
use Rattle.dimacs_text.specs.Lines.{lines, fields, without_cr}
use Rattle.dimacs_text.specs.declared.form.Form.{Form}
use Rattle.dimacs_text.specs.Forms.{Record, leading, limits, in_limits, numbers_within, in_form, form_of}
use Rattle.dimacs_text.specs.Forms.{record_reading, fields_reading, reading, readings, vertices_next, vertices_after}
use Rattle.dimacs_text.specs.Jobs.{Content, Question, absent, from_sources, of_pairs, arc_record, source_record}
use Rattle.dimacs_text.specs.Jobs.{pair_record, records_of_question, records_of_added, records_among, IsJobText}
use Rattle.dimacs_text.specs.Jobs.{IsArcWithin, IsPairWithin, IsQuestionWithin, IsAddedWithin, IsWithinLimits}

-- each number of the record is within its limit
abbrev pub IsWithin : ℕ → Record → Type 0
IsWithin n r = in_limits (limits n r.form) r.numbers ≡ true

-- so are those of all records, where vertices count to the number that the problem line gives
abbrev pub AreWithin : ℕ → List Record → Type 0
AreWithin n [] = Unit {0}
AreWithin n (r ∷ rs) = IsWithin n r × AreWithin (vertices_next n r.form (get_or r.numbers 0 0)) rs

form_within : (n : ℕ) (form : Form) (fs : List (List ℕ)) (res : Result (List ℕ) LineKind) (r : Record)
    → numbers_within (limits n form) fs ≡ res → in_form form res ≡ Ok (Some r)
    → IsWithin n r
form_within n form fs (Ok vs) r is e =
    let same : record { form = form; numbers = vs } ≡ r = cc in
    subst (λ x. IsWithin n x) same (said_within (limits n form) fs vs is)
form_within n form fs (Err k) r is e = absurd (cc)

line_within : (n : ℕ) (comment : Bool) (o : Option Form) (fs : List (List ℕ)) (r : Record)
    → cond comment (Ok None) (record_reading n o fs) ≡ Ok (Some r)
    → IsWithin n r
line_within n true o fs r e = absurd (cc)
line_within n false None fs r e = absurd (cc)
line_within n false (Some form) fs r e =
    let args = drop (length (leading form)) fs in
    form_within n form args (numbers_within (limits n form) args) r refl e

pub fields_within : (n : ℕ) (fs : List (List ℕ)) (r : Record) → fields_reading n fs ≡ Ok (Some r) → IsWithin n r
unfolding fields_reading
fields_within n [] r e = absurd (cc)
fields_within n (f ∷ fs) r e = line_within n (eqb (get_or f 0 0) 99) (form_of (f ∷ fs)) (f ∷ fs) r e

pub all_within : (n : ℕ) (ls : List (List ℕ)) (s : List (Option Record))
    → readings n ls ≡ map (λ x. Ok x) s
    → AreWithin n (records_among s)
unfolding readings reading
all_within n [] [] e = tt
all_within n [] (x ∷ s) e = absurd (cc)
all_within n (l ∷ ls) [] e = absurd (cc)
all_within n (l ∷ ls) (x ∷ s) e =
    let first : fields_reading n (fields (without_cr l)) ≡ Ok x = cc in
    let rest : readings (vertices_after n (fields_reading n (fields (without_cr l)))) ls ≡ map (λ x. Ok x) s = cc in
    by_line x first
    (all_within (vertices_after n (Ok x)) ls s
    (subst (λ r. readings (vertices_after n r) ls ≡ map (λ x. Ok x) s) first rest))
  where
    by_line : (o : Option Record)
        → fields_reading n (fields (without_cr l)) ≡ Ok o → AreWithin (vertices_after n (Ok o)) (records_among s)
        → AreWithin n (records_among (o ∷ s))
    by_line None f later = later
    by_line (Some r) f later = (fields_within n (fields (without_cr l)) r f, later)

-- wherever vertices end, each record has as many numbers as its form, and within limits
abbrev pub IsShaped : Record → Type 0
IsShaped r = (n : ℕ) × IsWithin n r

abbrev pub AreShaped : List Record → Type 0
AreShaped [] = Unit {0}
AreShaped (r ∷ rs) = IsShaped r × AreShaped rs

pub all_shaped : (n : ℕ) (rs : List Record) → AreWithin n rs → AreShaped rs
all_shaped n [] w = tt
all_shaped n (r ∷ rs) w = ((n, w.0), all_shaped (vertices_next n r.form (get_or r.numbers 0 0)) rs w.1)

-- what the limits say of the records of a job
arcs_within : (n : ℕ) (arcs : List ArcRec) (rest : List Record)
    → AreWithin n (map arc_record arcs ++ rest)
    → All (IsArcWithin n) arcs × AreWithin n rest
arcs_within n [] rest w = (All-nil (IsArcWithin n), w)
arcs_within n (arc ∷ arcs) rest w =
    let later = arcs_within n arcs rest w.1 in
    let first = w.0 in
    let here : IsArcWithin n arc =
    record { tail = grind (arith, nat_tests); head = grind (arith, nat_tests); weight = grind (arith, nat_tests) } in
    (All-cons (IsArcWithin n) arc arcs here later.0, later.1)

sources_within : (n : ℕ) (vs : List ℕ) (rest : List Record)
    → AreWithin n (map source_record vs ++ rest)
    → All (λ v. v < n) vs × AreWithin n rest
sources_within n [] rest w = (All-nil (λ v. v < n), w)
sources_within n (v ∷ vs) rest w =
    let later = sources_within n vs rest w.1 in
    let first = w.0 in
    (All-cons (λ v. v < n) v vs (grind (arith, nat_tests)) later.0, later.1)

pairs_within : (n : ℕ) (ps : List (ℕ × ℕ)) (rest : List Record)
    → AreWithin n (map pair_record ps ++ rest)
    → All (IsPairWithin n) ps × AreWithin n rest
pairs_within n [] rest w = (All-nil (IsPairWithin n), w)
pairs_within n (p ∷ ps) rest w =
    let later = pairs_within n ps rest w.1 in
    let first = w.0 in
    (All-cons (IsPairWithin n) p ps (grind (arith, nat_tests), grind (arith, nat_tests)) later.0, later.1)

pub question_within : (n : ℕ) (q : Question) (rest : List Record)
    → AreWithin n (records_of_question q ++ rest)
    → IsQuestionWithin n q × AreWithin n rest
question_within n absent rest w = (tt, w)
question_within n (from_sources vs) rest w =
    let first = w.0 in
    let both = sources_within n vs rest w.1 in
    ((grind (arith, nat_tests), both.0), both.1)
question_within n (of_pairs ps) rest w =
    let first = w.0 in
    let both = pairs_within n ps rest w.1 in
    ((grind (arith, nat_tests), both.0), both.1)

pub added_within : (n : ℕ) (added : Option (List ArcRec)) → AreWithin n (records_of_added added) → IsAddedWithin n added
added_within n None w = tt
added_within n (Some arcs) w =
    let first = w.0 in
    let all = subst (λ rs. AreWithin n rs) (sym (append-nil (map arc_record arcs))) w.1 in
    (grind (arith, nat_tests), (arcs_within n arcs [] all).0)

pub job_within : (text : List ℕ) (job : Content) → IsJobText text job → IsWithinLimits job
unfolding IsJobText
job_within text job (said, reads, is) =
    let all =
    subst (λ rs. AreWithin MAX_VERTICES rs) (is ∙ graph_first job) (all_within MAX_VERTICES (lines text) said reads) in
    let first = all.0 in
    let both =
    arcs_within job.n job.arcs (rest_of job) all.1 in
    let asked = question_within job.n job.question (records_of_added job.added) both.1 in
    record {
      vertices = grind (arith, nat_tests);
      arc_count = grind (arith, nat_tests);
      arcs = both.0;
      question = asked.0;
      added = added_within job.n job.added asked.1;
    }
