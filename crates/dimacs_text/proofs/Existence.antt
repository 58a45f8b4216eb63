-- Why each text is a job's or has a first fault.
use Rattle.std.proofs.Common.{◌≡◌, ℕ, zero, suc, ◌+◌, ◌-◌, true, ◌&&◌, leb, List, [], ◌∷◌, ◌++◌, length, map}
use Rattle.std.proofs.Common.{flat_map, replicate, get_or, ◌⊎◌, inl, inr, Option, Some, None, Ok, Err, refl, sym, ap}
use Rattle.std.proofs.Common.{ap₂, ◌∙◌, append-nil, arith, ◌<◌, ◌≤◌}
use Rattle.std.proofs.lemmas.Bool.{and_parts, ltb-true}
use Rattle.std.proofs.lemmas.Grind.{common_steps}
use Rattle.route_walks.specs.declared.graph.ArcRec.{ArcRec}
use Rattle.route_walks.specs.declared.graph.TheConstants.{MAX_VERTICES}
use Rattle.dimacs_text.specs.declared.form.Item.{Item}
use Rattle.dimacs_text.specs.declared.form.Limit.{Limit}
use Rattle.dimacs_text.specs.declared.form.Section.{Section}
use Rattle.dimacs_text.specs.declared.form.Section.TheVariants.{Problem, Sources, Pairs, Added}
use Rattle.dimacs_text.specs.declared.form.Item.TheVariants.{Arc, Source, Pair}
use Rattle.dimacs_text.specs.declared.fault.LineKind.{LineKind}
use Rattle.dimacs_text.specs.declared.fault.LineKind.TheVariants.{TooFew, NoProblem}
use Rattle.dimacs_text.specs.declared.form.Form.{Form}
use Rattle.dimacs_text.specs.declared.form.Form.TheVariants.{Head, Counted}
use Rattle.dimacs_text.specs.Grammar.{place, form_of_token, Token, opens, adds, Part, tokens_of, IsLegal, AreInTurn}
use Rattle.dimacs_text.specs.Grammar.{item_of}
use Rattle.dimacs_text.specs.Lines.{lines}
use Rattle.dimacs_text.specs.Forms.{reading, Record, Reading, readings, limits, in_limits}
use Rattle.dimacs_text.specs.declared.stage.Stage.{Stage}
use Rattle.dimacs_text.specs.declared.stage.Stage.TheVariants.{Start, Within}
use Rattle.dimacs_text.specs.reader.Machine.{run, misfit_at}
use Rattle.dimacs_text.specs.Jobs.{Content, Question, absent, from_sources, of_pairs, arc_record, source_record}
use Rattle.dimacs_text.specs.Jobs.{pair_record, problem_record, sources_record, pairs_record, added_record}
use Rattle.dimacs_text.specs.Jobs.{records_of, records_of_question, records_of_added, records_among, IsJobText}
use Rattle.dimacs_text.specs.Faults.{tokens_among, IsFirstAmong, unfinished, IsFirstFault}
use Rattle.dimacs_text.specs.reader.Drafts.{token_in, after_line, Progress, Fits, IsReadAmong, IsLackAt}
use Rattle.dimacs_text.proofs.FormLemmas.{are_within}
use Rattle.dimacs_text.proofs.Limits.{IsShaped, AreShaped, all_shaped, all_within}
use Rattle.dimacs_text.proofs.Machine.{run_begins, complete}
use Rattle.dimacs_text.proofs.TextLaws.{arc_back, source_back, pair_back, graph_first}
use Rattle.dimacs_text.proofs.DraftLemmas.{incomplete, form-token, all_said, line_leads, line_wrong}

-- the readings have a first fault, or all say something, and that is legal
abbrev FaultOrLegal : List Reading → Type 0
FaultOrLegal rs =
    ((line : ℕ) × (kind : LineKind) × IsFirstAmong rs line kind)
    ⊎ ((s : List (Option Record)) × (rs ≡ map (λ x. Ok x) s) × IsLegal (tokens_among s))

not_ended : (rs : List Reading) (said : List (Option Record)) (a : Stage) (kind : LineKind)
    → rs ≡ map (λ x. Ok x) said → run Start (tokens_among said) ≡ Some a → IsLackAt a kind
    → FaultOrLegal rs
not_ended rs said a kind e runs lack =
    let legal = incomplete (tokens_among said) a kind runs lack in
    inl (_, _, unfinished said e (run_begins (tokens_among said) a runs) legal refl refl)

at_the_end : (rs : List Reading) (said : List (Option Record)) (a : Stage)
    → rs ≡ map (λ x. Ok x) said → run Start (tokens_among said) ≡ Some a
    → FaultOrLegal rs
at_the_end rs said Start e runs = not_ended rs said Start NoProblem e runs refl
at_the_end rs said (Within s zero) e runs = inr (said, e, complete (tokens_among said) s runs)
at_the_end rs said (Within s (suc j)) e runs = not_ended rs said (Within s (suc j)) TooFew e runs refl

fault_or_legal : (ls all : List (List ℕ)) (line : ℕ) (p : Progress)
    → IsReadAmong all ls line p
    → FaultOrLegal (readings MAX_VERTICES all)
fault_or_legal [] all line p r = at_the_end (readings MAX_VERTICES all) r.said p.stage (all_said all line p r) r.stage
fault_or_legal (l ∷ ls) all line p r =
    by_reading (reading p.vertices l) refl
    (λ s e fits. fault_or_legal ls all (line + 1) (after_line p s) (line_leads p all ls l s line e fits r))
  where
    by_fit : (rec : Record) (o : Option LineKind)
        → reading p.vertices l ≡ Ok (Some rec) → misfit_at p.stage rec.form ≡ o
        → (misfit_at p.stage rec.form ≡ None → FaultOrLegal (readings MAX_VERTICES all))
        → FaultOrLegal (readings MAX_VERTICES all)
    by_fit rec (Some k) e is go = inl (line, k, line_wrong p all ls l line k (inr (rec, e, is)) r)
    by_fit rec None e is go = go is

    by_reading : (x : Reading)
        → reading p.vertices l ≡ x
        → ((s : Option Record)
        → reading p.vertices l ≡ Ok s → Fits p.stage s → FaultOrLegal (readings MAX_VERTICES all))
        → FaultOrLegal (readings MAX_VERTICES all)
    by_reading (Err k) e go = inl (line, k, line_wrong p all ls l line k (inl e) r)
    by_reading (Ok None) e go = go None e tt
    by_reading (Ok (Some rec)) e go = by_fit rec (misfit_at p.stage rec.form) e refl (λ f. go (Some rec) e f)

numbers_count : (ls : List Limit) (vs : List ℕ) → in_limits ls vs ≡ true → length vs ≡ length ls
numbers_count [] [] e = refl
numbers_count [] (v ∷ vs) e = absurd (cc)
numbers_count (l ∷ ls) [] e = absurd (cc)
numbers_count (l ∷ ls) (v ∷ vs) e =
    ap (λ n. suc n) (numbers_count ls vs (and_parts (leb l.least v && leb v l.most) (in_limits ls vs) e).1)

vertex_back : (v : ℕ) → 1 ≤ v → v ≡ v - 1 + 1
vertex_back v some = omega arith

-- the numbers of each form, as what is kept of them gives them back
abbrev numbers_back : Form → List ℕ → List ℕ
numbers_back (Head Problem) vs = get_or vs 0 0 ∷ get_or vs 1 0 ∷ []
numbers_back (Head Sources) vs = get_or vs 0 0 ∷ []
numbers_back (Head Pairs) vs = get_or vs 0 0 ∷ []
numbers_back (Head Added) vs = get_or vs 0 0 ∷ []
numbers_back (Counted Arc) vs = (get_or vs 0 0 - 1 + 1) ∷ (get_or vs 1 0 - 1 + 1) ∷ get_or vs 2 0 ∷ []
numbers_back (Counted Source) vs = (get_or vs 0 0 - 1 + 1) ∷ []
numbers_back (Counted Pair) vs = (get_or vs 0 0 - 1 + 1) ∷ (get_or vs 1 0 - 1 + 1) ∷ []

numbers_same : (n : ℕ) (f : Form) (vs : List ℕ) → in_limits (limits n f) vs ≡ true → vs ≡ numbers_back f vs
numbers_same n (Head Problem) vs e =
    let count = numbers_count (limits n (Head Problem)) vs e in grind (arith, common_steps)
numbers_same n (Head Sources) vs e =
    let count = numbers_count (limits n (Head Sources)) vs e in grind (arith, common_steps)
numbers_same n (Head Pairs) vs e =
    let count = numbers_count (limits n (Head Pairs)) vs e in grind (arith, common_steps)
numbers_same n (Head Added) vs e =
    let count = numbers_count (limits n (Head Added)) vs e in grind (arith, common_steps)
numbers_same n (Counted Arc) vs e =
    let count = numbers_count (limits n (Counted Arc)) vs e in
    let limit = are_within (limits n (Counted Arc)) vs e in
    let three : vs ≡ get_or vs 0 0 ∷ get_or vs 1 0 ∷ get_or vs 2 0 ∷ [] = grind (arith, common_steps) in
    three
    ∙ ap₂ (λ x y. x ∷ y ∷ get_or vs 2 0 ∷ []) (vertex_back (get_or vs 0 0) (limit 0 (omega arith)).0)
    (vertex_back (get_or vs 1 0) (limit 1 (omega arith)).0)
numbers_same n (Counted Source) vs e =
    let count = numbers_count (limits n (Counted Source)) vs e in
    let limit = are_within (limits n (Counted Source)) vs e in
    let one : vs ≡ get_or vs 0 0 ∷ [] = grind (arith, common_steps) in
    one ∙ ap (λ x. x ∷ []) (vertex_back (get_or vs 0 0) (limit 0 (omega arith)).0)
numbers_same n (Counted Pair) vs e =
    let count = numbers_count (limits n (Counted Pair)) vs e in
    let limit = are_within (limits n (Counted Pair)) vs e in
    let two : vs ≡ get_or vs 0 0 ∷ get_or vs 1 0 ∷ [] = grind (arith, common_steps) in
    two
    ∙ ap₂ (λ x y. x ∷ y ∷ []) (vertex_back (get_or vs 0 0) (limit 0 (omega arith)).0)
    (vertex_back (get_or vs 1 0) (limit 1 (omega arith)).0)

-- a record has the form of its token, and the last number of a head is its count
record_back : (r : Record) (m : Token)
    → IsShaped r → token_in r ≡ m
    → r ≡ record { form = form_of_token m; numbers = numbers_back (form_of_token m) r.numbers }
record_back r m (n, e) is =
    let form : r.form ≡ form_of_token m = sym (form-token r.form r.numbers) ∙ ap (λ x. form_of_token x) is in
    ap (λ vs. record { form = r.form; numbers = vs }) (numbers_same n r.form r.numbers e)
    ∙ ap (λ f. record { form = f; numbers = numbers_back f r.numbers }) form

arc_by : (r : Record) → IsShaped r → token_in r ≡ adds Arc → (arc : ArcRec) × (r ≡ arc_record arc)
arc_by r shaped m = (arc_back r, record_back r (adds Arc) shaped m)

source_by : (r : Record) → IsShaped r → token_in r ≡ adds Source → (v : ℕ) × (r ≡ source_record v)
source_by r shaped m = (source_back r, record_back r (adds Source) shaped m)

pair_by : (r : Record) → IsShaped r → token_in r ≡ adds Pair → (p : ℕ × ℕ) × (r ≡ pair_record p)
pair_by r shaped m = (pair_back r, record_back r (adds Pair) shaped m)

problem_by : (r : Record) (c : ℕ) → IsShaped r → token_in r ≡ opens Problem c → (k : ℕ) × (r ≡ problem_record k c)
problem_by r c shaped m =
    let same = record_back r (opens Problem c) shaped m in
    let last : opens Problem (get_or r.numbers 1 0) ≡ opens Problem c = ap token_in (sym same) ∙ m in
    let count : get_or r.numbers 1 0 ≡ c = cc in
    (get_or r.numbers 0 0, same ∙ ap (λ x. problem_record (get_or r.numbers 0 0) x) count)

sources_by : (r : Record) (c : ℕ) → IsShaped r → token_in r ≡ opens Sources c → r ≡ sources_record c
sources_by r c shaped m =
    let same = record_back r (opens Sources c) shaped m in
    let last : opens Sources (get_or r.numbers 0 0) ≡ opens Sources c = ap token_in (sym same) ∙ m in
    let count : get_or r.numbers 0 0 ≡ c = cc in same ∙ ap (λ x. sources_record x) count

pairs_by : (r : Record) (c : ℕ) → IsShaped r → token_in r ≡ opens Pairs c → r ≡ pairs_record c
pairs_by r c shaped m =
    let same = record_back r (opens Pairs c) shaped m in
    let last : opens Pairs (get_or r.numbers 0 0) ≡ opens Pairs c = ap token_in (sym same) ∙ m in
    let count : get_or r.numbers 0 0 ≡ c = cc in same ∙ ap (λ x. pairs_record x) count

added_by : (r : Record) (c : ℕ) → IsShaped r → token_in r ≡ opens Added c → r ≡ added_record c
added_by r c shaped m =
    let same = record_back r (opens Added c) shaped m in
    let last : opens Added (get_or r.numbers 0 0) ≡ opens Added c = ap token_in (sym same) ∙ m in
    let count : get_or r.numbers 0 0 ≡ c = cc in same ∙ ap (λ x. added_record x) count

-- the records of the k items of a section, and those after them
items_in : {X : Type 0} (rec : X → Record) (i : Item) (k : ℕ) (rs : List Record) (rest : List Token)
    → ((r : Record) → IsShaped r → token_in r ≡ adds i → (x : X) × (r ≡ rec x))
    → map token_in rs ≡ replicate k (adds i) ++ rest → AreShaped rs
    → (xs : List X)
    × (others : List Record)
    × (length xs ≡ k)
    × (rs ≡ map rec xs ++ others)
    × (map token_in others ≡ rest)
    × AreShaped others
items_in rec i zero rs rest by e shaped = ([], rs, refl, refl, e, shaped)
items_in rec i (suc k) [] rest by e shaped = absurd (cc)
items_in rec i (suc k) (r ∷ rs) rest by e shaped =
    let first : token_in r ≡ adds i = cc in
    let later : map token_in rs ≡ replicate k (adds i) ++ rest = cc in
    let x = by r shaped.0 first in
    let more = items_in rec i k rs rest by later shaped.1 in
    (x.0 ∷ more.0, more.1, ap (λ n. suc n) more.2, ap₂ (λ y l. y ∷ l) x.1 more.3, more.4, more.5)

no_records : (rs : List Record) → map token_in rs ≡ [] → rs ≡ []
no_records [] e = refl
no_records (r ∷ rs) e = absurd (cc)

-- after the last place no section follows
last_place : (s : Section) → place s ≤ 2
last_place Problem = omega arith
last_place Sources = omega arith
last_place Pairs = omega arith
last_place Added = omega arith

none_follows : (s : Section) (ps : List Part) → 1 < place s → AreInTurn s ps → ps ≡ []
none_follows s [] after turn = refl
none_follows s (p ∷ ps) after turn =
    absurd (omega (arith, last_place p.section, ltb-true (place s) (place p.section) turn.0))

-- the section at place 2, after which nothing comes
added_of_part : (s : Section) (k : ℕ) (ps : List Part) (r : Record) (rs : List Record)
    → 1 < place s → AreInTurn s ps → token_in r ≡ opens s k
    → map token_in rs ≡ replicate k (adds (item_of s)) ++ flat_map tokens_of ps
    → IsShaped r → AreShaped rs
    → (arcs : List ArcRec) × (r ∷ rs ≡ records_of_added (Some arcs))
added_of_part Problem k ps r rs late turn m e top shaped = absurd (omega arith)
added_of_part Sources k ps r rs late turn m e top shaped = absurd (omega arith)
added_of_part Pairs k ps r rs late turn m e top shaped = absurd (omega arith)
added_of_part Added k ps r rs late turn m e top shaped =
    let (arcs, others, count, same, tokens, more) =
    items_in arc_record Arc k rs (flat_map tokens_of ps) arc_by e shaped in
    let none = no_records others (tokens ∙ ap (λ l. flat_map tokens_of l) (none_follows Added ps late turn)) in (
      arcs,
      ap₂ (λ x xs. x ∷ xs) (added_by r k top m ∙ ap (λ n. added_record n) (sym count))
          (same ∙ ap (λ l. map arc_record arcs ++ l) none ∙ append-nil (map arc_record arcs)),
    )

-- the records of the parts that may follow a section at place 1
added_in : (s : Section) (ps : List Part) (rs : List Record)
    → 0 < place s → AreInTurn s ps → map token_in rs ≡ flat_map tokens_of ps → AreShaped rs
    → (added : Option (List ArcRec)) × (rs ≡ records_of_added added)
added_in s [] rs late turn e shaped = (None, no_records rs e)
added_in s (p ∷ ps) [] late turn e shaped = absurd (cc)
added_in s (p ∷ ps) (r ∷ rs) late turn e shaped =
    let next = ltb-true (place s) (place p.section) turn.0 in
    let top : token_in r ≡ opens p.section p.count = cc in
    let later : map token_in rs ≡ replicate p.count (adds (item_of p.section)) ++ flat_map tokens_of ps = cc in
    let (arcs, is) = added_of_part p.section p.count ps r rs (omega arith) turn.1 top later shaped.0 shaped.1 in
    (Some arcs, is)

-- what is asked and what is added by records
abbrev AsksAndAdds : List Record → Type 0
AsksAndAdds rs =
    (q : Question)
    × (added : Option (List ArcRec))
    × (rs ≡ records_of_question q ++ records_of_added added)

-- the section after the problem
question_of_part : (s : Section) (k : ℕ) (ps : List Part) (r : Record) (rs : List Record)
    → 0 < place s → AreInTurn s ps → token_in r ≡ opens s k
    → map token_in rs ≡ replicate k (adds (item_of s)) ++ flat_map tokens_of ps
    → IsShaped r → AreShaped rs
    → AsksAndAdds (r ∷ rs)
question_of_part Problem k ps r rs after turn m e top shaped = absurd (omega arith)
question_of_part Sources k ps r rs after turn m e top shaped =
    let (vs, others, count, same, tokens, more) =
    items_in source_record Source k rs (flat_map tokens_of ps) source_by e shaped in
    let (added, rest) = added_in Sources ps others (omega arith) turn tokens more in (
      from_sources vs,
      added,
      ap₂ (λ x xs. x ∷ xs) (sources_by r k top m ∙ ap (λ n. sources_record n) (sym count))
          (same ∙ ap (λ l. map source_record vs ++ l) rest),
    )
question_of_part Pairs k ps r rs after turn m e top shaped =
    let (qs, others, count, same, tokens, more) =
    items_in pair_record Pair k rs (flat_map tokens_of ps) pair_by e shaped in
    let (added, rest) = added_in Pairs ps others (omega arith) turn tokens more in (
      of_pairs qs,
      added,
      ap₂ (λ x xs. x ∷ xs) (pairs_by r k top m ∙ ap (λ n. pairs_record n) (sym count))
          (same ∙ ap (λ l. map pair_record qs ++ l) rest),
    )
question_of_part Added k ps r rs after turn m e top shaped =
    let (arcs, is) = added_of_part Added k ps r rs (omega arith) turn m e top shaped in (absent, Some arcs, is)

pub question_in : (ps : List Part) (rs : List Record)
    → AreInTurn Problem ps → map token_in rs ≡ flat_map tokens_of ps → AreShaped rs
    → AsksAndAdds rs
question_in [] rs turn e shaped = (absent, None, no_records rs e)
question_in (p ∷ ps) [] turn e shaped = absurd (cc)
question_in (p ∷ ps) (r ∷ rs) turn e shaped =
    let next = ltb-true (place Problem) (place p.section) turn.0 in
    let top : token_in r ≡ opens p.section p.count = cc in
    let later : map token_in rs ≡ replicate p.count (adds (item_of p.section)) ++ flat_map tokens_of ps = cc in
    question_of_part p.section p.count ps r rs next turn.1 top later shaped.0 shaped.1

abbrev JobOf : List Record → Type 0
JobOf rs = (job : Content) × (rs ≡ records_of job)

-- the section at place 0 is the problem
job_of_parts : (s : Section) (k : ℕ) (ps : List Part) (r : Record) (rs : List Record)
    → place s ≡ 0 → AreInTurn s ps → token_in r ≡ opens s k
    → map token_in rs ≡ replicate k (adds (item_of s)) ++ flat_map tokens_of ps
    → IsShaped r → AreShaped rs
    → JobOf (r ∷ rs)
job_of_parts Sources k ps r rs first turn m e top shaped = absurd (cc)
job_of_parts Pairs k ps r rs first turn m e top shaped = absurd (cc)
job_of_parts Added k ps r rs first turn m e top shaped = absurd (cc)
job_of_parts Problem k ps r rs first turn m e top shaped =
    let (arcs, others, count, same, tokens, more) =
    items_in arc_record Arc k rs (flat_map tokens_of ps) arc_by e shaped in
    let problem = problem_by r k top m in
    let (asked, added, after) = question_in ps others turn tokens more in (
      record { n = problem.0; arcs = arcs; question = asked; added = added },
      ap₂ (λ x xs. x ∷ xs) (problem.1 ∙ ap (λ c. problem_record problem.0 c) (sym count))
          (same ∙ ap (λ l. map arc_record arcs ++ l) after)
          ∙ sym (graph_first (record { n = problem.0; arcs = arcs; question = asked; added = added })),
    )

job_of_legal : (rs : List Record) → IsLegal (map token_in rs) → AreShaped rs → JobOf rs
unfolding IsLegal
job_of_legal rs ([], bad, e) shaped = absurd bad
job_of_legal [] (p ∷ ps, order, e) shaped = absurd (cc)
job_of_legal (r ∷ rs) (p ∷ ps, order, e) shaped =
    let top : token_in r ≡ opens p.section p.count = cc in
    let later : map token_in rs ≡ replicate p.count (adds (item_of p.section)) ++ flat_map tokens_of ps = cc in
    job_of_parts p.section p.count ps r rs order.0 order.1 top later shaped.0 shaped.1

pub job_or_fault : (text : List ℕ)
    → ((job : Content) × IsJobText text job)
    ⊎ ((line : ℕ) × (kind : LineKind) × IsFirstFault text line kind)
unfolding IsJobText IsFirstFault
job_or_fault text =
    answered
    (fault_or_legal (lines text) (lines text) 1 (record { records = []; stage = Start; vertices = MAX_VERTICES })
    (record { said = []; split = refl; records = refl; stage = refl; count = refl; left = refl }))
  where
    answered : FaultOrLegal (readings MAX_VERTICES (lines text))
        → ((job : Content)
        × ((said : List (Option Record))
        × (readings MAX_VERTICES (lines text) ≡ map (λ s. Ok s) said)
        × (records_among said ≡ records_of job)))
        ⊎ ((line : ℕ) × (kind : LineKind) × IsFirstAmong (readings MAX_VERTICES (lines text)) line kind)
    answered (inl fault) = inr fault
    answered (inr (s, e, legal)) =
        let job = job_of_legal (records_among s) legal
        (all_shaped MAX_VERTICES (records_among s) (all_within MAX_VERTICES (lines text) s e)) in
        inl (job.0, (s, e, job.1))
