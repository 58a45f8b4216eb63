-- Why a text has one job or one first fault, and not both.
use Rattle.std.proofs.Common.{take, drop, get_or, ◌-◌, ◌≡◌, ℕ, zero, suc, ◌+◌, List, [], ◌∷◌, ◌++◌, length}
use Rattle.std.proofs.Common.{map, replicate, IsTrue, append_assoc, inl, inr, Option, Some, None, Ok, Err, refl, sym}
use Rattle.std.proofs.Common.{ap, ap₂}
use Rattle.std.proofs.Common.{subst, ◌∙◌, append-nil, arith, flat_map}
use Rattle.std.proofs.lemmas.List.{take_at, drop_at, length-map, map-append}
use Rattle.route_walks.specs.declared.graph.ArcRec.{ArcRec}
use Rattle.route_walks.specs.declared.graph.TheConstants.{MAX_VERTICES}
use Rattle.dimacs_text.specs.declared.form.Form.TheVariants.{Head, Counted}
use Rattle.dimacs_text.specs.declared.form.Item.{Item}
use Rattle.dimacs_text.specs.declared.form.Section.{Section}
use Rattle.dimacs_text.specs.declared.form.Section.TheVariants.{Problem, Sources, Pairs, Added}
use Rattle.dimacs_text.specs.declared.form.Item.TheVariants.{Arc}
use Rattle.dimacs_text.specs.declared.fault.LineKind.{LineKind}
use Rattle.dimacs_text.specs.declared.fault.LineKind.TheVariants.{TooFew, NoProblem}
use Rattle.dimacs_text.specs.declared.form.Form.{Form}
use Rattle.dimacs_text.specs.Grammar.{Part, tokens_of, AreInTurn, Token, opens, adds, form_of_token}
use Rattle.dimacs_text.specs.Grammar.{item_of, may_follow}
use Rattle.dimacs_text.specs.Grammar.{IsLegal, BeginsLegal, IsMisfit, MisfitKind, lack_of}
use Rattle.dimacs_text.specs.Lines.{lines}
use Rattle.dimacs_text.specs.AfterGraph.{IsJobAmong}
use Rattle.dimacs_text.specs.Forms.{Record, Reading, readings}
use Rattle.dimacs_text.specs.declared.stage.Stage.{Stage}
use Rattle.dimacs_text.specs.declared.stage.Stage.TheVariants.{Start, Within}
use Rattle.dimacs_text.specs.reader.Machine.{run, unless_wrong, misfit_at, next_at}
use Rattle.dimacs_text.specs.Jobs.{Content, Question, absent, from_sources, of_pairs}
use Rattle.dimacs_text.specs.Jobs.{arc_record, source_record, pair_record, problem_record, sources_record}
use Rattle.dimacs_text.specs.Jobs.{pairs_record, added_record}
use Rattle.dimacs_text.specs.Jobs.{records_of, records_of_question, records_of_added, records_among, IsJobText}
use Rattle.dimacs_text.specs.Faults.{tokens_among, IsFirstAmong, unread, misfit, unfinished, IsFirstFault}
use Rattle.dimacs_text.specs.reader.Drafts.{token_in}
use Rattle.dimacs_text.proofs.DraftLemmas.{form-token}
use Rattle.dimacs_text.proofs.Machine.{goes, legal_runs, run_begins, machine_misfit, complete, run-append}

-- what lines said is known from their readings
abbrev readings_of : List (Option Record) → List Reading
readings_of s = map (λ x. Ok x) s

items_back : {X Y : Type 0} (f : X → Y) (back : Y → X) (xs : List X)
    → ((x : X) → back (f x) ≡ x)
    → map back (map f xs) ≡ xs
items_back f back [] each = refl
items_back f back (x ∷ xs) each = ap₂ (λ y l. y ∷ l) (each x) (items_back f back xs each)

abbrev said_back : Reading → Option Record
said_back (Ok said) = said
said_back (Err kind) = None

-- a job is known from its records
abbrev pub arc_back : Record → ArcRec
arc_back r =
    record {
      tail = get_or r.numbers 0 0 - 1;
      head = get_or r.numbers 1 0 - 1;
      weight = get_or r.numbers 2 0;
    }

abbrev pub source_back : Record → ℕ
source_back r = get_or r.numbers 0 0 - 1

abbrev pub pair_back : Record → ℕ × ℕ
pair_back r = (get_or r.numbers 0 0 - 1, get_or r.numbers 1 0 - 1)

same_arc : (arc : ArcRec) → arc_back (arc_record arc) ≡ arc
same_arc arc =
    let tail : arc.tail + 1 - 1 ≡ arc.tail = omega arith in
    let hd : arc.head + 1 - 1 ≡ arc.head = omega arith in
    ap₂ (λ t h. record { tail = t; head = h; weight = arc.weight }) tail hd

-- the records of a job, with those of the graph apart
abbrev pub rest_of : Content → List Record
rest_of job = records_of_question job.question ++ records_of_added job.added

pub graph_first : (job : Content)
    → records_of job ≡ problem_record job.n (length job.arcs) ∷ (map arc_record job.arcs ++ rest_of job)
graph_first job =
    append_assoc (problem_record job.n (length job.arcs) ∷ map arc_record job.arcs) (records_of_question job.question)
    (records_of_added job.added)

-- what the records after the problem's arcs ask
abbrev asked_by : Form → ℕ → List Record → Question
asked_by (Head Problem) k rs = absent
asked_by (Head Sources) k rs = from_sources (map source_back (take k rs))
asked_by (Head Pairs) k rs = of_pairs (map pair_back (take k rs))
asked_by (Head Added) k rs = absent
asked_by (Counted i) k rs = absent

abbrev asked_in : List Record → Question
asked_in [] = absent
asked_in (r ∷ rs) = asked_by r.form (get_or r.numbers 0 0) rs

-- the records that are left after those of the question
abbrev left_by : Form → ℕ → Record → List Record → List Record
left_by (Head Problem) k r rs = r ∷ rs
left_by (Head Sources) k r rs = drop k rs
left_by (Head Pairs) k r rs = drop k rs
left_by (Head Added) k r rs = r ∷ rs
left_by (Counted i) k r rs = r ∷ rs

abbrev left_in : List Record → List Record
left_in [] = []
left_in (r ∷ rs) = left_by r.form (get_or r.numbers 0 0) r rs

-- the arcs that the last records add
abbrev added_in : List Record → Option (List ArcRec)
added_in [] = None
added_in (r ∷ rs) = Some (map arc_back rs)

same_pair : (p : ℕ × ℕ) → pair_back (pair_record p) ≡ p
same_pair (s, t) =
    let source : s + 1 - 1 ≡ s = omega arith in
    let target : t + 1 - 1 ≡ t = omega arith in
    ap₂ (λ x y. (x, y)) source target

-- the items of a section are known from their records, and what comes after them
items_taken : {X : Type 0} (rec : X → Record) (back : Record → X) (xs : List X) (rest : List Record)
    → ((x : X) → back (rec x) ≡ x)
    → map back (take (length xs) (map rec xs ++ rest)) ≡ xs
items_taken rec back xs rest each =
    ap (λ l. map back l) (take_at (map rec xs) rest (length xs) (length-map xs rec)) ∙ items_back rec back xs each

items_dropped : {X : Type 0} (rec : X → Record) (xs : List X) (rest : List Record)
    → drop (length xs) (map rec xs ++ rest) ≡ rest
items_dropped rec xs rest = drop_at (map rec xs) rest (length xs) (length-map xs rec)

added_back : (added : Option (List ArcRec)) → added_in (records_of_added added) ≡ added
added_back None = refl
added_back (Some arcs) = ap (λ l. Some l) (items_back arc_record arc_back arcs same_arc)

-- an added section asks nothing
asks_nothing : (added : Option (List ArcRec)) → asked_in (records_of_added added) ≡ absent
asks_nothing None = refl
asks_nothing (Some arcs) = refl

all_left : (added : Option (List ArcRec)) → left_in (records_of_added added) ≡ records_of_added added
all_left None = refl
all_left (Some arcs) = refl

asked_back : (q : Question) (added : Option (List ArcRec))
    → asked_in (records_of_question q ++ records_of_added added) ≡ q
asked_back absent added = asks_nothing added
asked_back (from_sources vs) added =
    ap (λ l. from_sources l) (items_taken source_record source_back vs (records_of_added added) (λ v. omega arith))
asked_back (of_pairs ps) added =
    ap (λ l. of_pairs l) (items_taken pair_record pair_back ps (records_of_added added) same_pair)

left_back : (q : Question) (added : Option (List ArcRec))
    → left_in (records_of_question q ++ records_of_added added) ≡ records_of_added added
left_back absent added = all_left added
left_back (from_sources vs) added = items_dropped source_record vs (records_of_added added)
left_back (of_pairs ps) added = items_dropped pair_record ps (records_of_added added)

abbrev content_after : ℕ → List ArcRec → List Record → Content
content_after n arcs rs =
    record { n = n; arcs = arcs; question = asked_in rs; added = added_in (left_in rs) }

abbrev content_by : List Record → Content
content_by [] = content_after 0 [] []
content_by (r ∷ rs) =
    content_after (get_or r.numbers 0 0) (map arc_back (take (get_or r.numbers 1 0) rs))
    (drop (get_or r.numbers 1 0) rs)

content_back : (job : Content) → content_by (records_of job) ≡ job
content_back job =
    ap (λ rs. content_by rs) (graph_first job)
    ∙ ap₂ (λ arcs rs. content_after job.n arcs rs) (items_taken arc_record arc_back job.arcs (rest_of job) same_arc)
    (items_dropped arc_record job.arcs (rest_of job))
    ∙ ap₂ (λ q a. record { n = job.n; arcs = job.arcs; question = q; added = a }) (asked_back job.question job.added)
    (ap (λ rs. added_in rs) (left_back job.question job.added) ∙ added_back job.added)

job_by : (rs : List Reading) (job : Content)
    → IsJobAmong rs job
    → job ≡ content_by (records_among (map said_back rs))
job_by rs job (s, reads, is) =
    sym (content_back job) ∙ ap (λ l. content_by l) (sym is)
    ∙ ap (λ l. content_by (records_among l))
    (sym (ap (λ l. map said_back l) reads ∙ items_back (λ x. Ok x) said_back s (λ x. refl)))

pub one_job_among : (rs : List Reading) (a b : Content) → IsJobAmong rs a → IsJobAmong rs b → a ≡ b
one_job_among rs a b of_a of_b = job_by rs a of_a ∙ sym (job_by rs b of_b)

pub one_job : (text : List ℕ) (a b : Content) → IsJobText text a → IsJobText text b → a ≡ b
unfolding IsJobText
one_job text a b of_a of_b = one_job_among (readings MAX_VERTICES (lines text)) a b of_a of_b

-- the records of a job are legal
pub tokens_of_items : {X : Type 0} (rec : X → Record) (i : Item) (xs : List X)
    → ((x : X) → token_in (rec x) ≡ adds i)
    → map token_in (map rec xs) ≡ replicate (length xs) (adds i)
tokens_of_items rec i [] each = refl
tokens_of_items rec i (x ∷ xs) each = ap₂ (λ m l. m ∷ l) (each x) (tokens_of_items rec i xs each)

-- a section of items is one part
abbrev pub PartsAfter : Section → List Record → Type 0
PartsAfter s rs = (ps : List Part) × AreInTurn s ps × (map token_in rs ≡ flat_map tokens_of ps)

one_part_more : {X : Type 0} (rec : X → Record) (s t : Section) (xs : List X) (head : Record) (rest : List Record)
    → ((x : X) → token_in (rec x) ≡ adds (item_of t))
    → token_in head ≡ opens t (length xs) → IsTrue (may_follow s t) → PartsAfter t rest
    → PartsAfter s (head ∷ (map rec xs ++ rest))
one_part_more rec s t xs head rest each is may (ps, turn, same) = (
  record { section = t; count = length xs } ∷ ps,
  (may, turn),
  ap₂ (λ x l. x ∷ l) is
      (map-append token_in (map rec xs) rest ∙ ap₂ (λ l m. l ++ m) (tokens_of_items rec (item_of t) xs each) same),
)

parts_of_added : (s : Section) (added : Option (List ArcRec))
    → IsTrue (may_follow s Added)
    → PartsAfter s (records_of_added added)
parts_of_added s None may = ([], tt, refl)
parts_of_added s (Some arcs) may =
    subst (λ rs. PartsAfter s (added_record (length arcs) ∷ rs)) (append-nil (map arc_record arcs))
    (one_part_more arc_record s Added arcs (added_record (length arcs)) [] (λ a. refl) refl may ([], tt, refl))

pub parts_of_question : (q : Question) (added : Option (List ArcRec))
    → PartsAfter Problem (records_of_question q ++ records_of_added added)
parts_of_question absent added = parts_of_added Problem added refl
parts_of_question (from_sources vs) added =
    one_part_more source_record Problem Sources vs (sources_record (length vs)) (records_of_added added) (λ v. refl)
    refl refl (parts_of_added Sources added refl)
parts_of_question (of_pairs ps) added =
    one_part_more pair_record Problem Pairs ps (pairs_record (length ps)) (records_of_added added) (λ p. refl) refl
    refl (parts_of_added Pairs added refl)

pub legal_by : (job : Content) → IsLegal (map token_in (records_of job))
unfolding IsLegal
legal_by job =
    let (ps, turn, same) = parts_of_question job.question job.added in (
      record { section = Problem; count = length job.arcs } ∷ ps,
      (refl, turn),
      ap (λ rs. map token_in rs) (graph_first job)
          ∙ ap (λ l. opens Problem (length job.arcs) ∷ l)
          (map-append token_in (map arc_record job.arcs) (rest_of job)
          ∙ ap₂ (λ l m. l ++ m) (tokens_of_items arc_record Arc job.arcs (λ a. refl)) same),
    )

pub misfit-form : (a : Stage) (r : Record) → misfit_at a (form_of_token (token_in r)) ≡ misfit_at a r.form
misfit-form a r = ap (λ f. misfit_at a f) (form-token r.form r.numbers)

-- the fault at which the machine stops
abbrev lack_at : Stage → ℕ → Option (ℕ × LineKind)
lack_at Start line = Some (line, NoProblem)
lack_at (Within s zero) line = None
lack_at (Within s (suc j)) line = Some (line, TooFew)

abbrev fault_or : Option LineKind → ℕ → Option (ℕ × LineKind) → Option (ℕ × LineKind)
fault_or None line later = later
fault_or (Some kind) line later = Some (line, kind)

fault_by : Stage → ℕ → List Reading → Option (ℕ × LineKind)
fault_by a line [] = lack_at a line
fault_by a line (Err kind ∷ rs) = Some (line, kind)
fault_by a line (Ok None ∷ rs) = fault_by a (line + 1) rs
fault_by a line (Ok (Some r) ∷ rs) =
    fault_or (misfit_at a r.form) line (fault_by (next_at a (token_in r)) (line + 1) rs)

passes : (s : List (Option Record)) (rest : List Reading) (a b : Stage) (line : ℕ)
    → run a (tokens_among s) ≡ Some b
    → fault_by a line (map (λ x. Ok x) s ++ rest) ≡ fault_by b (line + length s) rest
unfolding fault_by
passes [] rest a b line e =
    let same : a ≡ b = cc in
    let zero_more : line ≡ line + 0 = omega arith in ap₂ (λ x n. fault_by x n rest) same zero_more
passes (None ∷ s) rest a b line e =
    let count : line + 1 + length s ≡ line + length (None ∷ s) = omega arith in
    passes s rest a b (line + 1) e ∙ ap (λ n. fault_by b n rest) count
passes (Some r ∷ s) rest a b line e =
    let count : line + 1 + length s ≡ line + length (Some r ∷ s) = omega arith in
    let on = goes (misfit_at a (form_of_token (token_in r))) (run (next_at a (token_in r)) (tokens_among s)) b e in
    ap (λ o. fault_or o line (fault_by (next_at a (token_in r)) (line + 1) (map (λ x. Ok x) s ++ rest)))
    (sym (misfit-form a r) ∙ on.0)
    ∙ passes s rest (next_at a (token_in r)) b (line + 1) on.1
    ∙ ap (λ n. fault_by b n rest) count

-- what begins a legal list is read
run_prefix : (ms more : List Token) (a c : Stage) → run a (ms ++ more) ≡ Some c → (b : Stage) × (run a ms ≡ Some b)
run_prefix [] more a c e = (a, refl)
run_prefix (m ∷ ms) more a c e =
    let on = goes (misfit_at a (form_of_token m)) (run (next_at a m) (ms ++ more)) c e in
    let later = run_prefix ms more (next_at a m) c on.1 in
    (later.0, ap (λ o. unless_wrong o (run (next_at a m) ms)) on.0 ∙ later.1)

-- a misfit has one kind
two_same : (ms : List Token) (m : Token) (k l : LineKind) → MisfitKind ms m k → MisfitKind ms m l → k ≡ l
two_same ms m k l (inl (a, p)) (inl (b, q)) = a ∙ sym b
two_same ms m k l (inl (a, p)) (inr (b, q)) = absurd (p q)
two_same ms m k l (inr (a, p)) (inl (b, q)) = absurd (q p)
two_same ms m k l (inr (a, p)) (inr (b, q)) = a ∙ sym b

stops : (ms : List Token) (b : Stage) (r : Record) (kind : LineKind) (o : Option LineKind)
    → run Start ms ≡ Some b → IsMisfit ms (token_in r) kind → misfit_at b r.form ≡ o
    → (line : ℕ) (later : Option (ℕ × LineKind))
    → fault_or o line later ≡ Some (line, kind)
unfolding IsMisfit
stops ms b r kind None e wrong is line later =
    let goes : run Start (ms ++ token_in r ∷ []) ≡ Some (next_at b (token_in r)) =
    run-append ms Start b (token_in r ∷ []) e
    ∙ ap (λ o. unless_wrong o (Some (next_at b (token_in r))))
    (misfit-form b r ∙ is) in
    absurd (wrong.0 (run_begins (ms ++ token_in r ∷ []) (next_at b (token_in r)) goes))
stops ms b r kind (Some k) e wrong is line later =
    let other = machine_misfit ms b (token_in r) k e (misfit-form b r ∙ is) in
    ap (λ x. Some (line, x)) (two_same ms (token_in r) k kind other.1 wrong.1)

-- after a head the reader is in a section
stays : (ms : List Token) (s : Section) (j : ℕ) → run (Within s j) ms ≡ Some Start → ⊥
stays [] s j e = cc
stays (opens t k ∷ ms) s j e = stays ms t k (goes _ (run (Within t k) ms) Start e).1
stays (adds i ∷ ms) s zero e = stays ms s zero (goes _ (run (Within s zero) ms) Start e).1
stays (adds i ∷ ms) s (suc j) e = stays ms s j (goes _ (run (Within s j) ms) Start e).1

lack_start : (ms : List Token) → run Start ms ≡ Some Start → lack_of ms ≡ NoProblem
lack_start [] e = refl
lack_start (adds i ∷ ms) e = absurd (cc)
lack_start (opens t k ∷ ms) e = absurd (stays ms t k (goes _ (run (Within t k) ms) Start e).1)

pub lack_within : (ms : List Token) (s : Section) (j : ℕ) → run Start ms ≡ Some (Within s j) → lack_of ms ≡ TooFew
lack_within [] s j e = absurd (cc)
lack_within (m ∷ ms) s j e = refl

lacks : (ms : List Token) (b : Stage) (line : ℕ)
    → run Start ms ≡ Some b → (IsLegal ms → ⊥)
    → lack_at b line ≡ Some (line, lack_of ms)
lacks ms Start line e never = ap (λ k. Some (line, k)) (sym (lack_start ms e))
lacks ms (Within s zero) line e never = absurd (never (complete ms s e))
lacks ms (Within s (suc j)) line e never = ap (λ k. Some (line, k)) (sym (lack_within ms s (suc j) e))

reaches : (s : List (Option Record)) (rest : List Reading) (line : ℕ)
    → BeginsLegal (tokens_among s) → line ≡ length s + 1
    → (b : Stage)
    × (run Start (tokens_among s) ≡ Some b)
    × (fault_by Start 1 (readings_of s ++ rest) ≡ fault_by b line rest)
unfolding BeginsLegal
reaches s rest line (more, legal) number =
    let all = legal_runs (tokens_among s ++ more) legal in
    let runs = run_prefix (tokens_among s) more Start (Within all.0 0) all.1 in
    let count : 1 + length s ≡ line = omega arith in
    (runs.0, runs.1, passes s rest Start runs.0 1 runs.1 ∙ ap (λ n. fault_by runs.0 n rest) count)

-- lines with which a legal list begins lead somewhere
pub led : (said : List (Option Record))
    → BeginsLegal (tokens_among said)
    → (b : Stage) × (run Start (tokens_among said) ≡ Some b)
unfolding BeginsLegal
led said (more, legal) =
    let all = legal_runs (tokens_among said ++ more) legal in
    run_prefix (tokens_among said) more Start (Within all.0 0) all.1

found : (rs : List Reading) (line : ℕ) (kind : LineKind)
    → IsFirstAmong rs line kind
    → fault_by Start 1 rs ≡ Some (line, kind)
unfolding fault_by
found rs line kind (unread s after e begins number) =
    ap (λ l. fault_by Start 1 l) e ∙ (reaches s (Err kind ∷ after) line begins number).2
found rs line kind (misfit s r after e begins wrong number) =
    let (b, runs, on) = reaches s (Ok (Some r) ∷ after) line begins number in
    ap (λ l. fault_by Start 1 l) e ∙ on
    ∙ stops (tokens_among s) b r kind (misfit_at b r.form) runs wrong refl line
    (fault_by (next_at b (token_in r)) (line + 1) after)
found rs line kind (unfinished s e begins never is number) =
    let (b, runs, on) = reaches s [] line begins number in
    ap (λ l. fault_by Start 1 l) (e ∙ sym (append-nil (readings_of s))) ∙ on
    ∙ lacks (tokens_among s) b line runs never ∙ ap (λ k. Some (line, k)) (sym is)

pub one_fault_among : (rs : List Reading) (i j : ℕ) (k l : LineKind)
    → IsFirstAmong rs i k → IsFirstAmong rs j l
    → (i ≡ j) × (k ≡ l)
one_fault_among rs i j k l a b =
    let first = found rs i k a in
    let second = found rs j l b in
    let same : ◌≡◌ {A = ℕ × LineKind} (i, k) (j, l) = cc in
    (ap (λ (f : ℕ × LineKind). f.0) same, ap (λ (f : ℕ × LineKind). f.1) same)

pub one_first_fault : (text : List ℕ) (i j : ℕ) (k l : LineKind)
    → IsFirstFault text i k → IsFirstFault text j l
    → (i ≡ j) × (k ≡ l)
unfolding IsFirstFault
one_first_fault text i j k l a b = one_fault_among (readings MAX_VERTICES (lines text)) i j k l a b

-- lines of a job have no fault at which the machine stops
pub no_fault_among : (rs : List Reading) (job : Content) (line : ℕ) (kind : LineKind)
    → IsJobAmong rs job → IsFirstAmong rs line kind
    → ⊥
unfolding fault_by
no_fault_among rs job line kind (said, reads, is) fault =
    let runs = legal_runs (tokens_among said) (subst (λ l. IsLegal (map token_in l)) (sym is) (legal_by job)) in
    let none = passes said [] Start (Within runs.0 0) 1 runs.1 in
    let stops = found rs line kind fault in
    let all : fault_by Start 1 rs ≡ fault_by Start 1 (readings_of said ++ []) =
    ap (λ l. fault_by Start 1 l) (reads ∙ sym (append-nil (readings_of said))) in
    cc

pub no_fault : (text : List ℕ) (job : Content) (line : ℕ) (kind : LineKind)
    → IsJobText text job → IsFirstFault text line kind
    → ⊥
unfolding IsJobText IsFirstFault
no_fault text job line kind is fault = no_fault_among (readings MAX_VERTICES (lines text)) job line kind is fault
