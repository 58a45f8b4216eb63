-- What one more line does to a request, and what a whole one is.
use Rattle.std.proofs.Common.{◌≡◌, ℕ, zero, suc, ◌+◌, List, [], ◌∷◌, ◌++◌, map, ◌⊎◌, inl, inr, Option, Some, None, Ok, Err}
use Rattle.std.proofs.Common.{OnOk, IfErr, Result, true, false, length, refl, sym, ap, ap₂, subst, ◌∙◌, length-append, arith, ◌<◌, flat_map, get_or}
use Rattle.std.proofs.lemmas.Bool.Decides.{nat_tests}
use Rattle.std.proofs.lemmas.List.{map-append}
use Rattle.route_walks.specs.declared.graph.ArcRec.{ArcRec}
use Rattle.dimacs_text.specs.declared.fault.LineKind.{LineKind}
use Rattle.dimacs_text.specs.declared.fault.LineKind.TheVariants.{TooFew}
use Rattle.dimacs_text.specs.declared.fault.TextFault.{TextFault}
use Rattle.dimacs_text.specs.declared.fault.TextFault.TheVariants.{Memory, Line}
use Rattle.dimacs_text.specs.declared.form.Form.{Form}
use Rattle.dimacs_text.specs.declared.form.Form.TheVariants.{Head, Counted}
use Rattle.dimacs_text.specs.declared.form.Item.TheVariants.{Arc}
use Rattle.dimacs_text.specs.declared.form.Section.{Section}
use Rattle.dimacs_text.specs.declared.form.Section.TheVariants.{Problem, Sources, Pairs, Added}
use Rattle.dimacs_text.specs.declared.stage.Stage.{Stage}
use Rattle.dimacs_text.specs.declared.stage.Stage.TheVariants.{Start, Within}
use Rattle.dimacs_text.specs.Forms.{Record, Reading, vertices_next}
use Rattle.dimacs_text.specs.Grammar.{Part, Token, opens, adds, lack_of, place, may_follow, tokens_of, AreInTurn}
use Rattle.dimacs_text.specs.Faults.{tokens_among, unread, misfit, unfinished, IsFirstAmong}
use Rattle.dimacs_text.specs.Jobs.{Content, Question, absent, from_sources, of_pairs, arc_record, problem_record}
use Rattle.dimacs_text.specs.Jobs.{records_of, records_of_question, records_of_added, records_among}
use Rattle.dimacs_text.specs.AfterGraph.{after_graph, asks, reading_after, AreSilent, IsFaultAfter, IsWhole}
use Rattle.dimacs_text.specs.reader.Machine.{run, misfit_at, next_at}
use Rattle.dimacs_text.specs.declared.request_draft.RequestDraft.{RequestDraft}
use Rattle.dimacs_text.specs.Lines.{begins_comment}
use Rattle.dimacs_text.specs.RequestDrafts.{HasReadAfter, is_whole}
use Rattle.dimacs_text.specs.reader.Drafts.{Progress, progress_of, arcs_progress, token_in, after_line, records_by, Fits, IsLackAt}
use Rattle.dimacs_text.specs.reader.Requests.{is_begun_at, is_request_at, is_section_at, HasSaid, IsWrongAfter, ReadsAfter}
use Rattle.dimacs_text.proofs.CommentLemmas.{comment_after}
use Rattle.dimacs_text.proofs.Machine.{items_run, run_begins, machine_misfit}
use Rattle.dimacs_text.proofs.DraftLemmas.{one_more, incomplete, form-token}
use Rattle.dimacs_text.proofs.TextLaws.{PartsAfter, graph_first, lack_within, parts_of_question, rest_of, tokens_of_items}

-- no second problem line fits, so vertices count to the same number
steady : (stage : Stage) (form : Form) (v first : ℕ)
    → is_begun_at stage ≡ true → misfit_at stage form ≡ None
    → vertices_next v form first ≡ v
steady Start form v first b e = absurd (cc)
steady (Within Problem j) (Head Problem) v first b e = absurd (cc)
steady (Within Sources j) (Head Problem) v first b e = absurd (cc)
steady (Within Pairs j) (Head Problem) v first b e = absurd (cc)
steady (Within Added j) (Head Problem) v first b e = absurd (cc)
steady (Within s j) (Head Sources) v first b e = refl
steady (Within s j) (Head Pairs) v first b e = refl
steady (Within s j) (Head Added) v first b e = refl
steady (Within s j) (Counted item) v first b e = refl

begun_on : (stage : Stage) (token : Token) → is_begun_at stage ≡ true → is_begun_at (next_at stage token) ≡ true
begun_on stage (opens next k) b = refl
begun_on Start (adds i) b = absurd (cc)
begun_on (Within s zero) (adds i) b = refl
begun_on (Within s (suc j)) (adds i) b = refl

begun_after : (old : Progress) (s : Option Record)
    → is_begun_at old.stage ≡ true
    → is_begun_at (after_line old s).stage ≡ true
begun_after old None b = b
begun_after old (Some r) b = begun_on old.stage (token_in r) b

same_vertices : (old : Progress) (s : Option Record)
    → is_begun_at old.stage ≡ true → Fits old.stage s
    → (after_line old s).vertices ≡ old.vertices
same_vertices old None b fits = refl
same_vertices old (Some r) b fits = steady old.stage r.form old.vertices _ b fits

-- before the first line of a request
pub said_none : (n : ℕ) → HasSaid n [] (arcs_progress n 0 [])
said_none n = record {
  said = Some (problem_record n 0) ∷ [];
  split = refl;
  records = refl;
  stage = refl;
  begun = refl;
  vertices = refl;
  count = refl;
}

-- one more line
said_more : (n : ℕ) (ls : List (List ℕ)) (old : Progress) (line : List ℕ) (s : Option Record)
    → reading_after old.vertices line ≡ Ok s → Fits old.stage s → HasSaid n ls old
    → HasSaid n (ls ++ line ∷ []) (after_line old s)
said_more n ls old line s reads fits p =
    let both = one_more old p.said s p.records p.stage fits in
    let here : reading_after n line ≡ Ok s = ap (λ v. reading_after v line) (sym p.vertices) ∙ reads in
    record {
      said = p.said ++ s ∷ [];
      split =
          ap (λ l. Ok (Some (problem_record n 0)) ∷ l) (map-append (λ l. reading_after n l) ls (line ∷ []))
          ∙ ap (λ r. after_graph n ls ++ r ∷ []) here
          ∙ ap (λ l. l ++ Ok s ∷ []) p.split
          ∙ sym (map-append (λ x. Ok x) p.said (s ∷ []));
      records = both.0;
      stage = both.1;
      begun = begun_after old s p.begun;
      vertices = same_vertices old s p.begun fits ∙ p.vertices;
      count = omega (arith, p.count, length-append p.said (s ∷ []), length-append ls (line ∷ []));
    }

pub said_line : (n : ℕ) (ls : List (List ℕ)) (old new : Progress) (line : List ℕ)
    → ReadsAfter old new line → HasSaid n ls old
    → HasSaid n (ls ++ line ∷ []) new
said_line n ls old new line r p =
    subst (λ (x : Progress). HasSaid n (ls ++ line ∷ []) x) (sym r.after) (said_more n ls old line r.said r.reads r.fits p)

-- a line that is wrong is the first
said_wrong : (n : ℕ) (ls : List (List ℕ)) (old : Progress) (line : List ℕ) (kind : LineKind) (more : List (List ℕ))
    → (reading_after old.vertices line ≡ Err kind)
    ⊎ ((r : Record) × (reading_after old.vertices line ≡ Ok (Some r)) × (misfit_at old.stage r.form ≡ Some kind))
    → HasSaid n ls old
    → IsFirstAmong (after_graph n (ls ++ line ∷ more)) (length ls + 2) kind
said_wrong n ls old line kind more (inl e) p =
    let later : List Reading = map (λ l. reading_after n l) more in
    unread p.said later
    (ap (λ l. Ok (Some (problem_record n 0)) ∷ l) (map-append (λ l. reading_after n l) ls (line ∷ more))
    ∙ ap (λ l. l ++ reading_after n line ∷ later) p.split
    ∙ ap (λ x. map (λ x. Ok x) p.said ++ x ∷ later) (ap (λ v. reading_after v line) (sym p.vertices) ∙ e))
    (run_begins (tokens_among p.said) old.stage p.stage) (omega (arith, p.count))
said_wrong n ls old line kind more (inr (r, e, w)) p =
    let later : List Reading = map (λ l. reading_after n l) more in
    misfit p.said r later
    (ap (λ l. Ok (Some (problem_record n 0)) ∷ l) (map-append (λ l. reading_after n l) ls (line ∷ more))
    ∙ ap (λ l. l ++ reading_after n line ∷ later) p.split
    ∙ ap (λ x. map (λ x. Ok x) p.said ++ x ∷ later) (ap (λ v. reading_after v line) (sym p.vertices) ∙ e))
    (run_begins (tokens_among p.said) old.stage p.stage)
    (machine_misfit (tokens_among p.said) old.stage (token_in r) kind p.stage
    (ap (λ f. misfit_at old.stage f) (form-token r.form r.numbers) ∙ w)) (omega (arith, p.count))

-- what a reader of requests says of a line
pub said_ok : {T : Type 0} (n : ℕ) (ls : List (List ℕ)) (old new : Progress) (line : List ℕ) (result : Result T TextFault)
    → OnOk result (ReadsAfter old new line) → HasSaid n ls old
    → OnOk result (HasSaid n (ls ++ line ∷ []) new)
said_ok n ls old new line (Ok v) reads p = said_line n ls old new line reads p
said_ok n ls old new line (Err fault) reads p = tt

pub said_fault : {T : Type 0} (n : ℕ) (ls : List (List ℕ)) (old : Progress) (line : List ℕ) (number : ℕ)
    (result : Result T TextFault)
    → IfErr result (IsWrongAfter old line number) → HasSaid n ls old
    → IfErr result (IsFaultAfter n ls line number)
said_fault n ls old line number (Ok v) wrong p = tt
said_fault n ls old line number (Err Memory) wrong p = tt
said_fault n ls old line number (Err (Line at kind)) wrong p =
    (wrong.0, λ more. said_wrong n ls old line kind more wrong.1 p)

-- a comment says nothing
pub comment_said : (n : ℕ) (ls : List (List ℕ)) (draft : RequestDraft) (line : List ℕ)
    → begins_comment line ≡ true → HasReadAfter n ls draft
    → HasReadAfter n (ls ++ line ∷ []) draft
comment_said n ls draft line is p =
    let progress = progress_of draft.draft in
    said_line n ls progress progress line
    (record { said = None; reads = comment_after progress.vertices line is; fits = tt; after = refl }) p

-- where parts follow a section, the reader ends in a section of a later place
later_place : (ps : List Part) (p : Part) (s : Section)
    → AreInTurn s (p ∷ ps)
    → (t : Section) × (run (Within s 0) (flat_map tokens_of (p ∷ ps)) ≡ Some (Within t 0)) × (place s < place t)
later_place [] p s turn =
    let may : may_follow s p.section ≡ true = turn.0 in
    (p.section, rw may (items_run p.section p.count []), grind (arith, nat_tests))
later_place (q ∷ ps) p s turn =
    let may : may_follow s p.section ≡ true = turn.0 in
    let first : place s < place p.section = grind (arith, nat_tests) in
    let later = later_place ps q p.section turn.1 in
    let second : place p.section < place later.0 = later.2 in (
      later.0,
      rw may (items_run p.section p.count (flat_map tokens_of (q ∷ ps)) ∙ later.1),
      omega arith,
    )

pub rest_filled : (q : Question) (added : Option (List ArcRec))
    → asks q added ≡ true → map token_in (records_of_question q ++ records_of_added added) ≡ []
    → ⊥
rest_filled absent None e none = absurd (cc)
rest_filled absent (Some arcs) e none = absurd (cc)
rest_filled (from_sources vs) added e none = absurd (cc)
rest_filled (of_pairs ps) added e none = absurd (cc)

-- a job that asks something ends in a section after its graph
ends_later : (job : Content)
    → asks job.question job.added ≡ true
    → (t : Section) × (run Start (map token_in (records_of job)) ≡ Some (Within t 0)) × (0 < place t)
ends_later job asked = by_parts (parts_of_question job.question job.added)
  where
    by_parts : PartsAfter Problem (rest_of job)
        → (t : Section) × (run Start (map token_in (records_of job)) ≡ Some (Within t 0)) × (0 < place t)
    by_parts ([], turn, same) = absurd (rest_filled job.question job.added asked same)
    by_parts (p ∷ ps, turn, same) =
        let later = later_place ps p Problem turn in (
          later.0,
          ap (λ ms. run Start ms)
              (ap (λ rs. map token_in rs) (graph_first job)
              ∙ ap (λ l. opens Problem (length job.arcs) ∷ l)
              (map-append token_in (map arc_record job.arcs) (rest_of job)
              ∙ ap₂ (λ l m. l ++ m) (tokens_of_items arc_record Arc job.arcs (λ a. refl)) same))
              ∙ items_run Problem (length job.arcs) (flat_map tokens_of (p ∷ ps))
              ∙ later.1,
          later.2,
        )

complete_at : (t : Section) → 0 < place t → is_request_at (Within t 0) ≡ true
complete_at Problem low = absurd (omega arith)
complete_at Sources low = refl
complete_at Pairs low = refl
complete_at Added low = refl

abbrev pub said_by_reading : Reading → Option Record
said_by_reading (Ok said) = said
said_by_reading (Err kind) = None

pub said_back : (said : List (Option Record)) → map said_by_reading (map (λ s. Ok s) said) ≡ said
said_back [] = refl
said_back (s ∷ said) = ap (λ l. s ∷ l) (said_back said)

-- where lines are a whole request, the reader stands where one is complete
pub whole_stage : (n : ℕ) (ls : List (List ℕ)) (progress : Progress) (job : Content)
    → HasSaid n ls progress → IsWhole n ls job
    → is_request_at progress.stage ≡ true
whole_stage n ls progress job p w =
    let same : p.said ≡ w.is_job.0 =
    sym (said_back p.said)
    ∙ ap (λ l. map said_by_reading l) (sym p.split ∙ w.is_job.1)
    ∙ said_back w.is_job.0 in
    let ends = ends_later job w.asked in
    let there : run Start (tokens_among p.said) ≡ Some (Within ends.0 0) =
    ap (λ l. run Start (map token_in (records_among l))) same
    ∙ ap (λ rs. run Start (map token_in rs)) w.is_job.2
    ∙ ends.1 in
    let stage : progress.stage ≡ Within ends.0 0 = let here = p.stage in cc in
    ap is_request_at stage ∙ complete_at ends.0 ends.2

pub not_whole : (n : ℕ) (ls : List (List ℕ)) (draft : RequestDraft) (job : Content)
    → is_whole draft ≡ false → HasReadAfter n ls draft → IsWhole n ls job → ⊥
not_whole n ls draft job lacks p w = let whole = whole_stage n ls (progress_of draft.draft) job p w in cc

-- a section that has begun and isn't complete lacks records
lacks_at : (stage : Stage) → is_section_at stage ≡ true → is_request_at stage ≡ false → IsLackAt stage TooFew
lacks_at Start e f = absurd (cc)
lacks_at (Within Problem j) e f = absurd (cc)
lacks_at (Within Sources zero) e f = absurd (cc)
lacks_at (Within Sources (suc j)) e f = refl
lacks_at (Within Pairs zero) e f = absurd (cc)
lacks_at (Within Pairs (suc j)) e f = refl
lacks_at (Within Added zero) e f = absurd (cc)
lacks_at (Within Added (suc j)) e f = refl

lack_tokens : (ms : List Token) (stage : Stage) → run Start ms ≡ Some stage → IsLackAt stage TooFew → TooFew ≡ lack_of ms
lack_tokens ms Start e lack = absurd (cc)
lack_tokens ms (Within s j) e lack = sym (lack_within ms s j e)

-- lines that end in a section which lacks records
pub said_short : (n : ℕ) (ls : List (List ℕ)) (progress : Progress)
    → HasSaid n ls progress → is_section_at progress.stage ≡ true → is_request_at progress.stage ≡ false
    → IsFirstAmong (after_graph n ls) (length ls + 2) TooFew
said_short n ls progress p section lacking =
    let lack = lacks_at progress.stage section lacking in
    unfinished p.said p.split (run_begins (tokens_among p.said) progress.stage p.stage)
    (incomplete (tokens_among p.said) progress.stage TooFew p.stage lack)
    (lack_tokens (tokens_among p.said) progress.stage p.stage lack) (omega (arith, p.count))

-- where no section has begun, lines say nothing
no_more : (stage before : Stage) (m n : ℕ) (arcs : List ArcRec) (sources : List ℕ) (pairs : List (ℕ × ℕ))
    (added : List ArcRec) (rest : List Record)
    → is_section_at stage ≡ false
    → problem_record n 0 ∷ rest ≡ records_by stage before m arcs sources pairs added
    → rest ≡ []
no_more Start before m n arcs sources pairs added rest e is = absurd (cc)
no_more (Within Problem j) before m n [] sources pairs added rest e is = cc
no_more (Within Problem j) before m n (arc ∷ arcs) sources pairs added rest e is =
    absurd
    (let first : problem_record n 0 ≡ problem_record m (length (arc ∷ arcs) + j) = cc in
    let few : 0 ≡ length (arc ∷ arcs) + j = ap (λ (r : Record). get_or r.numbers 1 0) first in
    omega arith)
no_more (Within Sources j) before m n arcs sources pairs added rest e is = absurd (cc)
no_more (Within Pairs j) before m n arcs sources pairs added rest e is = absurd (cc)
no_more (Within Added j) before m n arcs sources pairs added rest e is = absurd (cc)

pub all_silent : (n : ℕ) (ls : List (List ℕ)) (said : List (Option Record))
    → map (λ l. reading_after n l) ls ≡ map (λ s. Ok s) said → records_among said ≡ []
    → AreSilent n ls
all_silent n [] said e none = tt
all_silent n (l ∷ ls) [] e none = absurd (cc)
all_silent n (l ∷ ls) (None ∷ said) e none =
    let first : reading_after n l ≡ Ok None = cc in
    let rest : map (λ l. reading_after n l) ls ≡ map (λ s. Ok s) said = cc in
    (first, all_silent n ls said rest none)
all_silent n (l ∷ ls) (Some r ∷ said) e none = absurd (cc)

pub said_nothing : (n : ℕ) (ls : List (List ℕ)) (stage before : Stage) (m : ℕ) (arcs : List ArcRec) (sources : List ℕ)
    (pairs : List (ℕ × ℕ)) (added : List ArcRec)
    → is_section_at stage ≡ false
    → (said : List (Option Record))
    → after_graph n ls ≡ map (λ s. Ok s) said
    → records_among said ≡ records_by stage before m arcs sources pairs added
    → AreSilent n ls
said_nothing n ls stage before m arcs sources pairs added none [] split is = absurd (cc)
said_nothing n ls stage before m arcs sources pairs added none (None ∷ said) split is = absurd (cc)
said_nothing n ls stage before m arcs sources pairs added none (Some r ∷ said) split is =
    let first : r ≡ problem_record n 0 = cc in
    let rest : map (λ l. reading_after n l) ls ≡ map (λ s. Ok s) said = cc in
    all_silent n ls said rest
    (no_more stage before m n arcs sources pairs added (records_among said) none
    (ap (λ (x : Record). x ∷ records_among said) (sym first) ∙ is))

-- no line is no request
pub empty_unasked : (n : ℕ) (job : Content) → IsWhole n [] job → ⊥
empty_unasked n job w =
    let is : false ≡ true = whole_stage n [] (arcs_progress n 0 []) job (said_none n) w in
    cc
