-- What one more line does to what was read, and what is known at the end of the text.
use Rattle.std.proofs.Common.{◌≡◌, ℕ, zero, suc, ◌+◌, ◌-◌, List, [], ◌∷◌, ◌++◌, map, ◌⊎◌, inl, inr, Option, Some}
use Rattle.std.proofs.Common.{None, Ok, Err, option_to_list, refl, sym, ap, ap₂, subst, ◌∙◌, true}
use Rattle.std.proofs.Common.{length, append-nil, append_assoc, length-append, arith, drop, drop-drop}
use Rattle.std.proofs.lemmas.List.{map-append}
use Rattle.std.proofs.lemmas.List.Elements.{filter_map-append}
use Rattle.route_walks.specs.declared.graph.ArcRec.{ArcRec}
use Rattle.route_walks.specs.declared.graph.TheConstants.{MAX_VERTICES}
use Rattle.dimacs_text.specs.declared.draft.Draft.{Draft}
use Rattle.dimacs_text.specs.declared.explanation.Explanation.{Explanation}
use Rattle.dimacs_text.specs.Explaining.{Explains, IsFirstShown}
use Rattle.dimacs_text.specs.declared.form.Section.TheVariants.{Problem, Sources, Pairs, Added}
use Rattle.dimacs_text.specs.declared.fault.LineKind.{LineKind}
use Rattle.dimacs_text.specs.declared.fault.TextFault.{TextFault}
use Rattle.dimacs_text.specs.declared.fault.TextFault.TheVariants.{Memory, Line}
use Rattle.dimacs_text.specs.Lines.{begins_comment, lines}
use Rattle.dimacs_text.specs.declared.form.Form.{Form}
use Rattle.dimacs_text.specs.declared.form.Form.TheVariants.{Head, Counted}
use Rattle.dimacs_text.specs.Forms.{Record, Reading, reading, readings, vertices_after}
use Rattle.dimacs_text.specs.Grammar.{Token, token_of, form_of_token, lack_of, IsLegal}
use Rattle.dimacs_text.specs.declared.stage.Stage.{Stage}
use Rattle.dimacs_text.specs.declared.stage.Stage.TheVariants.{Start, Within}
use Rattle.dimacs_text.specs.reader.Machine.{run, misfit_at}
use Rattle.dimacs_text.specs.Jobs.{arc_record, problem_record, Content, records_of, records_among}
use Rattle.dimacs_text.specs.Jobs.{IsJobText}
use Rattle.dimacs_text.specs.Faults.{tokens_among, unread, misfit, unfinished, IsFirstAmong, IsFirstFault, IsFaultOf}
use Rattle.dimacs_text.specs.reader.Drafts.{Progress, progress_of, records_by, token_in, after_line, arcs_progress}
use Rattle.dimacs_text.specs.reader.Drafts.{ReadsArcs, Fits, ReadsLine, IsReadAmong, IsReadTo, ReadsTo, IsFaultAt}
use Rattle.dimacs_text.specs.reader.Drafts.{IsLackAt, IsLackOf, ExplainsLine, ExplainsEnd}
use Rattle.dimacs_text.specs.reader.FastArc.{IsArcLine}
use Rattle.dimacs_text.proofs.CommentLemmas.{comment_reading}
use Rattle.dimacs_text.proofs.Machine.{run-append, run_begins, machine_misfit, legal_runs}

pub map_ok-push : (said : List (Option Record)) (s : Option Record) (more : List Reading)
    → map (λ x. Ok x) said ++ Ok s ∷ more ≡ map (λ x. Ok x) (said ++ s ∷ []) ++ more
map_ok-push said s more =
    sym
    (ap (λ l. l ++ more) (map-append (λ x. Ok x) said (s ∷ []))
    ∙ append_assoc (map (λ x. Ok x) said) (Ok s ∷ []) more)

pub records-push : (said : List (Option Record)) (s : Option Record)
    → records_among (said ++ s ∷ []) ≡ records_among said ++ option_to_list s
records-push said s =
    filter_map-append (λ r. r) said (s ∷ []) ∙ ap (λ l. records_among said ++ l) (one_record s)
  where
    one_record : (o : Option Record) → records_among (o ∷ []) ≡ option_to_list o
    one_record None = refl
    one_record (Some r) = refl

pub form-token : (form : Form) (numbers : List ℕ) → form_of_token (token_of form numbers) ≡ form
form-token (Head s) numbers = refl
form-token (Counted i) numbers = refl

-- what one line more does
after-records : (old : Progress) (s : Option Record) → (after_line old s).records ≡ old.records ++ option_to_list s
after-records old None = sym (append-nil old.records)
after-records old (Some r) = refl

after-vertices : (old : Progress) (s : Option Record) → (after_line old s).vertices ≡ vertices_after old.vertices (Ok s)
after-vertices old None = refl
after-vertices old (Some r) = refl

after-at : (old : Progress) (s : Option Record)
    → Fits old.stage s
    → run old.stage (map token_in (option_to_list s)) ≡ Some (after_line old s).stage
after-at old None fits = refl
after-at old (Some r) fits =
    rw (ap (λ f. misfit_at old.stage f) (form-token r.form r.numbers) ∙ fits) refl

pub one_more : (old : Progress) (said : List (Option Record)) (s : Option Record)
    → records_among said ≡ old.records → run Start (tokens_among said) ≡ Some old.stage → Fits old.stage s
    → (records_among (said ++ s ∷ []) ≡ (after_line old s).records)
    × (run Start (tokens_among (said ++ s ∷ [])) ≡ Some (after_line old s).stage)
one_more old said s records at fits =
    let more = records-push said s in (
      more ∙ ap (λ l. l ++ option_to_list s) records ∙ sym (after-records old s),
      ap (λ l. run Start (map token_in l)) more
          ∙ ap (λ l. run Start l) (map-append token_in (records_among said) (option_to_list s))
          ∙ run-append (tokens_among said) Start old.stage (map token_in (option_to_list s)) at
          ∙ after-at old s fits,
    )

-- a line that is read leads on
pub line_leads : (old : Progress) (all after : List (List ℕ)) (text : List ℕ) (s : Option Record) (line : ℕ)
    → reading old.vertices text ≡ Ok s → Fits old.stage s → IsReadAmong all (text ∷ after) line old
    → IsReadAmong all after (line + 1) (after_line old s)
unfolding readings
line_leads old all after text s line reads fits p =
    let both = one_more old p.said s p.records p.stage fits in
    record {
      said = p.said ++ s ∷ [];
      split =
          p.split
          ∙ ap (λ l. map (λ x. Ok x) p.said ++ l)
          (ap (λ x. x ∷ readings (vertices_after old.vertices x) after) reads
          ∙ ap (λ n. Ok s ∷ readings n after) (sym (after-vertices old s)))
          ∙ map_ok-push p.said s (readings (after_line old s).vertices after);
      records = both.0;
      stage = both.1;
      count = let len = length-append p.said (s ∷ []) in let c = p.count in omega arith;
      left =
          ap (λ n. drop n all) (omega (arith, length-append p.said (s ∷ [])))
          ∙ sym (drop-drop 1 (length p.said) all)
          ∙ ap (λ ls. drop 1 ls) p.left;
    }

pub line_reads : (old new : Progress) (whole rest text after : List ℕ) (line : ℕ)
    → lines rest ≡ text ∷ lines after → ReadsLine old new text → IsReadTo whole rest line old
    → IsReadTo whole after (line + 1) new
line_reads old new whole rest text after line split r p =
    subst (λ (x : Progress). IsReadTo whole after (line + 1) x) (sym r.after)
    (line_leads old (lines whole) (lines after) text r.said line r.reads r.fits
    (subst (λ ls. IsReadAmong (lines whole) ls line old) split p))

-- a comment says nothing
pub comment_says_nothing : (progress : Progress) (line : List ℕ) → begins_comment line ≡ true
    → ReadsLine progress progress line
comment_says_nothing progress line is =
    record { said = None; reads = comment_reading progress.vertices line is; fits = tt; after = refl }

-- the line of an arc is read wherever it comes next
one_arc : (n j : ℕ) (arcs : List ArcRec) (arc : ArcRec) (rest after : List ℕ) (line : ℕ)
    → (r : IsArcLine n rest arc after)
    → ReadsTo (arcs_progress n (suc j) arcs) line r.whole (arcs_progress n j (arcs ++ arc ∷ [])) (line + 1) []
one_arc n j arcs arc rest after line r text more p =
    line_reads (arcs_progress n (suc j) arcs) (arcs_progress n j (arcs ++ arc ∷ [])) text (r.whole ++ more) r.line
    more line (r.split more)
    (record {
      said = Some (arc_record arc);
      reads = r.reads;
      fits = refl;
      after =
          ap₂ (λ m l. record { records = problem_record n m ∷ l; stage = Within Problem j; vertices = n })
          (let len = length-append arcs (arc ∷ []) in omega arith) (map-append arc_record arcs (arc ∷ []));
    }) p

-- and so is one arc more after others
pub one_arc_more : (n : ℕ) (rest : List ℕ) (old new : List ArcRec) (count : ℕ) (between after : List ℕ) (arc : ArcRec)
    → ReadsArcs n rest old new count between → IsArcLine n between arc after
    → ReadsArcs n rest old (new ++ arc ∷ []) (count + 1) after
one_arc_more n rest old new count between after arc reads is =
    let arcs = reads.arcs in
    let len = length-append arcs (arc ∷ []) in
    record {
      text = reads.text ++ is.whole;
      joined = reads.joined ∙ ap (λ l. reads.text ++ l) is.joined ∙ sym (append_assoc reads.text is.whole after);
      arcs = arcs ++ arc ∷ [];
      appended = ap (λ l. l ++ arc ∷ []) reads.appended ∙ append_assoc old arcs (arc ∷ []);
      number = omega (arith, reads.number, len);
      lines = λ before missing line few text more p.
          let left : missing - length arcs ≡ suc (missing - length (arcs ++ arc ∷ [])) = omega (arith, few, len) in
          let here =
          reads.lines before missing line (omega (arith, few, len)) text (is.whole ++ more)
          (subst (λ l. IsReadTo text l line (arcs_progress n missing before))
          (append_assoc reads.text is.whole more) p) in
          let next =
          one_arc n (missing - length (arcs ++ arc ∷ [])) (before ++ arcs) arc between after (line + length arcs) is
          text more
          (subst (λ m. IsReadTo text (is.whole ++ more) (line + length arcs) (arcs_progress n m (before ++ arcs))) left
          here) in
          subst
          (λ l. IsReadTo text more (line + length (arcs ++ arc ∷ []))
          (arcs_progress n (missing - length (arcs ++ arc ∷ [])) l)) (append_assoc before arcs (arc ∷ []))
          (subst
          (λ x. IsReadTo text more x
          (arcs_progress n (missing - length (arcs ++ arc ∷ [])) ((before ++ arcs) ++ arc ∷ []))) (omega (arith, len))
          next);
    }

-- a line that is wrong is the first
pub line_wrong : (old : Progress) (all after : List (List ℕ)) (text : List ℕ) (line : ℕ) (kind : LineKind)
    → (reading old.vertices text ≡ Err kind)
    ⊎ ((r : Record) × (reading old.vertices text ≡ Ok (Some r)) × (misfit_at old.stage r.form ≡ Some kind))
    → IsReadAmong all (text ∷ after) line old
    → IsFirstAmong (readings MAX_VERTICES all) line kind
unfolding readings
line_wrong old all after text line kind (inl e) p =
    let later = readings (vertices_after old.vertices (reading old.vertices text)) after in
    unread p.said later (p.split ∙ ap (λ x. map (λ x. Ok x) p.said ++ x ∷ later) e)
    (run_begins (tokens_among p.said) old.stage p.stage) p.count
line_wrong old all after text line kind (inr (r, e, w)) p =
    let later = readings (vertices_after old.vertices (reading old.vertices text)) after in
    misfit p.said r later (p.split ∙ ap (λ x. map (λ x. Ok x) p.said ++ x ∷ later) e)
    (run_begins (tokens_among p.said) old.stage p.stage)
    (machine_misfit (tokens_among p.said) old.stage (token_in r) kind p.stage
    (ap (λ f. misfit_at old.stage f) (form-token r.form r.numbers) ∙ w)) p.count

pub line_fails : (progress : Progress) (whole rest text after : List ℕ) (line : ℕ) (fault : TextFault)
    → lines rest ≡ text ∷ lines after → IsFaultAt progress text line fault → IsReadTo whole rest line progress
    → IsFaultOf whole fault
unfolding IsFirstFault
line_fails progress whole rest text after line Memory split f p = tt
line_fails progress whole rest text after line (Line number kind) split (same, wrong) p =
    subst (λ n. IsFirstAmong (readings MAX_VERTICES (lines whole)) n kind) (sym same)
    (line_wrong progress (lines whole) (lines after) text line kind wrong
    (subst (λ ls. IsReadAmong (lines whole) ls line progress) split p))

-- and it is explained
pub line_explained : (progress : Progress) (whole rest text after : List ℕ) (line : ℕ) (fault : TextFault)
    (explanation : Option Explanation)
    → lines rest ≡ text ∷ lines after → IsFaultAt progress text line fault → ExplainsLine text fault explanation
    → IsReadTo whole rest line progress
    → Explains whole fault explanation
unfolding Explains
line_explained progress whole rest text after line Memory explanation split f is p = tt
line_explained progress whole rest text after line (Line number kind) None split f is p = is
line_explained progress whole rest text after line (Line number kind) (Some e) split f is p =
    record {
      line_is = is.line_is;
      kind_is = is.kind_is;
      shown =
          subst (λ ls. IsFirstShown ls e.text)
          (sym (ap (λ n. drop n (lines whole)) (omega (arith, f.0, p.count)) ∙ p.left ∙ split)) is.shown;
    }

-- where the text ends too early there is no such line
pub end_explained : (progress : Progress) (text : List ℕ) (line : ℕ) (fault : TextFault)
    (explanation : Option Explanation)
    → IsReadTo text [] line progress → ExplainsEnd line fault explanation
    → Explains text fault explanation
unfolding Explains
end_explained progress text line Memory explanation p is = absurd is
end_explained progress text line (Line number kind) None p is = is
end_explained progress text line (Line number kind) (Some e) p is =
    record {
      line_is = is.line_is;
      kind_is = is.kind_is;
      shown =
          subst (λ ls. IsFirstShown ls e.text)
          (sym (ap (λ n. drop n (lines text)) (omega (arith, is.at_end, p.count)) ∙ p.left)) is.none;
    }

-- at the end of the text
pub all_said : (all : List (List ℕ)) (line : ℕ) (progress : Progress)
    → (p : IsReadAmong all [] line progress)
    → readings MAX_VERTICES all ≡ map (λ x. Ok x) p.said
unfolding readings
all_said all line progress p = p.split ∙ append-nil (map (λ x. Ok x) p.said)

pub finished : (text : List ℕ) (line : ℕ) (progress : Progress) (job : Content)
    → IsReadTo text [] line progress → progress.records ≡ records_of job
    → IsJobText text job
unfolding IsJobText
finished text line progress job p same = (p.said, all_said (lines text) line progress p, p.records ∙ same)

pub incomplete : (ms : List Token) (a : Stage) (kind : LineKind) → run Start ms ≡ Some a → IsLackAt a kind → IsLegal ms
    → ⊥
incomplete ms a kind e lack legal =
    let runs = legal_runs ms legal in
    let same : a ≡ Within runs.0 0 = let r = runs.1 in cc in
    subst (λ (x : Stage). IsLackAt x kind) same lack

lack_by : (stage before : Stage) (n : ℕ) (arcs : List ArcRec) (sources : List ℕ) (pairs : List (ℕ × ℕ))
    (added : List ArcRec) (kind : LineKind)
    → IsLackAt stage kind
    → kind ≡ lack_of (map token_in (records_by stage before n arcs sources pairs added))
lack_by Start before n arcs sources pairs added kind e = e
lack_by (Within s zero) before n arcs sources pairs added kind bad = absurd bad
lack_by (Within Problem (suc j)) before n arcs sources pairs added kind e = e
lack_by (Within Sources (suc j)) before n arcs sources pairs added kind e = e
lack_by (Within Pairs (suc j)) before n arcs sources pairs added kind e = e
lack_by (Within Added (suc j)) before n arcs sources pairs added kind e = e

pub lacking : (text : List ℕ) (line : ℕ) (draft : Draft) (fault : TextFault)
    → IsReadTo text [] line (progress_of draft) → IsLackOf draft line fault
    → IsFaultOf text fault
unfolding IsFirstFault
lacking text line draft Memory p lack = absurd lack
lacking text line draft (Line number kind) p (same, lack) =
    unfinished p.said (all_said (lines text) line (progress_of draft) p)
    (run_begins (tokens_among p.said) draft.stage p.stage)
    (incomplete (tokens_among p.said) draft.stage kind p.stage lack)
    (lack_by draft.stage draft.before_added draft.vertices draft.arcs.items draft.sources.items draft.pairs.items
    draft.added.items kind lack
    ∙ sym (ap (λ l. lack_of (map token_in l)) p.records)) (same ∙ p.count)
