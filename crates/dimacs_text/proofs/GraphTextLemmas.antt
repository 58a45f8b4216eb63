-- A reader that has come to the end of a graph: what its text is, and how many lines it has.
use Rattle.std.proofs.Common.{◌≡◌, ℕ, suc, ◌+◌, Bool, true, false, cond, eqb, List, [], ◌∷◌, ◌++◌, length, drop, map}
use Rattle.std.proofs.Common.{Option, Some, None, Ok, ◌⊎◌, ◌<◌, ◌≤◌, inl, inr, is_some, refl, sym, ap, ap₂, subst, ◌∙◌, arith}
use Rattle.std.proofs.lemmas.List.{append-nil, length-append, length-map}
use Rattle.std.specs.List.{onto_first}
use Rattle.route_walks.specs.declared.graph.TheConstants.{MAX_VERTICES}
use Rattle.dimacs_text.specs.declared.draft.Draft.{Draft}
use Rattle.dimacs_text.specs.declared.form.Section.TheVariants.{Problem}
use Rattle.dimacs_text.specs.declared.reader.JobReader.{JobReader}
use Rattle.dimacs_text.specs.declared.stage.Stage.{Stage}
use Rattle.dimacs_text.specs.declared.stage.Stage.TheVariants.{Within}
use Rattle.dimacs_text.specs.Forms.{Reading, Record, reading, readings, vertices_after}
use Rattle.dimacs_text.specs.declared.fault.LineKind.{LineKind}
use Rattle.dimacs_text.specs.declared.fault.TextFault.{TextFault}
use Rattle.dimacs_text.specs.declared.fault.TextFault.TheVariants.{Memory, Line}
use Rattle.dimacs_text.specs.Faults.{IsFaultOf, IsFirstFault}
use Rattle.dimacs_text.specs.GraphTexts.{HasGraph, IsGraphOver, IsGraphText}
use Rattle.dimacs_text.specs.Jobs.{Content, absent, arc_record, problem_record, records_of, IsJobText}
use Rattle.dimacs_text.specs.Lines.{lines}
use Rattle.dimacs_text.specs.Reading.{HasRead, HasReadBy, HasReadText, Keeps}
use Rattle.dimacs_text.specs.reader.Drafts.{IsReadTo, Progress, progress_of, records_by}
use Rattle.dimacs_text.proofs.LineLemmas.{lines_whole}
use Rattle.dimacs_text.proofs.DraftLemmas.{finished}
use Rattle.dimacs_text.proofs.ReaderLemmas.{comment_read, text_fails, text_read}
use Rattle.dimacs_text.proofs.TextLaws.{no_fault, one_first_fault, one_job}

-- the graph of the arcs that were read
abbrev graph_of : Draft → Content
graph_of draft = record { n = draft.vertices; arcs = draft.arcs.items; question = absent; added = None }

abbrev graph_lines : Draft → List Record
graph_lines draft = problem_record draft.vertices (length draft.arcs.items) ∷ map arc_record draft.arcs.items

-- the reader has read the text to its end, whatever comes after
read_whole : (reader : JobReader) (text more : List ℕ) → HasGraph reader → HasRead reader text
    → IsReadTo (text ++ more) more reader.lines.line (progress_of reader.lines.draft)
read_whole reader text more has r =
    let reads = subst (λ o. HasReadBy o reader.lines.draft reader.lines.line r.whole) has.right r.lines in
    let outside = subst (λ inside. Keeps reader.lines.fault inside r.whole reader.unfinished.items text) has.outside r.keeps in
    let keeps = subst (λ o. Keeps o false r.whole reader.unfinished.items text) has.right outside in
    let same : text ≡ r.whole = keeps.0 ∙ ap (λ kept. r.whole ++ kept) has.kept ∙ append-nil r.whole in
    subst (λ t. IsReadTo (t ++ more) more reader.lines.line (progress_of reader.lines.draft)) (sym same) (reads.1 more)

graph_records_are : (draft : Draft) → draft.stage ≡ Within Problem 0
    → (progress_of draft).records ≡ records_of (graph_of draft)
graph_records_are draft complete =
    ap (λ (stage : Stage). records_by stage draft.before_added draft.vertices draft.arcs.items draft.sources.items
    draft.pairs.items draft.added.items) complete
    ∙ ap (λ n. problem_record draft.vertices n ∷ map arc_record draft.arcs.items) (omega arith)
    ∙ sym (append-nil (graph_lines draft))
    ∙ sym (append-nil (graph_lines draft ++ []))

-- its job is the graph
pub graph_text : (reader : JobReader) (text : List ℕ) (job : Content) → HasGraph reader → HasRead reader text
    → IsJobText text job → IsGraphText text job
graph_text reader text job has r is_job =
    let read = subst (λ t. IsReadTo t [] reader.lines.line (progress_of reader.lines.draft)) (append-nil text)
    (read_whole reader text [] has r) in
    let is_graph = finished text reader.lines.line (progress_of reader.lines.draft) (graph_of reader.lines.draft) read
    (graph_records_are reader.lines.draft has.complete) in
    let same : job ≡ graph_of reader.lines.draft = one_job text job (graph_of reader.lines.draft) is_job is_graph in
    record { is_job = is_job; unasked = ap (λ j. j.question) same; unadded = ap (λ j. j.added) same }

-- ---- its fault

-- a reader that has met a fault knows it, whatever comes after the text
known_fault : (fault : Option LineKind) (draft : Draft) (line : ℕ) (in_comment : Bool) (whole kept text : List ℕ)
    → is_some fault ≡ true → HasReadBy fault draft line whole → Keeps fault in_comment whole kept text
    → (kind : LineKind) × ((more : List ℕ) → IsFirstFault (text ++ more) line kind)
known_fault None draft line in_comment whole kept text some reads keeps = absurd (cc)
known_fault (Some kind) draft line in_comment whole kept text some reads keeps =
    (kind, λ more. subst (λ t. IsFirstFault (t ++ more) line kind) (sym keeps) (reads more).0)

-- so it is that of the text, and of all that begins with it
fault_stays_by : (text more : List ℕ) (line : ℕ) (kind : LineKind) (fault : TextFault)
    → IsFirstFault (text ++ []) line kind → IsFirstFault (text ++ more) line kind → IsFaultOf text fault
    → IsFaultOf (text ++ more) fault
fault_stays_by text more line kind Memory here later is = tt
fault_stays_by text more line kind (Line at what) here later is =
    let same = one_first_fault text line at kind what (subst (λ t. IsFirstFault t line kind) (append-nil text) here) is in
    rw (← same.0, ← same.1) later

not_a_job : (text : List ℕ) (job : Content) (fault : TextFault) → IsJobText text job → IsFaultOf text fault
    → (more : List ℕ) → IsFaultOf (text ++ more) fault
not_a_job text job Memory is_job is more = tt
not_a_job text job (Line at what) is_job is more = absurd (no_fault text job at what is_job is)

-- what the reader of a graph that is over refuses is refused whatever comes after the text
pub fault_over : (reader : JobReader) (text more : List ℕ) (fault : TextFault) → IsGraphOver reader → HasRead reader text
    → IsFaultOf text fault → IsFaultOf (text ++ more) fault
fault_over reader text more fault (inl some) r is =
    let known = known_fault reader.lines.fault reader.lines.draft reader.lines.line reader.in_comment r.whole
    reader.unfinished.items text some r.lines r.keeps in
    fault_stays_by text more reader.lines.line known.0 fault (known.1 []) (known.1 more) is
fault_over reader text more fault (inr has) r is =
    let read = subst (λ t. IsReadTo t [] reader.lines.line (progress_of reader.lines.draft)) (append-nil text)
    (read_whole reader text [] has r) in
    not_a_job text (graph_of reader.lines.draft) fault
    (finished text reader.lines.line (progress_of reader.lines.draft) (graph_of reader.lines.draft) read
    (graph_records_are reader.lines.draft has.complete)) is more

-- a text whose graph is over is that of a graph, or no job's
pub never_over : (reader : JobReader) (text : List ℕ) (job : Content) → IsGraphOver reader → HasRead reader text
    → IsJobText text job → (HasGraph reader → ⊥)
    → ⊥
never_over reader text job (inr has) r is_job never = never has
never_over reader text job (inl some) r is_job never =
    let known = known_fault reader.lines.fault reader.lines.draft reader.lines.line reader.in_comment r.whole
    reader.unfinished.items text some r.lines r.keeps in
    no_fault text job reader.lines.line known.0 is_job
    (subst (λ t. IsFirstFault t reader.lines.line known.0) (append-nil text) (known.1 []))

-- ---- how many lines it has

pub readings_length : (n : ℕ) (ls : List (List ℕ)) → length (readings n ls) ≡ length ls
unfolding readings
readings_length n [] = refl
readings_length n (l ∷ ls) = ap (λ k. suc k) (readings_length (vertices_after n (reading n l)) ls)

abbrev as_reading : Option Record → Reading
as_reading said = Ok said

-- the lines up to a place, and those that are left
lines_to : (text rest : List ℕ) (line : ℕ) (progress : Progress) → IsReadTo text rest line progress
    → line + length (lines rest) ≡ length (lines text) + 1
lines_to text rest line progress read =
    let said = ap (λ rs. length rs) read.split in
    omega (
      arith,
      read.count,
      said,
      readings_length MAX_VERTICES (lines text),
      readings_length progress.vertices (lines rest),
      length-append (map as_reading read.said) (readings progress.vertices (lines rest)),
      length-map read.said as_reading,
    )

-- the number of the next line
pub next_line : (reader : JobReader) (text : List ℕ) → HasGraph reader → HasRead reader text
    → reader.lines.line ≡ length (lines text) + 1
next_line reader text has r =
    let read = subst (λ t. IsReadTo t [] reader.lines.line (progress_of reader.lines.draft)) (append-nil text)
    (read_whole reader text [] has r) in
    omega (arith, lines_to text [] reader.lines.line (progress_of reader.lines.draft) read)

-- the reader of a job's text has met no fault
job_right : (reader : JobReader) (text : List ℕ) (job : Content) → HasRead reader text → IsJobText text job
    → reader.lines.fault ≡ None
job_right reader text job r is_job = by_fault reader.lines.fault refl
  where
    by_fault : (o : Option LineKind) → reader.lines.fault ≡ o → reader.lines.fault ≡ None
    by_fault None is = is
    by_fault (Some kind) is =
        absurd
        (no_fault text job reader.lines.line kind is_job
        (text_fails reader.lines reader.in_comment reader.unfinished.items text kind is r))

-- a line that was begun counts
pub line_begun : (reader : JobReader) (text : List ℕ) (job : Content) → HasRead reader text → IsJobText text job
    → (reader.in_comment ≡ true) ⊎ (0 < length reader.unfinished.items)
    → (reader.lines.line ≤ length text + 1) × (reader.lines.line ≡ length (lines text))
line_begun reader text job r is_job begun = by_comment reader.in_comment refl begun
  where
    right : reader.lines.fault ≡ None
    right = job_right reader text job r is_job

    by_comment : (inside : Bool) → reader.in_comment ≡ inside
        → (reader.in_comment ≡ true) ⊎ (0 < length reader.unfinished.items)
        → (reader.lines.line ≤ length text + 1) × (reader.lines.line ≡ length (lines text))
    by_comment true is some =
        let read = comment_read reader.lines reader.unfinished.items text right
        (subst (λ b. HasReadText reader.lines b reader.unfinished.items text) is r) in (
          read.0,
          omega (arith, lines_to text [] (reader.lines.line + 1) (progress_of reader.lines.draft) read.1),
        )
    by_comment false is (inl inside) = absurd (cc)
    by_comment false is (inr filled) =
        let read = text_read reader.lines reader.unfinished.items text right
        (subst (λ b. HasReadText reader.lines b reader.unfinished.items text) is r) in
        let one = ap (λ ls. length ls) (lines_whole reader.unfinished.items filled (λ k few. read.2 k (omega arith) few)) in (
          read.0,
          omega
              (arith, one, lines_to text reader.unfinished.items reader.lines.line (progress_of reader.lines.draft) read.1),
        )

pub none_begun : (reader : JobReader) (text : List ℕ) (job : Content) → HasRead reader text → IsJobText text job
    → reader.in_comment ≡ false → reader.unfinished.items ≡ []
    → reader.lines.line ≡ length (lines text) + 1
none_begun reader text job r is_job outside none =
    let read = text_read reader.lines reader.unfinished.items text (job_right reader text job r is_job)
    (subst (λ b. HasReadText reader.lines b reader.unfinished.items text) outside r) in
    omega (
      arith,
      ap (λ bytes. length (lines bytes)) none,
      lines_to text reader.unfinished.items reader.lines.line (progress_of reader.lines.draft) read.1,
    )

-- ---- the lines of what comes after it

pub lines_test : (test : Bool) (b : ℕ) (bs : List ℕ) → eqb b 10 ≡ test
    → lines (b ∷ bs) ≡ cond test ([] ∷ lines bs) (onto_first b (lines bs))
lines_test test b bs e = rw e refl

first_of : (b : ℕ) (ls : List (List ℕ)) → (l : List ℕ) × (rest : List (List ℕ)) × (onto_first b ls ≡ l ∷ rest)
first_of b [] = (b ∷ [], [], refl)
first_of b (l ∷ ls) = (b ∷ l, ls, refl)

some_line_by : (test : Bool) (b : ℕ) (bs : List ℕ) → eqb b 10 ≡ test
    → (l : List ℕ) × (rest : List (List ℕ)) × (lines (b ∷ bs) ≡ l ∷ rest)
some_line_by true b bs e = ([], lines bs, lines_test true b bs e)
some_line_by false b bs e =
    let first = first_of b (lines bs) in
    (first.0, first.1, lines_test false b bs e ∙ first.2)

pub some_line : (b : ℕ) (bs : List ℕ) → (l : List ℕ) × (rest : List (List ℕ)) × (lines (b ∷ bs) ≡ l ∷ rest)
some_line b bs = some_line_by (eqb b 10) b bs refl

-- the lines of what comes after a text are those that are left without the text's own
abbrev IsOpen : List ℕ → Type 0
IsOpen text = (more : List ℕ) → drop (length (lines text)) (lines (text ++ more)) ≡ lines more

-- an unfinished line is not open: a line feed would only end it
one_byte_ends : (b : ℕ) → eqb b 10 ≡ false → IsOpen (b ∷ []) → ⊥
one_byte_ends b e opened =
    let left = opened (10 ∷ []) in
    let alone : lines (b ∷ []) ≡ (b ∷ []) ∷ [] = lines_test false b [] e in
    let both : lines (b ∷ 10 ∷ []) ≡ (b ∷ []) ∷ [] = lines_test false b (10 ∷ []) e in
    let none : drop 1 ((b ∷ []) ∷ []) ≡ [] ∷ [] =
    sym (ap₂ (λ ls all. drop (length ls) all) alone both) ∙ left in
    cc

lines_joined_by : (test : Bool) (b : ℕ) (bs : List ℕ) → eqb b 10 ≡ test
    → (IsOpen bs → (more : List ℕ) → lines (bs ++ more) ≡ lines bs ++ lines more)
    → IsOpen (b ∷ bs) → (more : List ℕ) → lines (b ∷ (bs ++ more)) ≡ lines (b ∷ bs) ++ lines more
lines_joined_by true b bs e joined opened more =
    let rest : IsOpen bs = λ next.
    ap₂ (λ ls all. drop (length ls) all) (sym (lines_test true b bs e)) (sym (lines_test true b (bs ++ next) e))
    ∙ opened next in
    lines_test true b (bs ++ more) e
    ∙ ap (λ ls. [] ∷ ls) (joined rest more)
    ∙ ap (λ ls. ls ++ lines more) (sym (lines_test true b bs e))
lines_joined_by false b [] e joined opened more = absurd (one_byte_ends b e opened)
lines_joined_by false b (c ∷ bs) e joined opened more =
    let first = some_line c bs in
    let alone : lines (b ∷ c ∷ bs) ≡ (b ∷ first.0) ∷ first.1 =
    lines_test false b (c ∷ bs) e ∙ ap (λ ls. onto_first b ls) first.2 in
    let rest : IsOpen (c ∷ bs) = λ next.
    let longer = some_line c (bs ++ next) in
    let both : lines (b ∷ c ∷ (bs ++ next)) ≡ (b ∷ longer.0) ∷ longer.1 =
    lines_test false b (c ∷ (bs ++ next)) e ∙ ap (λ ls. onto_first b ls) longer.2 in
    ap₂ (λ ls all. drop (length ls) all) first.2 longer.2
    ∙ sym (ap₂ (λ ls all. drop (length ls) all) alone both)
    ∙ opened next in
    lines_test false b (c ∷ (bs ++ more)) e
    ∙ ap (λ ls. onto_first b ls) (joined rest more ∙ ap (λ ls. ls ++ lines more) first.2)
    ∙ ap (λ ls. ls ++ lines more) (sym alone)

lines_joined : (text : List ℕ) → IsOpen text → (more : List ℕ) → lines (text ++ more) ≡ lines text ++ lines more
lines_joined [] opened more = refl
lines_joined (b ∷ bs) opened more = lines_joined_by (eqb b 10) b bs refl (lines_joined bs) opened more

-- the lines of the graph end with its last one
pub lines_after : (reader : JobReader) (text : List ℕ) → HasGraph reader → HasRead reader text
    → (more : List ℕ) → lines (text ++ more) ≡ lines text ++ lines more
lines_after reader text has r =
    lines_joined text
    (λ more.
    let read = read_whole reader text more has r in
    ap (λ k. drop k (lines (text ++ more))) (omega (arith, read.count, next_line reader text has r)) ∙ read.left)
