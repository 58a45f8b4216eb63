-- What the reader keeps, as the records that were read. Not part of what a caller is promised.
use Rattle.std.specs.Prelude.{◌≡◌, ℕ, zero, suc, ◌+◌, ◌-◌, ◌≤◌, List, [], ◌∷◌, ◌++◌, length, map, drop}
use Rattle.std.specs.Prelude.{Option, Some, None, Ok, Err, ◌⊎◌, slice_index}
use Rattle.route_walks.specs.declared.graph.ArcRec.{ArcRec}
use Rattle.route_walks.specs.declared.graph.TheConstants.{MAX_VERTICES}
use Rattle.dimacs_text.specs.declared.draft.Draft.{Draft}
use Rattle.dimacs_text.specs.declared.form.Section.TheVariants.{Problem, Sources, Pairs, Added}
use Rattle.dimacs_text.specs.declared.fault.LineKind.{LineKind}
use Rattle.dimacs_text.specs.declared.fault.LineKind.TheVariants.{TooFew, NoProblem}
use Rattle.dimacs_text.specs.declared.fault.TextFault.{TextFault}
use Rattle.dimacs_text.specs.declared.fault.TextFault.TheVariants.{Memory, Line}
use Rattle.dimacs_text.specs.declared.explanation.Explanation.{Explanation}
use Rattle.dimacs_text.specs.Explaining.{Explains, IsShown}
use Rattle.dimacs_text.specs.Forms.{Record, reading, readings, vertices_next}
use Rattle.dimacs_text.specs.Lines.{lines}
use Rattle.dimacs_text.specs.Grammar.{Token, token_of}
use Rattle.dimacs_text.specs.Faults.{IsFaultOf, tokens_among}
use Rattle.dimacs_text.specs.Jobs.{Question, absent, from_sources, of_pairs, arc_record, source_record}
use Rattle.dimacs_text.specs.Jobs.{pair_record, problem_record, sources_record, pairs_record}
use Rattle.dimacs_text.specs.Jobs.{added_record, records_of_question, records_among}
use Rattle.dimacs_text.specs.reader.Machine.{next_at, run, misfit_at}
use Rattle.dimacs_text.specs.declared.stage.Stage.{Stage}
use Rattle.dimacs_text.specs.declared.stage.Stage.TheVariants.{Start, Within}

-- what lines have said: their records, where the reader stands after them, and to what vertices count
pub record Progress : Type 0 where
  pub records : List Record
  pub stage : Stage
  pub vertices : ℕ

-- what is asked by the section that the reader is in
abbrev pub question_at : Stage → List ℕ → List (ℕ × ℕ) → Question
question_at Start sources pairs = absent
question_at (Within Problem missing) sources pairs = absent
question_at (Within Sources missing) sources pairs = from_sources sources
question_at (Within Pairs missing) sources pairs = of_pairs pairs
question_at (Within Added missing) sources pairs = absent

-- the problem line, and its arcs, of which missing are still to come
abbrev pub graph_records : ℕ → ℕ → List ArcRec → List Record
graph_records n missing arcs = problem_record n (length arcs + missing) ∷ map arc_record arcs

-- the records that were read, where the first stage is that of the reader, and the second the one before
-- the added section
abbrev pub records_by : Stage → Stage → ℕ → List ArcRec → List ℕ → List (ℕ × ℕ) → List ArcRec → List Record
records_by Start before n arcs sources pairs added = []
records_by (Within Problem missing) before n arcs sources pairs added = graph_records n missing arcs
records_by (Within Sources missing) before n arcs sources pairs added =
    graph_records n 0 arcs
    ++ sources_record (length sources + missing) ∷ map source_record sources
records_by (Within Pairs missing) before n arcs sources pairs added =
    graph_records n 0 arcs
    ++ pairs_record (length pairs + missing) ∷ map pair_record pairs
records_by (Within Added missing) before n arcs sources pairs added =
    graph_records n 0 arcs
    ++ records_of_question (question_at before sources pairs)
    ++ added_record (length added + missing) ∷ map arc_record added

-- where the arcs of the problem are read, of which missing are still to come
abbrev pub arcs_progress : ℕ → ℕ → List ArcRec → Progress
arcs_progress n missing arcs =
    record { records = graph_records n missing arcs; stage = Within Problem missing; vertices = n }

abbrev pub progress_of : Draft → Progress
progress_of draft =
    record {
      records =
          records_by draft.stage draft.before_added draft.vertices draft.arcs.items draft.sources.items
          draft.pairs.items draft.added.items;
      stage = draft.stage;
      vertices = draft.vertices;
    }

abbrev pub token_in : Record → Token
token_in r = token_of r.form r.numbers

-- one line more, which says nothing or a record
abbrev pub after_line : Progress → Option Record → Progress
after_line old None = old
after_line old (Some r) =
    record {
      records = old.records ++ r ∷ [];
      stage = next_at old.stage (token_in r);
      vertices = vertices_next old.vertices r.form (slice_index r.numbers 0);
    }

abbrev pub Fits : Stage → Option Record → Type 0
Fits stage None = Unit {0}
Fits stage (Some r) = misfit_at stage r.form ≡ None

-- the line says what leads from old to new
pub record ReadsLine (old new : Progress) (line : List ℕ) : Type 0 where
  pub said : Option Record
  pub reads : reading old.vertices line ≡ Ok said
  pub fits : Fits old.stage said
  pub after : new ≡ after_line old said

-- the lines, as far as the rest, have said this, and the first of the rest has this number
pub record IsReadAmong (all rest : List (List ℕ)) (line : ℕ) (progress : Progress) : Type 0 where
  pub said : List (Option Record)
  pub split : readings MAX_VERTICES all
      ≡ map (λ s. Ok s) said ++ readings progress.vertices rest
  pub records : records_among said ≡ progress.records
  pub stage : run Start (tokens_among said) ≡ Some progress.stage
  pub count : line ≡ length said + 1
  pub left : drop (length said) all ≡ rest

abbrev pub IsReadTo : List ℕ → List ℕ → ℕ → Progress → Type 0
IsReadTo text rest line progress = IsReadAmong (lines text) (lines rest) line progress

-- from the rest to what comes after, whatever the text is in which they stand
abbrev pub ReadsTo : Progress → ℕ → List ℕ → Progress → ℕ → List ℕ → Type 0
ReadsTo old line rest new next after =
    (text more : List ℕ)
    → IsReadTo text (rest ++ more) line old
    → IsReadTo text (after ++ more) next new

-- the text is the lines of these arcs, whatever arcs were read before them
abbrev pub AreArcLines : ℕ → List ℕ → List ArcRec → Type 0
AreArcLines n text arcs =
    (before : List ArcRec) (missing line : ℕ)
    → length arcs ≤ missing
    → ReadsTo (arcs_progress n missing before) line text
    (arcs_progress n (missing - length arcs) (before ++ arcs)) (line + length arcs) []

-- arcs that were added to the old ones, a line each, of which the text begins the rest
pub record ReadsArcs (n : ℕ) (rest : List ℕ) (old new : List ArcRec) (count : ℕ) (after : List ℕ) : Type 0 where
  pub text : List ℕ
  pub joined : rest ≡ text ++ after
  pub arcs : List ArcRec
  pub appended : new ≡ old ++ arcs
  pub number : count ≡ length arcs
  pub lines : AreArcLines n text arcs

-- the first line that is wrong is one of the rest, whatever the text is in which it stands
abbrev pub IsFaultIn : Progress → ℕ → List ℕ → TextFault → Type 0
IsFaultIn old line rest fault =
    (text more : List ℕ)
    → IsReadTo text (rest ++ more) line old
    → IsFaultOf text fault

-- a line that is wrong after what was read
abbrev pub IsFaultAt : Progress → List ℕ → ℕ → TextFault → Type 0
IsFaultAt progress text number Memory = Unit {0}
IsFaultAt progress text number (Line line kind) =
    (line ≡ number)
    × ((reading progress.vertices text ≡ Err kind)
    ⊎ ((r : Record) × (reading progress.vertices text ≡ Ok (Some r))
    × (misfit_at progress.stage r.form ≡ Some kind)))

-- what a text lacks that ends where the reader stands
abbrev pub IsLackAt : Stage → LineKind → Type 0
IsLackAt Start kind = kind ≡ NoProblem
IsLackAt (Within section zero) kind = ⊥
IsLackAt (Within section (suc missing)) kind = kind ≡ TooFew

abbrev pub IsLackOf : Draft → ℕ → TextFault → Type 0
IsLackOf draft number Memory = ⊥
IsLackOf draft number (Line line kind) = (line ≡ number) × IsLackAt draft.stage kind

-- the explanation of a line that is wrong: of this line
pub record IsOfLine (line : List ℕ) (number : ℕ) (kind : LineKind) (explanation : Explanation) : Type 0 where
  pub line_is : explanation.line ≡ number
  pub kind_is : explanation.kind ≡ kind
  pub shown : IsShown line explanation.text

abbrev pub ExplainsLine : List ℕ → TextFault → Option Explanation → Type 0
ExplainsLine line Memory explanation = Unit {0}
ExplainsLine line (Line number kind) None = ⊥
ExplainsLine line (Line number kind) (Some explanation) = IsOfLine line number kind explanation

-- the first line that is wrong is explained, whatever the text is in which it stands
abbrev pub ExplainsIn : Progress → ℕ → List ℕ → Option Explanation → TextFault → Type 0
ExplainsIn old line rest explanation fault =
    (text more : List ℕ)
    → IsReadTo text (rest ++ more) line old
    → Explains text fault explanation

-- where the text ends too early, before the line of this number, there is no line to show
pub record IsOfEnd (before number : ℕ) (kind : LineKind) (explanation : Explanation) : Type 0 where
  pub at_end : number ≡ before
  pub line_is : explanation.line ≡ number
  pub kind_is : explanation.kind ≡ kind
  pub none : explanation.text ≡ None

abbrev pub ExplainsEnd : ℕ → TextFault → Option Explanation → Type 0
ExplainsEnd before Memory explanation = ⊥
ExplainsEnd before (Line number kind) None = ⊥
ExplainsEnd before (Line number kind) (Some explanation) = IsOfEnd before number kind explanation
