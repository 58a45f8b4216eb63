-- The job of a text.
use Rattle.std.specs.Prelude.{◌≡◌, ℕ, ◌+◌, ◌^◌, ◌<◌, ◌≤◌, List, [], ◌∷◌, ◌++◌}
use Rattle.std.specs.Prelude.{length, map, filter_map, option_map, All, Option, Some, None, Ok}
use Rattle.std.specs.Global.{Vec}
use Rattle.route_walks.specs.declared.graph.ArcRec.{ArcRec}
use Rattle.route_walks.specs.declared.graph.TheConstants.{MAX_VERTICES}
use Rattle.dimacs_text.specs.declared.form.Section.TheVariants.{Problem, Sources, Pairs, Added}
use Rattle.dimacs_text.specs.declared.form.Item.TheVariants.{Arc, Source, Pair}
use Rattle.dimacs_text.specs.declared.form.TheConstants.{MAX_TEXT_ARCS, MAX_QUERIES, MAX_ADDED}
use Rattle.dimacs_text.specs.declared.job.Job.{Job}
use Rattle.dimacs_text.specs.declared.job.Ask as rust
use Rattle.dimacs_text.specs.declared.job.Ask.TheVariants as ask
use Rattle.dimacs_text.specs.Lines.{lines}
use Rattle.dimacs_text.specs.declared.form.Form.TheVariants.{Head, Counted}
use Rattle.dimacs_text.specs.Forms.{Record, readings}

-- what is asked, without where it lies in memory
pub data Question : Type 0 where
  absent : Question
  from_sources : List ℕ → Question
  -- of each pair a source and a target
  of_pairs : List (ℕ × ℕ) → Question

-- a job, without where it lies in memory
pub record Content : Type 0 where
  pub n : ℕ
  pub arcs : List ArcRec
  pub question : Question
  -- the arcs of the added section, where there is one
  pub added : Option (List ArcRec)

abbrev pub question_of : rust.Ask → Question
question_of ask.Absent = absent
question_of (ask.Sources sources) = from_sources sources.items
question_of (ask.Pairs pairs) = of_pairs pairs.items

abbrev pub added_of : Option (Vec ArcRec) → Option (List ArcRec)
added_of added = option_map (λ arcs. arcs.items) added

abbrev pub content_of : Job → Content
content_of job =
    record {
      n = job.n;
      arcs = job.arcs.items;
      question = question_of job.ask;
      added = added_of job.added;
    }

-- an arc's line; vertices are counted from 1 in a text
abbrev pub arc_record : ArcRec → Record
arc_record arc =
    record {
      form = Counted Arc;
      numbers = (arc.tail + 1) ∷ (arc.head + 1) ∷ arc.weight ∷ [];
    }

abbrev pub source_record : ℕ → Record
source_record vertex = record { form = Counted Source; numbers = (vertex + 1) ∷ [] }

abbrev pub pair_record : ℕ × ℕ → Record
pair_record pair = record { form = Counted Pair; numbers = (pair.0 + 1) ∷ (pair.1 + 1) ∷ [] }

abbrev pub problem_record : ℕ → ℕ → Record
problem_record n m = record { form = Head Problem; numbers = n ∷ m ∷ [] }

abbrev pub sources_record : ℕ → Record
sources_record k = record { form = Head Sources; numbers = k ∷ [] }

abbrev pub pairs_record : ℕ → Record
pairs_record k = record { form = Head Pairs; numbers = k ∷ [] }

abbrev pub added_record : ℕ → Record
added_record k = record { form = Head Added; numbers = k ∷ [] }

abbrev pub records_of_question : Question → List Record
records_of_question absent = []
records_of_question (from_sources vertices) =
    sources_record (length vertices) ∷ map source_record vertices
records_of_question (of_pairs pairs) = pairs_record (length pairs) ∷ map pair_record pairs

abbrev pub records_of_added : Option (List ArcRec) → List Record
records_of_added None = []
records_of_added (Some arcs) = added_record (length arcs) ∷ map arc_record arcs

-- the lines of a job: the problem line, its arcs, the section of what is asked, and the added section
abbrev pub records_of : Content → List Record
records_of job =
    (problem_record job.n (length job.arcs) ∷ map arc_record job.arcs)
    ++ records_of_question job.question
    ++ records_of_added job.added

-- the records among what lines say
abbrev pub records_among : List (Option Record) → List Record
records_among said = filter_map (λ record_or_none. record_or_none) said

-- A text is a job's where each line says nothing or a record, and the records are those of the job.
-- Vertices count to 2^28 before the problem line.
unfoldable pub IsJobText : List ℕ → Content → Type 0
IsJobText text job =
    (said : List (Option Record))
    × (readings MAX_VERTICES (lines text) ≡ map (λ s. Ok s) said)
    × (records_among said ≡ records_of job)

-- both ends of an arc are vertices, and its weight is below 2^32
pub record IsArcWithin (n : ℕ) (arc : ArcRec) : Type 0 where
  pub tail : arc.tail < n
  pub head : arc.head < n
  pub weight : arc.weight < 2 ^ 32

-- both ends of a pair are vertices
abbrev pub IsPairWithin : ℕ → ℕ × ℕ → Type 0
IsPairWithin n pair = (pair.0 < n) × (pair.1 < n)

abbrev pub IsQuestionWithin : ℕ → Question → Type 0
IsQuestionWithin n absent = Unit {0}
IsQuestionWithin n (from_sources vertices) =
    (length vertices ≤ MAX_QUERIES)
    × All (λ v. v < n) vertices
IsQuestionWithin n (of_pairs pairs) =
    (length pairs ≤ MAX_QUERIES)
    × All (IsPairWithin n) pairs

abbrev pub IsAddedWithin : ℕ → Option (List ArcRec) → Type 0
IsAddedWithin n None = Unit {0}
IsAddedWithin n (Some arcs) = (length arcs ≤ MAX_ADDED) × All (IsArcWithin n) arcs

-- the limits of a job
pub record IsWithinLimits (job : Content) : Type 0 where
  pub vertices : job.n ≤ MAX_VERTICES
  pub arc_count : length job.arcs ≤ MAX_TEXT_ARCS
  pub arcs : All (IsArcWithin job.n) job.arcs
  pub question : IsQuestionWithin job.n job.question
  pub added : IsAddedWithin job.n job.added
