-- What is kept of the lines of a request, as the records that were read. Not part of what a caller is promised.
use Rattle.std.specs.Prelude.{◌≡◌, ◌⊎◌, ℕ, ◌+◌, Bool, true, false, nat_eq, List, length, map}
use Rattle.std.specs.Prelude.{Option, Some, Ok, Err}
use Rattle.dimacs_text.specs.declared.form.Section.TheVariants.{Problem, Sources, Pairs, Added}
use Rattle.dimacs_text.specs.declared.stage.Stage.{Stage}
use Rattle.dimacs_text.specs.declared.stage.Stage.TheVariants.{Start, Within}
use Rattle.dimacs_text.specs.declared.fault.TextFault.{TextFault}
use Rattle.dimacs_text.specs.declared.fault.TextFault.TheVariants.{Memory, Line}
use Rattle.dimacs_text.specs.Forms.{Record}
use Rattle.dimacs_text.specs.Faults.{tokens_among}
use Rattle.dimacs_text.specs.Jobs.{records_among}
use Rattle.dimacs_text.specs.AfterGraph.{after_graph, reading_after}
use Rattle.dimacs_text.specs.reader.Machine.{run, misfit_at}
use Rattle.dimacs_text.specs.reader.Drafts.{Progress, Fits, after_line}

-- the problem line was read
abbrev pub is_begun_at : Stage → Bool
is_begun_at Start = false
is_begun_at (Within section j) = true

-- no record is missing there
abbrev pub is_complete_at : Stage → Bool
is_complete_at Start = false
is_complete_at (Within section j) = nat_eq j 0

-- a section after the graph has begun
abbrev pub is_section_at : Stage → Bool
is_section_at Start = false
is_section_at (Within Problem j) = false
is_section_at (Within Sources j) = true
is_section_at (Within Pairs j) = true
is_section_at (Within Added j) = true

-- a section after the graph is complete there
abbrev pub is_request_at : Stage → Bool
is_request_at Start = false
is_request_at (Within Problem j) = false
is_request_at (Within Sources j) = nat_eq j 0
is_request_at (Within Pairs j) = nat_eq j 0
is_request_at (Within Added j) = nat_eq j 0

-- the line, which follows a graph, says what leads from old to new
pub record ReadsAfter (old new : Progress) (line : List ℕ) : Type 0 where
  pub said : Option Record
  pub reads : reading_after old.vertices line ≡ Ok said
  pub fits : Fits old.stage said
  pub after : new ≡ after_line old said

-- a line that is wrong after what was read
abbrev pub IsWrongAfter : Progress → List ℕ → ℕ → TextFault → Type 0
IsWrongAfter progress text number Memory = Unit {0}
IsWrongAfter progress text number (Line line kind) =
    (line ≡ number)
    × ((reading_after progress.vertices text ≡ Err kind)
    ⊎ ((r : Record) × (reading_after progress.vertices text ≡ Ok (Some r))
    × (misfit_at progress.stage r.form ≡ Some kind)))

-- these lines after a graph of n vertices lead there
pub record HasSaid (n : ℕ) (ls : List (List ℕ)) (progress : Progress) : Type 0 where
  pub said : List (Option Record)
  pub split : after_graph n ls ≡ map (λ s. Ok s) said
  pub records : records_among said ≡ progress.records
  pub stage : run Start (tokens_among said) ≡ Some progress.stage
  pub begun : is_begun_at progress.stage ≡ true
  pub vertices : progress.vertices ≡ n
  pub count : length said ≡ length ls + 1
