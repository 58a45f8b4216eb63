-- What a reader of jobs has read, of a text that came in pieces.
use Rattle.std.specs.Prelude.{◌≡◌, ℕ, ◌+◌, ◌^◌, ◌≤◌, Bool, true, false, List, [], ◌∷◌, ◌++◌, length, Option, Some, None, All}
use Rattle.dimacs_text.specs.declared.arc_runs.ArcRuns.{ArcRuns}
use Rattle.dimacs_text.specs.declared.arc_runs.Parts.{Parts}
use Rattle.dimacs_text.specs.declared.arc_runs.ReadAhead.{ReadAhead}
use Rattle.dimacs_text.specs.declared.fault.LineKind.{LineKind}
use Rattle.dimacs_text.specs.declared.draft.Draft.{Draft}
use Rattle.dimacs_text.specs.declared.reader.LineReader.{LineReader}
use Rattle.dimacs_text.specs.declared.reader.JobReader.{JobReader}
use Rattle.dimacs_text.specs.declared.fault.TextFault.TheVariants.{Line}
use Rattle.dimacs_text.specs.Explaining.{Explains}
use Rattle.dimacs_text.specs.Faults.{IsFirstFault}
use Rattle.dimacs_text.specs.Lines.{begins_comment}
use Rattle.dimacs_text.specs.reader.FastArc.{HasNoFeed}
use Rattle.dimacs_text.specs.reader.Drafts.{IsReadTo, progress_of}
use Rattle.dimacs_text.specs.reader.ArcRuns.{IsArcRun}

-- the whole lines of the text were read; or one of them is the first fault, which is explained, whatever comes after
abbrev pub HasReadBy : Option LineKind → Draft → ℕ → List ℕ → Type 0
HasReadBy None draft line text =
    (line ≤ length text + 1)
    × ((more : List ℕ) → IsReadTo (text ++ more) more line (progress_of draft))
HasReadBy (Some kind) draft line text =
    (more : List ℕ)
    → IsFirstFault (text ++ more) line kind
    × Explains (text ++ more) (Line line kind) draft.explanation

abbrev pub HasReadLines : LineReader → List ℕ → Type 0
HasReadLines reader text = HasReadBy reader.fault reader.draft reader.line text

-- the bytes are a comment without its line feed
pub record IsOpenComment (bytes : List ℕ) : Type 0 where
  pub begins : begins_comment bytes ≡ true
  pub no_feed : HasNoFeed bytes 0 (length bytes)

-- of the text the bytes of the last, unfinished line are kept; those of a comment are let go, and after a fault nothing
-- need be kept
abbrev pub Keeps : Option LineKind → Bool → List ℕ → List ℕ → List ℕ → Type 0
Keeps None false whole kept text = (text ≡ whole ++ kept) × HasNoFeed kept 0 (length kept)
Keeps None true whole kept text =
    (kept ≡ []) × ((comment : List ℕ) × (text ≡ whole ++ comment) × IsOpenComment comment)
Keeps (Some kind) in_comment whole kept text = text ≡ whole

-- the text, of 2^36 bytes at most, was read: its whole lines, and of an unfinished one the bytes that are kept
pub record HasReadText (reader : LineReader) (in_comment : Bool) (kept text : List ℕ) : Type 0 where
  pub short : length text ≤ 2 ^ 36
  pub whole : List ℕ
  pub lines : HasReadLines reader whole
  pub keeps : Keeps reader.fault in_comment whole kept text

-- this is the text that was read so far
abbrev pub HasRead : JobReader → List ℕ → Type 0
HasRead reader text = HasReadText reader.lines reader.in_comment reader.unfinished.items text

-- the bytes end one line: the last of them is a line feed, and no other
pub record IsLineEnd (bytes : List ℕ) : Type 0 where
  pub rest : List ℕ
  pub joined : bytes ≡ rest ++ 10 ∷ []
  pub no_feed : HasNoFeed rest 0 (length rest)

-- new has read what old had, and then the bytes, if they are not too many
abbrev pub Reads : JobReader → JobReader → List ℕ → Type 0
Reads old new bytes =
    (text : List ℕ) → HasRead old text → length text + length bytes ≤ 2 ^ 36 → HasRead new (text ++ bytes)

-- a thread read these runs of arcs in the bytes
abbrev pub AreRunsOf : List ℕ → ArcRuns → Type 0
AreRunsOf bytes list = All (IsArcRun bytes) list.runs.items

-- how many runs of arcs a thread has room for
abbrev pub run_count : ArcRuns → ℕ
run_count list = length list.runs.items

-- how many parts of a piece a thread reads at most
abbrev pub most_parts : Parts → ℕ
most_parts parts = parts.most

-- threads read these runs of arcs in the bytes
pub record IsReadAhead (bytes : List ℕ) (ahead : ReadAhead) : Type 0 where
  pub one : AreRunsOf bytes ahead.one
  pub another : AreRunsOf bytes ahead.another
  pub others : All (AreRunsOf bytes) ahead.others.items
