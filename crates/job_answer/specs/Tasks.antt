-- What each task of an answer gives: it is done by itself, before its turn or in it.
use Rattle.std.specs.Prelude.{ℕ, ◌+◌, ◌≤◌, true, List}
use Rattle.std.specs.Prelude.{drop, length, slice_index, take}
use Rattle.job_answer.specs.declared.output.blocks.BlockText.{BlockText}
use Rattle.job_answer.specs.declared.solving.source_tasks.SourceTasks.{SourceTasks}
use Rattle.job_answer.specs.declared.question.graphs.Graphs.{Graphs}
use Rattle.job_answer.specs.declared.output.walked_pairs.LinesText.{LinesText}
use Rattle.job_answer.specs.declared.output.walked_pairs.WalkTasks.{WalkTasks}
use Rattle.job_answer.specs.AnswerText.{AreBlocks, IsGrownPair}
use Rattle.job_answer.specs.Graphs.{growth_of}
use Rattle.job_answer.specs.InNetworks.{IsBlockIn}

-- ---- sources: a task for each gives its block

-- the text is the block of a source
abbrev pub IsSourceBlock : SourceTasks → ℕ → List ℕ → Type 0
IsSourceBlock of = IsBlockIn of.question.graphs.now of.question.lines

-- the text is the block of the source at a place
abbrev pub IsBlockText : SourceTasks → ℕ → BlockText → Type 0
IsBlockText of place text = IsSourceBlock of (slice_index of.sources.now place) text.bytes.items

-- ---- pairs with walks: a task for those that stand side by side and have one source gives their lines

-- the text has the lines of a pair with its walk, in the network and the one that it grows to
abbrev pub IsWalkedBlock : Graphs → ℕ × ℕ → List ℕ → Type 0
IsWalkedBlock graphs = IsGrownPair true graphs.network.n graphs.network.arcs (growth_of graphs.grown)

-- the text has the lines of some pairs from a place on
pub record IsLinesText (graphs : Graphs) (pairs : List (ℕ × ℕ)) (place : ℕ) (text : LinesText) : Type 0 where
  pub some : 1 ≤ text.count
  pub within : place + text.count ≤ length pairs
  pub lines : AreBlocks (IsWalkedBlock graphs) (take text.count (drop place pairs)) text.bytes.items

-- the text has the lines of the pairs from a place on
abbrev pub AreLines : WalkTasks → ℕ → LinesText → Type 0
AreLines of place text = IsLinesText of.queries.graphs.now of.queries.pairs.now place text
