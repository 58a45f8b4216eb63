-- The texts of an answer by the networks in which its costs are least.
use Rattle.std.specs.Prelude.{ℕ, List}
use Rattle.dimacs_text.specs.Jobs.{Question}
use Rattle.least_costs.specs.declared.start.Start.{Start}
use Rattle.job_answer.specs.declared.question.asked.Answer.{Answer}
use Rattle.job_answer.specs.declared.question.asked.Lines.{Lines}
use Rattle.job_answer.specs.declared.question.graphs.Graphs.{Graphs}
use Rattle.job_answer.specs.Graphs.{growth_of}
use Rattle.job_answer.specs.Solves.{IsGrownStart}
use Rattle.job_answer.specs.Within.{AreLinesBlocks, AreLinesPairs, IsGrownLines, IsTextBy}

-- the text of an answer kind, by the lines that blocks of sources have
abbrev pub IsTextIn : Graphs → Answer → Lines → Question → List ℕ → Type 0
IsTextIn graphs kind lines = IsTextBy kind lines graphs.network.n graphs.network.arcs (growth_of graphs.grown)

-- the blocks of the sources, in their order
abbrev pub AreBlocksIn : Graphs → Lines → List ℕ → List ℕ → Type 0
AreBlocksIn graphs lines = AreLinesBlocks lines graphs.network.n graphs.network.arcs (growth_of graphs.grown)

-- the block of one source
abbrev pub IsBlockIn : Graphs → Lines → ℕ → List ℕ → Type 0
IsBlockIn graphs lines = IsGrownLines lines graphs.network.n graphs.network.arcs (growth_of graphs.grown)

-- the block of a start
abbrev pub IsStartIn : Graphs → Lines → Start → List ℕ → Type 0
IsStartIn graphs lines = IsGrownStart lines graphs.network.n graphs.network.arcs (growth_of graphs.grown)

-- the texts of the pairs, in their order
abbrev pub ArePairsIn : Graphs → Lines → List (ℕ × ℕ) → List ℕ → Type 0
ArePairsIn graphs lines = AreLinesPairs lines graphs.network.n graphs.network.arcs (growth_of graphs.grown)
