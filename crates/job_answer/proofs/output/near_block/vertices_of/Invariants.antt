use Rattle.std.proofs.Common.{◌≡◌, take}
use Rattle.job_answer.specs.NearBlock.{vertices_of}
use Rattle.job_answer.proofs.output.near_block.vertices_of.Given as goal

abbrev pub invariant-loop-entry : goal.invariant-loop-entry
invariant-loop-entry l = l.vertices.items ≡ vertices_of (take l.entry-index l.found)
