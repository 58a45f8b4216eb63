-- The blocks of some queries and those of others, one after the other.
use Rattle.std.proofs.Common.{refl}
use Rattle.job_answer.specs.declared.question.asked.Answer.TheVariants.{Distances, Levels, Components}
use Rattle.job_answer.specs.declared.question.asked.Lines.TheVariants as lines
use Rattle.job_answer.specs.AnswerText.{IsGrownBlock, IsGrownPair, arcs_for, growth_for}
use Rattle.job_answer.specs.Parts.{AnswersOfPartsJoin}
use Rattle.job_answer.specs.Within.{IsGrownLines, IsGrownLinesPair}
use Rattle.job_answer.proofs.BlockLists.{blocks-append}

pub answers_of_parts_join : AnswersOfPartsJoin
answers_of_parts_join Distances (lines.Each walks) job other = (
  blocks-append (IsGrownBlock walks job.n (arcs_for Distances job.arcs) (growth_for Distances job)),
  blocks-append (IsGrownPair walks job.n (arcs_for Distances job.arcs) (growth_for Distances job)),
)
answers_of_parts_join Distances (lines.Within walks bound) job other = (
  blocks-append
      (IsGrownLines (lines.Within walks bound) job.n (arcs_for Distances job.arcs) (growth_for Distances job)),
  λ first second text more one two. absurd one,
)
answers_of_parts_join Levels (lines.Each walks) job other = (
  blocks-append (IsGrownBlock walks job.n (arcs_for Levels job.arcs) (growth_for Levels job)),
  blocks-append (IsGrownPair walks job.n (arcs_for Levels job.arcs) (growth_for Levels job)),
)
answers_of_parts_join Levels (lines.Within walks bound) job other = (
  blocks-append (IsGrownLines (lines.Within walks bound) job.n (arcs_for Levels job.arcs) (growth_for Levels job)),
  λ first second text more one two. absurd one,
)
answers_of_parts_join Components by job other = absurd (other refl)
answers_of_parts_join Distances by job other = (
  blocks-append (IsGrownLines by job.n (arcs_for Distances job.arcs) (growth_for Distances job)),
  blocks-append (IsGrownLinesPair by job.n (arcs_for Distances job.arcs) (growth_for Distances job)),
)
answers_of_parts_join Levels by job other = (
  blocks-append (IsGrownLines by job.n (arcs_for Levels job.arcs) (growth_for Levels job)),
  blocks-append (IsGrownLinesPair by job.n (arcs_for Levels job.arcs) (growth_for Levels job)),
)
