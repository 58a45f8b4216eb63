use Rattle.std.proofs.Common.{List, ℕ, subst, sym}
use Rattle.std.proofs.lemmas.Result.{IfOk-weaker}
use Rattle.dimacs_text.specs.Jobs.{content_of, IsJobText, IsWithinLimits}
use Rattle.dimacs_text.specs.Reading.{HasReadText}
use Rattle.dimacs_text.proofs.Limits.{job_within}
use Rattle.dimacs_text.proofs.reader.JobReader.finish_explained.Goals as goal

pub returns-clause-within : goal.returns-clause-within
returns-clause-within c text r =
    IfOk-weaker c.finish.result (λ job. IsJobText text (content_of job)) (λ job. IsWithinLimits (content_of job))
    (λ job is. job_within text (content_of job) is)
    (c.finish.ensures.job text
    (subst (λ (last : List ℕ). HasReadText c.args.self.lines c.args.self.in_comment last text) (sym c.deref.ensures.value) r))
