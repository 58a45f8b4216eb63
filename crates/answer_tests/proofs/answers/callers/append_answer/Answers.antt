use Rattle.std.proofs.Common.{◌≡◌, ℕ, List, ◌++◌, Some, append_assoc, inl, inr, ap, subst, sym, ◌∙◌}
use Rattle.std.proofs.lemmas.List.{append-nil}
use Rattle.std.proofs.lemmas.Result.{IfErr-weaker}
use Rattle.dimacs_text.specs.Jobs.{Content, IsJobText}
use Rattle.dimacs_text.specs.Laws.{ATextHasOneJob}
use Rattle.job_answer.specs.declared.question.asked.Answer.{Answer}
use Rattle.job_answer.specs.declared.question.asked.Lines.{Lines}
use Rattle.job_answer.specs.declared.fault.Fault.{Fault}
use Rattle.job_answer.specs.declared.fault.Fault.TheVariants.{Read, TooLong, Text, NoAsk, NoSources, Memory, Spawn, Write}
use Rattle.job_answer.specs.Bytes.{IsPrefix}
use Rattle.job_answer.specs.Outcome.{IsAnswerOf, IsBegunBy, row_of}
use Rattle.job_answer.specs.Existence.{AskedJobsHaveAnswersByLines}
use Rattle.job_answer.specs.Within.{IsAnswerTextBy}
use Rattle.answer_tests.proofs.answers.callers.append_answer.Goals as goal

module _ (limit : ℕ) (kind : Answer) (by : Lines) (text rest old new : List ℕ) where
  abbrev Begun : Type 0
  Begun = IsBegunBy limit kind by (Some text) (Some rest) (Some old) (Some new)

  job_text : (run : Begun) → IsJobText text run.job
  job_text run =
      let taken = run.request.whole in
      let whole : text ≡ run.request.text =
      taken.taken ∙ ap (λ (xs : List ℕ). run.request.text ++ xs) taken.ended ∙ append-nil run.request.text in
      subst (λ (xs : List ℕ). IsJobText xs run.job) (sym whole) run.request.is_job

  -- of an answer of the job a prefix was appended
  prefix-of : (run : Begun) (reply : List ℕ) → IsAnswerTextBy kind by run.job reply → IsPrefix new (old ++ reply)
  prefix-of run reply answered =
      let prefix = run.reply.cut.is_prefix reply answered in (
        prefix.0,
        ap (λ (xs : List ℕ). old ++ xs) prefix.1
            ∙ sym (append_assoc old run.reply.cut.given prefix.0)
            ∙ ap (λ (xs : List ℕ). xs ++ prefix.0) (sym run.reply.cut.appended),
      )

  -- and there is such an answer
  has_begun : AskedJobsHaveAnswersByLines → Begun
      → (reply : List ℕ) × IsAnswerOf kind by text reply × (left : List ℕ) × (old ++ reply ≡ new ++ left)
  has_begun law run =
      let found = law kind by run.job run.request.limits run.reply.asked run.reply.has_sources in
      let prefix = prefix-of run found.0 found.1 in
      (found.0, record { job = run.job; is_job = job_text run; is_answer = found.1 }, prefix.0, prefix.1)

  module _ (law : ATextHasOneJob) (job : Content) (reply : List ℕ) (is_job : IsJobText text job)
      (answered : IsAnswerTextBy kind by job reply) where
    kept : new ≡ old → IsPrefix new (old ++ reply)
    kept same = (reply, ap (λ (xs : List ℕ). xs ++ reply) (sym same))

    begun : Begun → IsPrefix new (old ++ reply)
    begun run =
        let same = law text job run.job is_job (job_text run) in
        prefix-of run reply (subst (λ (j : Content). IsAnswerTextBy kind by j reply) same answered)

    at-fault : (fault : Fault) → (row_of limit kind by (Some text) (Some rest) (Some old) (Some new) fault).written
        → IsPrefix new (old ++ reply)
    at-fault Read same = kept same
    at-fault TooLong same = kept same
    at-fault (Text line what) same = kept same
    at-fault NoAsk same = kept same
    at-fault NoSources same = kept same
    at-fault Memory written = elim written [ inl same ↦ kept same | inr run ↦ begun run ]
    at-fault Spawn run = begun run
    at-fault Write run = begun run

pub returns-clause-begun : goal.returns-clause-begun
returns-clause-begun g c failed =
    let asked = c.args.asked.now in
    has_begun asked.limit asked.answer asked.lines c.args.text.now _ c.args.bytes.now.items c.answer.new.writer.items
    c.asked_jobs_have_answers_by_lines.ensures (rw failed at c.answer.ensures.written)

pub returns-clause-prefix : goal.returns-clause-prefix
returns-clause-prefix g c =
    IfErr-weaker c.answer.result _ _
    (λ fault written job reply is_job answered.
    at-fault c.args.asked.now.limit c.args.asked.now.answer c.args.asked.now.lines c.args.text.now _
    c.args.bytes.now.items c.answer.new.writer.items c.a_text_has_one_job.ensures job reply is_job answered fault
    written)
    c.answer.ensures.written
