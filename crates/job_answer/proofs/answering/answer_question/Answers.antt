use Rattle.std.proofs.lemmas.Result.{on_err_weaker, on_ok_weaker}
use Rattle.dimacs_text.specs.Jobs.{question_of}
use Rattle.job_answer.proofs.Replies.{text_answered, text_begun}
use Rattle.job_answer.proofs.answering.answer_question.Goals as goal

pub returns-clause-reply : goal.returns-clause-reply
returns-clause-reply g c job of =
    let question = c.args.question.now in
    on_ok_weaker c.write_text.result
    (λ written. record {
      text = written.text;
      is_text =
          (text_answered c.least_labels_follow_the_arcs.ensures c.hops_and_parents_follow_the_arcs.ensures
          c.args.context.now.asked.now.answer question.lines job question.graphs.now (question_of question.ask.now)
          of.graphs of.asks written.text).0 written.is_text;
      appended = written.appended;
    })
    (rw c.asked_for-asked.ensures.answer at c.write_text.ensures.text)

pub returns-clause-prefix : goal.returns-clause-prefix
returns-clause-prefix g c job of =
    let question = c.args.question.now in
    on_err_weaker c.write_text.result
    (text_begun c.least_labels_follow_the_arcs.ensures c.hops_and_parents_follow_the_arcs.ensures
    c.args.context.now.asked.now.answer question.lines job question.graphs.now (question_of question.ask.now)
    of.graphs of.asks _ _)
    (rw c.asked_for-asked.ensures.answer at c.write_text.ensures.prefix)
