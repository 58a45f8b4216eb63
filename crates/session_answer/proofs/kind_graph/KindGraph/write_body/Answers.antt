use Rattle.std.proofs.Common.{◌≡◌, ◌∙◌, false, refl, subst, sym}
use Rattle.std.proofs.lemmas.Result.{on_err_weaker, on_ok_weaker}
use Rattle.dimacs_text.specs.Jobs.{question_of}
use Rattle.job_answer.specs.Outcome.{is_unasked}
use Rattle.job_answer.specs.Within.{IsAnswerTextBy}
use Rattle.session_answer.specs.Replies.{IsBodyIf, job_of}
use Rattle.session_answer.specs.Terms.{lines_for, terms_of}
use Rattle.session_answer.proofs.ReplyLemmas.{graph_rows}
use Rattle.session_answer.proofs.kind_graph.KindGraph.write_body.Goals as goal

pub returns-clause-body : goal.returns-clause-body
returns-clause-body g c graph holds =
    let terms = terms_of c.args.context.now.asked.now in
    let question = question_of c.args.ask.now in
    let job = job_of graph question in
    let by = lines_for terms.lines question in
    let asked : is_unasked terms.kind question ≡ false = sym c.is_unasked.ensures ∙ c.if-is_unasked.false in
    on_ok_weaker c.answer_question.result
    (λ written. record {
      text = written.text;
      is_text =
          subst (λ unasked. IsBodyIf unasked terms.kind by job written.text) (sym asked)
          (subst (λ lines. IsAnswerTextBy terms.kind lines job written.text) c.lines_for.ensures.lines written.is_text);
      appended = written.appended;
    })
    (c.answer_question.ensures.reply job
    (record { graphs = graph_rows terms.kind graph c.args.self.now c.requires.graphs.is holds; asks = refl }))

pub returns-clause-cut : goal.returns-clause-cut
returns-clause-cut g c graph holds =
    let terms = terms_of c.args.context.now.asked.now in
    let question = question_of c.args.ask.now in
    let job = job_of graph question in
    let by = lines_for terms.lines question in
    let asked : is_unasked terms.kind question ≡ false = sym c.is_unasked.ensures ∙ c.if-is_unasked.false in
    on_err_weaker c.answer_question.result
    (λ cut. record {
      given = cut.given;
      is_prefix = λ text is.
          cut.is_prefix text
          (subst (λ lines. IsAnswerTextBy terms.kind lines job text) (sym c.lines_for.ensures.lines)
          (subst (λ unasked. IsBodyIf unasked terms.kind by job text) asked is));
      appended = cut.appended;
    })
    (c.answer_question.ensures.prefix job
    (record { graphs = graph_rows terms.kind graph c.args.self.now c.requires.graphs.is holds; asks = refl }))
