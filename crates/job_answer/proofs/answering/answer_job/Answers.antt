use Rattle.std.proofs.Common.{◌≡◌, ◌∙◌, false, refl, sym}
use Rattle.std.proofs.lemmas.Result.{err_from_is_err_and}
use Rattle.dimacs_text.specs.Jobs.{IsQuestionWithin, content_of, question_of}
use Rattle.job_answer.specs.Graphs.{AreGraphs}
use Rattle.job_answer.specs.Outcome.{is_unasked}
use Rattle.job_answer.specs.Within.{HasNoSources, IsAnswerTextBy}
use Rattle.job_answer.proofs.Sinks.{writes-nothing}
use Rattle.job_answer.proofs.Replies.{asked-if, reply-says, untold-if}
use Rattle.job_answer.proofs.answering.answer_job.Goals as goal

pub returns-in_err-graphs-clause-says : goal.returns-in_err-graphs-clause-says
returns-in_err-graphs-clause-says g c =
    let kind = c.args.context.now.asked.now.answer in
    let job = content_of c.args.job in
    let p = err_from_is_err_and c.from_residual.result c.from_residual.ensures.1 in
    rw (p.1, p.2)
    (record {
      asked = asked-if kind job (sym c.is_unasked.ensures ∙ c.if-is_unasked.false);
      has_sources = untold-if _ _ c.has_no_sources.ensures c.if-has_no_sources.false;
      cut = writes-nothing (IsAnswerTextBy kind c.args.context.now.asked.now.lines job) _;
    })

pub answer_question-answered-requires-after_bounds : goal.answer_question-answered-requires-after_bounds
answer_question-answered-requires-after_bounds g c =
    let made = c.in_ok-graphs.ensures.graphs in
    let asked = c.args.context.now.asked.now in
    let question = question_of c.args.job.ask in
    let are : AreGraphs c.prepare.new.graphs = rw c.prepare.ensures made.are in
    let within : IsQuestionWithin c.prepare.new.graphs.network.n question =
    rw (c.prepare.ensures, made.vertices) c.requires.limits.question in
    let some : is_unasked asked.answer question ≡ false = sym c.is_unasked.ensures ∙ c.if-is_unasked.false in
    let sources : ¬ (HasNoSources asked.answer asked.lines question) =
    untold-if _ _ c.has_no_sources.ensures c.if-has_no_sources.false in
    search (are, within, some, sources)

pub returns-clause-reply : goal.returns-clause-reply
returns-clause-reply g c =
    c.answer_question-answered.ensures.reply (content_of c.args.job)
    (record { graphs = rw c.prepare.ensures c.in_ok-graphs.ensures.graphs; asks = refl })

pub returns-clause-says : goal.returns-clause-says
returns-clause-says g c =
    let kind = c.args.context.now.asked.now.answer in
    let job = content_of c.args.job in
    reply-says kind c.args.context.now.asked.now.lines job _ _ c.answer_question-answered.result
    (asked-if kind job (sym c.is_unasked.ensures ∙ c.if-is_unasked.false))
    (untold-if _ _ c.has_no_sources.ensures c.if-has_no_sources.false)
    c.answer_question-answered.ensures.kinds
    (c.answer_question-answered.ensures.prefix job
    (record { graphs = rw c.prepare.ensures c.in_ok-graphs.ensures.graphs; asks = refl }))
