use Rattle.std.proofs.Common.{rules, subst}
use Rattle.dimacs_text.specs.Jobs.{question_of}
use Rattle.job_answer.specs.Bytes.{GivesPrefix}
use Rattle.session_answer.specs.Terms.{terms_of}
use Rattle.session_answer.specs.Replies.{IsAnswerIn}
use Rattle.session_answer.proofs.CutLemmas.{on_err, one_answer, text_cut}
use Rattle.session_answer.proofs.kind_graph.KindGraph.reply_asked.Goals as goal

pub returns-in_err-write_whole-clause-cut : goal.returns-in_err-write_whole-clause-cut
returns-in_err-write_whole-clause-cut g c graph holds =
    let terms = terms_of c.args.context.now.asked.now in
    let question = question_of c.args.query.now.ask in
    on_err
    (text_cut (IsAnswerIn terms graph question c.args.query.now.line)
    (one_answer c.answer_texts_by_lines_are_unique.ensures terms graph question c.args.query.now.line) c.in-Ok.text.items _ _
    (c.in-Ok.ensures.text graph holds)
    (subst
    (λ bytes. GivesPrefix (g.W.Write.contents c.args.writer.now) (g.W.Write.contents c.write_whole.new.writer) bytes)
    c.deref.ensures.value c.in_err-write_whole.ensures.prefix))
    c.from_residual-in_err-write_whole.result

pub returns-in-Err : goal.returns-in-Err
returns-in-Err g c = search rules
