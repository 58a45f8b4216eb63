use Rattle.std.proofs.Common.{◌≡◌, ◌++◌, refl, rules}
use Rattle.dimacs_text.specs.Jobs.{question_of}
use Rattle.job_answer.proofs.Facts.{appends-then}
use Rattle.session_answer.specs.Changes.{change_seen, change_text, changed_by}
use Rattle.session_answer.specs.Terms.{terms_of}
use Rattle.session_answer.specs.Replies.{IsAnswerIn}
use Rattle.session_answer.proofs.CutLemmas.{first_cut, on_err, only_cut, second_cut}
use Rattle.session_answer.proofs.ReplyLemmas.{reply_written}
use Rattle.session_answer.proofs.session.Session.reply_changed.Goals as goal

pub returns-in_err-change-clause-cut : goal.returns-in_err-change-clause-cut
returns-in_err-change-clause-cut g c graph holds =
    let line = change_text (change_seen c.args.change.now) graph.arcs in
    on_err
    (first_cut (λ text. text ≡ line) _ _ _ (λ text is. (line, is.answer, refl, is.written))
    (only_cut line line _ _ refl (c.in_err-change.ensures.cut graph holds)))
    c.from_residual.result

pub returns-in_err-answer-clause-cut : goal.returns-in_err-answer-clause-cut
returns-in_err-answer-clause-cut g c graph holds =
    let terms = terms_of c.args.context.now.asked.now in
    let question = question_of c.args.query.now.ask in
    let change = change_seen c.args.change.now in
    let after = changed_by graph change in
    on_err
    (second_cut (IsAnswerIn terms after question c.args.query.now.line) _ (change_text change graph.arcs) _ _ _
    (λ text is. (is.answer, is.is_answer, is.written))
    (reply_written _ _ _ c.in-Written.is (c.in_ok-change.ensures.reply graph holds))
    (c.in_err-answer.ensures.cut after (reply_written _ _ _ c.in-Written.is (c.in_ok-change.ensures.graph graph holds))))
    c.from_residual-in_err-answer.result

pub returns-clause-reply : goal.returns-clause-reply
returns-clause-reply g c graph holds =
    let change = change_seen c.args.change.now in
    let line = change_text change graph.arcs in
    let after = changed_by graph change in
    let written =
    c.in_ok-answer.ensures.answered after (reply_written _ _ _ c.in-Written.is (c.in_ok-change.ensures.graph graph holds)) in
    record {
      text = line ++ written.text;
      is_text = record { answer = written.text; is_answer = written.is_text; written = refl };
      appended =
          appends-then _ _ _ line written.text
          (reply_written _ _ _ c.in-Written.is (c.in_ok-change.ensures.reply graph holds)) written.appended;
    }

pub returns-clause-graph : goal.returns-clause-graph
returns-clause-graph g c = search rules
