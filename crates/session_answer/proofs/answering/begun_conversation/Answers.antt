use Rattle.std.proofs.Common.{[]}
use Rattle.session_answer.specs.Terms.{terms_of}
use Rattle.session_answer.proofs.CutLemmas.{on_err}
use Rattle.session_answer.proofs.answering.begun_conversation.Goals as goal

pub returns-in_err-take-clause-cut : goal.returns-in_err-take-clause-cut
returns-in_err-take-clause-cut g c =
    λ graph holds.
    let written = g.W.Write.contents c.args.writer.now in
    on_err
    (c.in_err-take.ensures.cut graph c.args.line [] written
    (c.open_conversation-conversation.ensures.heard (terms_of c.args.context.now.asked.now) graph written holds))
    c.from_residual.result

pub returns-clause-heard : goal.returns-clause-heard
returns-clause-heard g c =
    λ graph holds.
    let written = g.W.Write.contents c.args.writer.now in
    c.in_ok-take.ensures.heard graph c.args.line [] written
    (c.open_conversation-conversation.ensures.heard (terms_of c.args.context.now.asked.now) graph written holds)
