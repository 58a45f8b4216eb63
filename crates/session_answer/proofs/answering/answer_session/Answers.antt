use Rattle.std.proofs.Common.{[]}
use Rattle.std.proofs.KnownBytes.{Consumes-nil}
use Rattle.session_answer.specs.Terms.{terms_of}
use Rattle.session_answer.proofs.CutLemmas.{on_err}
use Rattle.session_answer.proofs.CutSessions.{nothing_cut}
use Rattle.session_answer.proofs.answering.answer_session.Goals as goal

pub returns-in_err-buffer-clause-cut : goal.returns-in_err-buffer-clause-cut
returns-in_err-buffer-clause-cut g c =
    on_err
    (nothing_cut c.args.asked.now.limit (terms_of c.args.asked.now) _ _ _
    (record { bytes = []; taken = Consumes-nil _ }))
    c.from_residual.result

pub returns-clause-answered : goal.returns-clause-answered
returns-clause-answered g c =
    rw (c.with_saving-asked.ensures.answer, c.with_saving-asked.ensures.lines, c.with_saving-asked.ensures.limit) at c.answer_by.ensures.answered

pub returns-clause-cut : goal.returns-clause-cut
returns-clause-cut g c =
    rw (c.with_saving-asked.ensures.answer, c.with_saving-asked.ensures.lines, c.with_saving-asked.ensures.limit) at c.answer_by.ensures.cut

pub returns-clause-says : goal.returns-clause-says
returns-clause-says g c = rw c.with_saving-asked.ensures.limit at c.answer_by.ensures.says
