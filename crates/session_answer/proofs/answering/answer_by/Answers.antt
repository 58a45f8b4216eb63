use Rattle.std.proofs.Common.{take, drop, ◌-◌}
use Rattle.dimacs_text.specs.Jobs.{content_of}
use Rattle.std.proofs.lemmas.Result.{IfErr-weaker, err_from_is_err_and, on_err_weaker}
use Rattle.session_answer.specs.Terms.{terms_of}
use Rattle.session_answer.proofs.CutLemmas.{on_err}
use Rattle.session_answer.proofs.CutSessions.{first_heard_cut, greeting_cut, nothing_cut, session_cut}
use Rattle.session_answer.proofs.EndLemmas.{after_graph_ends, writing_ends}
use Rattle.session_answer.proofs.WholeLemmas.{session_ended, session_whole}
use Rattle.session_answer.proofs.answering.answer_by.Goals as goal

pub returns-then-has_ended-clause-answered : goal.returns-then-has_ended-clause-answered
returns-then-has_ended-clause-answered g c =
    let asked = c.args.context.now.asked.now in
    let terms = terms_of asked in
    let initial = c.in_ok-initial.initial in
    session_ended asked.limit terms initial c.saturating_sub-last.result c.read_initial_graph.new.buffer
    (g.R.Read.remaining c.args.reader.now) (g.R.Read.remaining c.read_initial_graph.new.reader)
    (g.W.Write.contents c.args.writer.now) (g.W.Write.contents c.greeted_session.new.writer) c.in_ok-initial.ensures.initial
    c.if-has_ended.true c.saturating_sub-last.ensures c.in_ok-session.ensures.answered

pub returns-clause-answered : goal.returns-clause-answered
returns-clause-answered g c =
    let asked = c.args.context.now.asked.now in
    let terms = terms_of asked in
    let initial = c.in_ok-initial.initial in
    let written = g.W.Write.contents c.greeted_session.new.writer in
    session_whole asked.limit terms initial c.saturating_sub-last.result c.read_initial_graph.new.buffer
    (g.R.Read.remaining c.args.reader.now) (g.R.Read.remaining c.read_initial_graph.new.reader)
    (g.R.Read.remaining c.converse.new.reader) (g.W.Write.contents c.args.writer.now) written
    (g.W.Write.contents c.converse.new.writer) c.converse.result c.in_ok-initial.ensures.initial c.if-has_ended.false
    c.saturating_sub-last.ensures c.in_ok-session.ensures.answered
    (c.converse.ensures.conversed (content_of initial.graph) initial.line (take (initial.end - initial.at) (drop initial.at c.read_initial_graph.new.buffer))
    written
    (c.in_ok-conversation.ensures.heard (content_of initial.graph) c.in_ok-session.ensures.holds))

pub returns-in_err-initial-clause-cut : goal.returns-in_err-initial-clause-cut
returns-in_err-initial-clause-cut g c =
    let asked = c.args.context.now.asked.now in
    let terms = terms_of asked in
    on_err
    (nothing_cut asked.limit terms (g.R.Read.remaining c.args.reader.now)
    (g.R.Read.remaining c.read_initial_graph.new.reader) (g.W.Write.contents c.args.writer.now) c.in_err-initial.ensures.cut)
    c.from_residual.result

pub returns-in_err-session-clause-cut : goal.returns-in_err-session-clause-cut
returns-in_err-session-clause-cut g c =
    let asked = c.args.context.now.asked.now in
    let terms = terms_of asked in
    let initial = c.in_ok-initial.initial in
    on_err
    (greeting_cut asked.limit terms initial c.saturating_sub-last.result c.read_initial_graph.new.buffer
    (g.R.Read.remaining c.args.reader.now) (g.R.Read.remaining c.read_initial_graph.new.reader)
    (g.W.Write.contents c.args.writer.now) (g.W.Write.contents c.greeted_session.new.writer) c.in_ok-initial.ensures.initial
    c.saturating_sub-last.ensures c.in_err-session.ensures.cut)
    c.from_residual-in_err-session.result

pub returns-in_err-conversation-clause-cut : goal.returns-in_err-conversation-clause-cut
returns-in_err-conversation-clause-cut g c =
    let asked = c.args.context.now.asked.now in
    let terms = terms_of asked in
    let initial = c.in_ok-initial.initial in
    let graph = content_of initial.graph in
    let heard = take (initial.end - initial.at) (drop initial.at c.read_initial_graph.new.buffer) in
    let written = g.W.Write.contents c.greeted_session.new.writer in
    let taken = g.R.Read.remaining c.read_initial_graph.new.reader in
    on_err
    (session_cut c.answer_texts_by_lines_are_unique.ensures asked.limit terms
    initial c.saturating_sub-last.result c.read_initial_graph.new.buffer (g.R.Read.remaining c.args.reader.now) taken taken
    (g.W.Write.contents c.args.writer.now) written (g.W.Write.contents c.begun_conversation.new.writer) c.in_ok-initial.ensures.initial
    c.if-has_ended.false c.saturating_sub-last.ensures c.in_ok-session.ensures.answered
    (first_heard_cut terms graph initial.line heard taken written
    (g.W.Write.contents c.begun_conversation.new.writer)
    (c.in_err-conversation.ensures.cut graph c.in_ok-session.ensures.holds)))
    c.from_residual-in_err-conversation.result

pub returns-clause-cut : goal.returns-clause-cut
returns-clause-cut g c =
    let asked = c.args.context.now.asked.now in
    let terms = terms_of asked in
    let initial = c.in_ok-initial.initial in
    let graph = content_of initial.graph in
    let heard = take (initial.end - initial.at) (drop initial.at c.read_initial_graph.new.buffer) in
    let written = g.W.Write.contents c.greeted_session.new.writer in
    on_err_weaker c.converse.result
    (λ cut.
    session_cut c.answer_texts_by_lines_are_unique.ensures asked.limit terms
    initial c.saturating_sub-last.result c.read_initial_graph.new.buffer (g.R.Read.remaining c.args.reader.now) (g.R.Read.remaining c.read_initial_graph.new.reader)
    (g.R.Read.remaining c.converse.new.reader) (g.W.Write.contents c.args.writer.now) written
    (g.W.Write.contents c.converse.new.writer) c.in_ok-initial.ensures.initial c.if-has_ended.false
    c.saturating_sub-last.ensures c.in_ok-session.ensures.answered cut)
    (c.converse.ensures.cut graph initial.line heard written
    (c.in_ok-conversation.ensures.heard (content_of initial.graph) c.in_ok-session.ensures.holds))

pub returns-in_err-initial-clause-says : goal.returns-in_err-initial-clause-says
returns-in_err-initial-clause-says g c =
    let p = err_from_is_err_and c.from_residual.result c.from_residual.ensures.1 in
    rw (p.1, p.2) c.in_err-initial.ensures.says

pub returns-in_err-session-clause-says : goal.returns-in_err-session-clause-says
returns-in_err-session-clause-says g c =
    let p = err_from_is_err_and c.from_residual-in_err-session.result c.from_residual-in_err-session.ensures.1 in
    rw (p.1, p.2)
    (writing_ends c.args.context.now.asked.now.limit (g.R.Read.remaining c.args.reader.now)
    (g.R.Read.remaining c.read_initial_graph.new.reader) c.in_err-session.field-0.0 c.in_err-session.ensures.kinds)

pub returns-in_err-conversation-clause-says : goal.returns-in_err-conversation-clause-says
returns-in_err-conversation-clause-says g c =
    let p = err_from_is_err_and c.from_residual-in_err-conversation.result c.from_residual-in_err-conversation.ensures.1 in
    rw (p.1, p.2)
    (writing_ends c.args.context.now.asked.now.limit (g.R.Read.remaining c.args.reader.now)
    (g.R.Read.remaining c.read_initial_graph.new.reader) c.in_err-conversation.field-0.0 c.in_err-conversation.ensures.kinds)

pub returns-clause-says : goal.returns-clause-says
returns-clause-says g c =
    let asked = c.args.context.now.asked.now in
    let terms = terms_of asked in
    let initial = c.in_ok-initial.initial in
    let graph = content_of initial.graph in
    let heard = take (initial.end - initial.at) (drop initial.at c.read_initial_graph.new.buffer) in
    let written = g.W.Write.contents c.greeted_session.new.writer in
    IfErr-weaker c.converse.result _ _
    (λ fault says.
    after_graph_ends asked.limit initial c.read_initial_graph.new.buffer (g.R.Read.remaining c.args.reader.now)
    (g.R.Read.remaining c.read_initial_graph.new.reader) (g.R.Read.remaining c.converse.new.reader) fault c.requires.limit
    c.in_ok-initial.ensures.initial c.if-has_ended.false says)
    (c.converse.ensures.says graph initial.line heard written
    (c.in_ok-conversation.ensures.heard (content_of initial.graph) c.in_ok-session.ensures.holds))
