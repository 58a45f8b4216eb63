use Rattle.std.proofs.Common.{◌≡◌, ◌∙◌, ◌++◌, ap, ap₂, length}
use Rattle.std.proofs.lemmas.Result.{on_err_weaker, on_ok_weaker}
use Rattle.answer_lines.specs.Lines.{ready_text}
use Rattle.job_answer.proofs.Facts.{appends-then}
use Rattle.dimacs_text.specs.Jobs.{question_of}
use Rattle.session_answer.specs.Terms.{terms_of}
use Rattle.session_answer.specs.Replies.{IsAnswerIn, IsBodyIn}
use Rattle.session_answer.proofs.CutLemmas.{first_cut, none_given, on_err, only_cut, ready_cut}
use Rattle.session_answer.proofs.kind_graph.KindGraph.answer.Goals as goal

pub returns-clause-answered : goal.returns-clause-answered
returns-clause-answered g c graph holds =
    let body = c.in_ok-write_body.ensures.body graph holds in
    let bytes = c.deref.result.now in
    let ready : bytes ≡ ready_text graph.n (length graph.arcs) c.args.query.now.line =
    c.deref.ensures.value
    ∙ c.in_ok-put_ready.ensures.ok
    ∙ ap₂ (λ initial line. initial ++ line) c.new-ready.ensures.items
    (ap₂ (λ n m. ready_text n m c.args.query.now.line) (c.n-n.ensures.vertices ∙ holds.network.vertices) holds.count) in
    on_ok_weaker c.write_whole.result
    (λ sent. record {
      text = body.text ++ bytes;
      is_text = record {
        body = body.text;
        is_body = body.is_text;
        written = ap (λ line. body.text ++ line) ready;
      };
      appended = appends-then _ _ _ body.text bytes body.appended sent;
    })
    c.write_whole.ensures.whole

pub returns-in_err-write_body-clause-cut : goal.returns-in_err-write_body-clause-cut
returns-in_err-write_body-clause-cut g c graph holds =
    let terms = terms_of c.args.context.now.asked.now in
    let question = question_of c.args.query.now.ask in
    on_err
    (first_cut (IsBodyIn terms graph question) (IsAnswerIn terms graph question c.args.query.now.line) _ _
    (λ text is. (is.body, ready_text graph.n (length graph.arcs) c.args.query.now.line, is.is_body, is.written))
    (c.in_err-write_body.ensures.cut graph holds))
    c.from_residual.result

pub returns-in_err-put_ready-clause-cut : goal.returns-in_err-put_ready-clause-cut
returns-in_err-put_ready-clause-cut g c graph holds =
    let body = c.in_ok-write_body.ensures.body graph holds in
    on_err
    (ready_cut c.answer_texts_by_lines_are_unique.ensures (terms_of c.args.context.now.asked.now)
    graph (question_of c.args.query.now.ask) c.args.query.now.line body.text _ _ _ body.is_text body.appended
    (none_given (λ text. text ≡ ready_text graph.n (length graph.arcs) c.args.query.now.line) _))
    c.from_residual-in_err-put_ready.result

pub returns-clause-cut : goal.returns-clause-cut
returns-clause-cut g c graph holds =
    let body = c.in_ok-write_body.ensures.body graph holds in
    let bytes = c.deref.result.now in
    let ready : bytes ≡ ready_text graph.n (length graph.arcs) c.args.query.now.line =
    c.deref.ensures.value
    ∙ c.in_ok-put_ready.ensures.ok
    ∙ ap₂ (λ initial line. initial ++ line) c.new-ready.ensures.items
    (ap₂ (λ n m. ready_text n m c.args.query.now.line) (c.n-n.ensures.vertices ∙ holds.network.vertices) holds.count) in
    on_err_weaker c.write_whole.result
    (λ cut.
    ready_cut c.answer_texts_by_lines_are_unique.ensures (terms_of c.args.context.now.asked.now)
    graph (question_of c.args.query.now.ask) c.args.query.now.line body.text _ _ _ body.is_text body.appended
    (only_cut bytes (ready_text graph.n (length graph.arcs) c.args.query.now.line) _ _ ready cut))
    c.write_whole.ensures.prefix
