use Rattle.std.proofs.Common.{[], ◌≡◌, ◌∙◌, ap, subst, sym, append-nil, take, arith}
use Rattle.std.proofs.Common.{◌++◌}
use Rattle.std.proofs.KnownBytes.{Keeps-refl}
use Rattle.std.proofs.KnownBytes.{Consumes-nil, Consumes-trans}
use Rattle.std.specs.Io.KnownBytes.{Consumes}
use Rattle.std.proofs.lemmas.List.{length-take-le}
use Rattle.std.proofs.lemmas.Result.{IfErr-weaker, err_from_is_err_and, on_err_weaker}
use Rattle.session_answer.specs.Terms.{terms_of}
use Rattle.session_answer.specs.Conversations.{HasHeard}
use Rattle.session_answer.proofs.CutLemmas.{on_err}
use Rattle.session_answer.proofs.CutSessions.{end_cut, last_cut, read_cut}
use Rattle.session_answer.proofs.EndLemmas.{ends_short, takes_more, writing_ends_after}
use Rattle.session_answer.proofs.WholeLemmas.{all_taken, more_taken}
use Rattle.session_answer.proofs.answering.converse.Goals as goal

pub returns-then-count-eq0-clause-conversed : goal.returns-then-count-eq0-clause-conversed
returns-then-count-eq0-clause-conversed g c graph first heard before h =
    let asked = c.args.context.now.asked.now in
    let terms = terms_of asked in
    all_taken terms graph first c.loop.conversation heard
    c.read_some.new.buffer c.in_ok-count.count (g.R.Read.remaining c.args.reader.now)
    (g.R.Read.remaining c.loop.reader) (g.R.Read.remaining c.read_some.new.reader) before
    (g.W.Write.contents c.loop.writer) (g.W.Write.contents c.end.new.writer) c.end.result
    (c.loop.invariant.taken graph first heard before h) c.in_ok-count.ensures.bytes.0 c.if-count-eq0.true
    (c.in_ok-count.ensures.bytes.1 c.if-count-eq0.true (grind (arith, c.loop.invariant.room, c.read_some.auto.buffer)))
    (λ bytes is. c.end.ensures.answered graph first bytes before is)

pub loop-init : goal.loop-init
loop-init g c =
    let asked = c.args.context.now.asked.now in
    let terms = terms_of asked in
    record {
      kept = c.requires.kept;
      room = c.requires.room;
      taken = λ graph first heard before h.
          record {
            so_far = [];
            taken = Consumes-nil _;
            all =
                subst
                (λ bytes.
                HasHeard terms graph first c.args.conversation.now bytes
                before (g.W.Write.contents c.args.writer.now)) (sym (append-nil heard)) h;
          };
      often = record { bytes = []; taken = Consumes-nil _; many = omega arith };
    }

pub loop-preserved : goal.loop-preserved
loop-preserved g c = record {
  kept = c.in_ok-take.ensures.kept;
  room = grind (arith, c.loop.invariant.room, c.read_some.auto.buffer);
  taken = λ graph first heard before h.
      more_taken (terms_of c.args.context.now.asked.now) graph first
      c.loop.conversation c.take.new.self heard (take c.in_ok-count.count c.read_some.new.buffer)
      (g.R.Read.remaining c.args.reader.now) (g.R.Read.remaining c.loop.reader)
      (g.R.Read.remaining c.read_some.new.reader) before (g.W.Write.contents c.loop.writer)
      (g.W.Write.contents c.take.new.writer) (c.loop.invariant.taken graph first heard before h)
      c.in_ok-count.ensures.bytes.0 (λ bytes is. c.in_ok-take.ensures.heard graph first bytes before is);
  often =
      takes_more c.loop.counter (g.R.Read.remaining c.args.reader.now) (g.R.Read.remaining c.loop.reader)
      (g.R.Read.remaining c.read_some.new.reader) (take c.in_ok-count.count c.read_some.new.buffer)
      c.loop.invariant.often c.in_ok-count.ensures.bytes.0
      (let came = length-take-le c.in_ok-count.count c.read_some.new.buffer c.in_ok-count.ensures.count in
      omega (arith, came, c.if-count-eq0.false));
}

pub returns-then-count-eq0-clause-says : goal.returns-then-count-eq0-clause-says
returns-then-count-eq0-clause-says g c graph first heard before h =
    let so_far = c.loop.invariant.taken graph first heard before h in
    let takes = c.in_ok-count.ensures.bytes.0 in
    let nothing : so_far.so_far ++ take c.in_ok-count.count c.read_some.new.buffer ≡ so_far.so_far =
    ap (λ k. so_far.so_far ++ take k c.read_some.new.buffer) c.if-count-eq0.true ∙ append-nil so_far.so_far in
    IfErr-weaker c.end.result _ _
    (λ fault says.
    ends_short graph.n first heard so_far.so_far (g.R.Read.remaining c.args.reader.now)
    (g.R.Read.remaining c.read_some.new.reader) fault
    (subst
    (λ bytes. Consumes (g.R.Read.remaining c.args.reader.now) (g.R.Read.remaining c.read_some.new.reader) bytes) nothing
    (Consumes-trans _ _ _ so_far.so_far (take c.in_ok-count.count c.read_some.new.buffer) so_far.taken takes))
    (c.in_ok-count.ensures.bytes.1 c.if-count-eq0.true (grind (arith, c.loop.invariant.room, c.read_some.auto.buffer)))
    says)
    (c.end.ensures.says graph first (heard ++ so_far.so_far) before so_far.all)

pub returns-in_err-take-clause-says : goal.returns-in_err-take-clause-says
returns-in_err-take-clause-says g c graph first heard before h =
    let p = err_from_is_err_and c.from_residual-in_err-take.result c.from_residual-in_err-take.ensures.1 in
    rw (p.1, p.2)
    (writing_ends_after graph.n first heard (g.R.Read.remaining c.args.reader.now)
    (g.R.Read.remaining c.read_some.new.reader) c.in_err-take.field-0.0 c.in_err-take.ensures.kinds)

pub returns-clause-says : goal.returns-clause-says
returns-clause-says g c graph first heard before h =
    let often = c.loop.invariant.often in
    record { bytes = often.bytes; taken = often.taken; many = omega (arith, often.many, c.loop-test.false) }

pub returns-in_err-count-clause-cut : goal.returns-in_err-count-clause-cut
returns-in_err-count-clause-cut g c graph first heard before h =
    let asked = c.args.context.now.asked.now in
    let terms = terms_of asked in
    on_err
    (read_cut c.answer_texts_by_lines_are_unique.ensures terms graph
    first c.loop.conversation heard (g.R.Read.remaining c.args.reader.now) (g.R.Read.remaining c.loop.reader)
    (g.R.Read.remaining c.read_some.new.reader) before (g.W.Write.contents c.loop.writer)
    (c.loop.invariant.taken graph first heard before h) c.in_err-count.ensures.bytes)
    c.from_residual.result

pub returns-then-count-eq0-clause-cut : goal.returns-then-count-eq0-clause-cut
returns-then-count-eq0-clause-cut g c graph first heard before h =
    let asked = c.args.context.now.asked.now in
    let terms = terms_of asked in
    let so_far = c.loop.invariant.taken graph first heard before h in
    on_err_weaker c.end.result
    (λ cut.
    end_cut terms graph first c.loop.conversation heard
    c.read_some.new.buffer c.in_ok-count.count (g.R.Read.remaining c.args.reader.now)
    (g.R.Read.remaining c.loop.reader) (g.R.Read.remaining c.read_some.new.reader) before
    (g.W.Write.contents c.loop.writer) (g.W.Write.contents c.end.new.writer) so_far c.in_ok-count.ensures.bytes.0
    c.if-count-eq0.true
    (c.in_ok-count.ensures.bytes.1 c.if-count-eq0.true (grind (arith, c.loop.invariant.room, c.read_some.auto.buffer)))
    cut)
    (c.end.ensures.cut graph first (heard ++ so_far.so_far) before so_far.all)

pub returns-in_err-take-clause-cut : goal.returns-in_err-take-clause-cut
returns-in_err-take-clause-cut g c graph first heard before h =
    let asked = c.args.context.now.asked.now in
    let terms = terms_of asked in
    let so_far = c.loop.invariant.taken graph first heard before h in
    on_err
    (last_cut terms graph first c.loop.conversation heard
    (take c.in_ok-count.count c.read_some.new.buffer) (g.R.Read.remaining c.args.reader.now)
    (g.R.Read.remaining c.loop.reader) (g.R.Read.remaining c.read_some.new.reader) before
    (g.W.Write.contents c.loop.writer) (g.W.Write.contents c.take.new.writer) so_far c.in_ok-count.ensures.bytes.0
    (c.in_err-take.ensures.cut graph first (heard ++ so_far.so_far) before so_far.all))
    c.from_residual-in_err-take.result

pub returns-clause-cut : goal.returns-clause-cut
returns-clause-cut g c graph first heard before h =
    let asked = c.args.context.now.asked.now in
    let terms = terms_of asked in
    read_cut c.answer_texts_by_lines_are_unique.ensures terms graph
    first c.loop.conversation heard (g.R.Read.remaining c.args.reader.now) (g.R.Read.remaining c.loop.reader)
    (g.R.Read.remaining c.loop.reader) before (g.W.Write.contents c.loop.writer)
    (c.loop.invariant.taken graph first heard before h) (Keeps-refl _)
