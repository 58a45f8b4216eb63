use Rattle.std.proofs.Common.{[], ◌-◌, take, arith}
use Rattle.std.proofs.lemmas.List.{length-take-le}
use Rattle.std.proofs.lemmas.Result.{err_from_is_err_and}
use Rattle.std.proofs.KnownBytes.{Consumes-nil, Keeps-refl}
use Rattle.session_answer.proofs.CutLemmas.{on_err}
use Rattle.session_answer.proofs.CutSessions.{fed_more, fed_some, fed_then}
use Rattle.session_answer.proofs.EndLemmas.{ended_ends, long_ends, open_ends, system_ends, whole_ends}
use Rattle.session_answer.proofs.InitialGraphLemmas.{by_text, ended_has, fed_by_threads, fed_came, fed_inside, nothing_inside, open_has, open_within, reads_within}
use Rattle.session_answer.proofs.initial_graph.read_initial_graph.Goals as goal

pub returns-then-count-eq0-clause-initial : goal.returns-then-count-eq0-clause-initial
returns-then-count-eq0-clause-initial g c =
    ended_has c.loop.job c.args.limit c.loop.left (g.R.Read.remaining c.args.reader.now)
    (g.R.Read.remaining c.loop.reader) (g.R.Read.remaining c.read_some.new.reader) c.read_some.new.buffer
    c.in_ok-count.count c.ended_initial_graph.result c.loop.invariant.fed c.in_ok-count.ensures.bytes.0 c.if-count-eq0.true
    (c.in_ok-count.ensures.bytes.1 c.if-count-eq0.true (grind (arith, c.loop.invariant.room, c.read_some.auto.buffer))) c.ended_initial_graph.ensures.places c.ended_initial_graph.ensures.graph
    c.ended_initial_graph.ensures.next

pub returns-then-count-eq0-clause-limits : goal.returns-then-count-eq0-clause-limits
returns-then-count-eq0-clause-limits g c =
    by_text c.loop.job c.args.limit c.loop.left (g.R.Read.remaining c.args.reader.now)
    (g.R.Read.remaining c.loop.reader) c.ended_initial_graph.result c.loop.invariant.fed c.ended_initial_graph.ensures.limits

pub returns-then-is_over-clause-initial : goal.returns-then-is_over-clause-initial
returns-then-is_over-clause-initial g c =
    open_has c.loop.job c.feed_graph.new.self c.args.limit c.loop.left (g.R.Read.remaining c.args.reader.now)
    (g.R.Read.remaining c.loop.reader) (g.R.Read.remaining c.read_some.new.reader) c.read_some.new.buffer
    c.in_ok-at.at c.in_ok-count.count c.open_initial_graph.result c.requires.limit c.loop.invariant.fed
    c.in_ok-count.ensures.bytes.0 c.in_ok-count.ensures.count (let fed = length-take-le c.min-within.result c.read_some.new.buffer
    (omega (arith, c.min-within.ensures, c.in_ok-count.ensures.count)) in
    omega (arith, fed, c.in_ok-at.ensures.place, c.min-within.ensures))
    (let fed = length-take-le c.min-within.result c.read_some.new.buffer
    (omega (arith, c.min-within.ensures, c.in_ok-count.ensures.count)) in
    omega (arith, fed, c.in_ok-at.ensures.place, c.min-within.ensures))
    (reads_within c.loop.job c.feed_graph.new.self c.read_some.new.buffer c.in_ok-at.at c.min-within.result c.in_ok-count.count
    (let fed = length-take-le c.min-within.result c.read_some.new.buffer
    (omega (arith, c.min-within.ensures, c.in_ok-count.ensures.count)) in
    omega (arith, fed, c.in_ok-at.ensures.place))
    (omega (arith, c.min-within.ensures)) c.in_ok-at.ensures.reads)
    (fed_inside c.loop.job c.args.limit c.loop.left (g.R.Read.remaining c.args.reader.now)
    (g.R.Read.remaining c.loop.reader) c.read_some.new.buffer c.in_ok-at.at c.min-within.result c.in_ok-count.count
    c.requires.limit c.loop.invariant.fed (omega (arith, c.min-within.ensures, c.in_ok-count.ensures.count))
    (let fed = length-take-le c.min-within.result c.read_some.new.buffer
    (omega (arith, c.min-within.ensures, c.in_ok-count.ensures.count)) in
    omega (arith, fed, c.in_ok-at.ensures.place))
    (omega (arith, c.min-within.ensures)) (omega (arith, c.min-within.ensures)) c.in_ok-at.ensures.inside)
    c.open_initial_graph.ensures.places c.open_initial_graph.ensures.graph c.open_initial_graph.ensures.next c.open_initial_graph.ensures.joined

pub returns-then-is_over-clause-limits : goal.returns-then-is_over-clause-limits
returns-then-is_over-clause-limits g c =
    open_within c.loop.job c.feed_graph.new.self c.args.limit c.loop.left (g.R.Read.remaining c.args.reader.now)
    (g.R.Read.remaining c.loop.reader) c.read_some.new.buffer
    c.in_ok-at.at c.in_ok-count.count c.open_initial_graph.result c.requires.limit c.loop.invariant.fed
    c.in_ok-count.ensures.count (let fed = length-take-le c.min-within.result c.read_some.new.buffer
    (omega (arith, c.min-within.ensures, c.in_ok-count.ensures.count)) in
    omega (arith, fed, c.in_ok-at.ensures.place, c.min-within.ensures))
    (let fed = length-take-le c.min-within.result c.read_some.new.buffer
    (omega (arith, c.min-within.ensures, c.in_ok-count.ensures.count)) in
    omega (arith, fed, c.in_ok-at.ensures.place, c.min-within.ensures))
    (reads_within c.loop.job c.feed_graph.new.self c.read_some.new.buffer c.in_ok-at.at c.min-within.result c.in_ok-count.count
    (let fed = length-take-le c.min-within.result c.read_some.new.buffer
    (omega (arith, c.min-within.ensures, c.in_ok-count.ensures.count)) in
    omega (arith, fed, c.in_ok-at.ensures.place))
    (omega (arith, c.min-within.ensures)) c.in_ok-at.ensures.reads)
    c.open_initial_graph.ensures.limits

pub loop-preserved : goal.loop-preserved
loop-preserved g c =
    record {
      fed =
          fed_by_threads c.feed_graph.new.self c.read_arcs_from.new.job c.args.limit (c.loop.left - c.in_ok-count.count)
          c.in_ok-more.more c.missing_lines.result (g.R.Read.remaining c.args.reader.now) (g.R.Read.remaining c.read_some.new.reader)
          (g.R.Read.remaining c.read_arcs_from.new.reader) c.requires.limit
          (fed_came c.loop.job c.feed_graph.new.self c.args.limit c.loop.left (g.R.Read.remaining c.args.reader.now)
          (g.R.Read.remaining c.loop.reader) (g.R.Read.remaining c.read_some.new.reader) c.read_some.new.buffer
          c.in_ok-at.at c.in_ok-count.count c.requires.limit c.loop.invariant.fed c.in_ok-count.ensures.bytes.0
          c.in_ok-count.ensures.count (omega (arith, c.if-count-left.false))
          (reads_within c.loop.job c.feed_graph.new.self c.read_some.new.buffer c.in_ok-at.at c.min-within.result c.in_ok-count.count
          (let fed = length-take-le c.min-within.result c.read_some.new.buffer
          (omega (arith, c.min-within.ensures, c.in_ok-count.ensures.count)) in
          omega (arith, fed, c.in_ok-at.ensures.place))
          (omega (arith, c.min-within.ensures)) c.in_ok-at.ensures.reads)
          (omega (arith, c.is_over.ensures.fed c.if-is_over.false, c.min-within.ensures, c.if-count-left.false))
          (fed_inside c.loop.job c.args.limit c.loop.left (g.R.Read.remaining c.args.reader.now)
          (g.R.Read.remaining c.loop.reader) c.read_some.new.buffer c.in_ok-at.at c.min-within.result c.in_ok-count.count
          c.requires.limit c.loop.invariant.fed (omega (arith, c.min-within.ensures, c.in_ok-count.ensures.count))
          (let fed = length-take-le c.min-within.result c.read_some.new.buffer
          (omega (arith, c.min-within.ensures, c.in_ok-count.ensures.count)) in
          omega (arith, fed, c.in_ok-at.ensures.place))
          (omega (arith, c.min-within.ensures)) (omega (arith, c.min-within.ensures)) c.in_ok-at.ensures.inside))
          c.in_ok-more.ensures.feeds c.missing_lines.ensures.inside (omega (arith, c.if-missing_lines-eq0.false));
      often =
          omega (
            arith,
            c.loop.invariant.often,
            c.if-count-eq0.false,
            c.if-count-left.false,
            c.in_ok-more.ensures.feeds.few,
          );
      room = grind (arith, c.loop.invariant.room, c.read_some.auto.buffer);
    }

pub returns-in_err-more-clause-cut : goal.returns-in_err-more-clause-cut
returns-in_err-more-clause-cut g c =
    on_err
    (fed_then c.loop.job c.args.limit c.loop.left (g.R.Read.remaining c.args.reader.now)
    (g.R.Read.remaining c.loop.reader) (g.R.Read.remaining c.read_some.new.reader)
    (g.R.Read.remaining c.read_arcs_from.new.reader)
    (take c.in_ok-count.count c.read_some.new.buffer) c.in_err-more.ensures.short.bytes c.loop.invariant.fed
    c.in_ok-count.ensures.bytes.0 c.in_err-more.ensures.short.taken)
    c.from_residual-in_err-more.result

pub returns-in_err-count-clause-cut : goal.returns-in_err-count-clause-cut
returns-in_err-count-clause-cut g c =
    on_err
    (fed_some c.loop.job c.args.limit c.loop.left (g.R.Read.remaining c.args.reader.now)
    (g.R.Read.remaining c.loop.reader) (g.R.Read.remaining c.read_some.new.reader) c.loop.invariant.fed
    c.in_err-count.ensures.bytes)
    c.from_residual.result

pub returns-then-count-eq0-clause-cut : goal.returns-then-count-eq0-clause-cut
returns-then-count-eq0-clause-cut g c =
    on_err
    (fed_more c.loop.job c.args.limit c.loop.left (g.R.Read.remaining c.args.reader.now)
    (g.R.Read.remaining c.loop.reader) (g.R.Read.remaining c.read_some.new.reader)
    (take c.in_ok-count.count c.read_some.new.buffer) c.loop.invariant.fed c.in_ok-count.ensures.bytes.0)
    c.ended_initial_graph.result

pub returns-then-count-left-clause-cut : goal.returns-then-count-left-clause-cut
returns-then-count-left-clause-cut g c =
    (fed_more c.loop.job c.args.limit c.loop.left (g.R.Read.remaining c.args.reader.now)
    (g.R.Read.remaining c.loop.reader) (g.R.Read.remaining c.read_some.new.reader)
    (take c.in_ok-count.count c.read_some.new.buffer) c.loop.invariant.fed c.in_ok-count.ensures.bytes.0)

pub returns-in_err-at-clause-cut : goal.returns-in_err-at-clause-cut
returns-in_err-at-clause-cut g c =
    on_err
    (fed_more c.loop.job c.args.limit c.loop.left (g.R.Read.remaining c.args.reader.now)
    (g.R.Read.remaining c.loop.reader) (g.R.Read.remaining c.read_some.new.reader)
    (take c.in_ok-count.count c.read_some.new.buffer) c.loop.invariant.fed c.in_ok-count.ensures.bytes.0)
    c.from_residual-in_err-at.result

pub returns-then-is_over-clause-cut : goal.returns-then-is_over-clause-cut
returns-then-is_over-clause-cut g c =
    on_err
    (fed_more c.loop.job c.args.limit c.loop.left (g.R.Read.remaining c.args.reader.now)
    (g.R.Read.remaining c.loop.reader) (g.R.Read.remaining c.read_some.new.reader)
    (take c.in_ok-count.count c.read_some.new.buffer) c.loop.invariant.fed c.in_ok-count.ensures.bytes.0)
    c.open_initial_graph.result

pub returns-clause-cut : goal.returns-clause-cut
returns-clause-cut g c =
    fed_some c.loop.job c.args.limit c.loop.left (g.R.Read.remaining c.args.reader.now)
    (g.R.Read.remaining c.loop.reader) (g.R.Read.remaining c.loop.reader) c.loop.invariant.fed (Keeps-refl _)

pub is_over-requires : goal.is_over-requires
is_over-requires g c less =
    c.in_ok-at.ensures.over
    (let fed = length-take-le c.min-within.result c.read_some.new.buffer
    (omega (arith, c.min-within.ensures, c.in_ok-count.ensures.count)) in
    omega (arith, fed, less))

pub returns-then-count-eq0-clause-says : goal.returns-then-count-eq0-clause-says
returns-then-count-eq0-clause-says g c =
    ended_ends c.loop.job c.args.limit c.loop.left (g.R.Read.remaining c.args.reader.now)
    (g.R.Read.remaining c.loop.reader) (g.R.Read.remaining c.read_some.new.reader) c.read_some.new.buffer
    c.in_ok-count.count c.ended_initial_graph.result c.loop.invariant.fed c.in_ok-count.ensures.bytes.0 c.if-count-eq0.true
    (c.in_ok-count.ensures.bytes.1 c.if-count-eq0.true (grind (arith, c.loop.invariant.room, c.read_some.auto.buffer)))
    c.ended_initial_graph.ensures.says

pub returns-then-count-left-clause-says : goal.returns-then-count-left-clause-says
returns-then-count-left-clause-says g c =
    let fed = length-take-le c.min-within.result c.read_some.new.buffer
    (omega (arith, c.min-within.ensures, c.in_ok-count.ensures.count)) in
    long_ends c.loop.job c.feed_graph.new.self c.args.limit c.loop.left (g.R.Read.remaining c.args.reader.now)
    (g.R.Read.remaining c.loop.reader) (g.R.Read.remaining c.read_some.new.reader) c.read_some.new.buffer
    c.in_ok-at.at c.in_ok-count.count c.requires.limit c.loop.invariant.fed c.in_ok-count.ensures.bytes.0
    c.in_ok-count.ensures.count
    (omega (
      arith,
      fed,
      c.in_ok-at.ensures.place,
      c.is_over.ensures.fed c.if-is_over.false,
      c.min-within.ensures,
      c.if-count-left.true,
    ))
    (omega (arith, c.if-count-left.true))
    (reads_within c.loop.job c.feed_graph.new.self c.read_some.new.buffer c.in_ok-at.at c.min-within.result c.in_ok-count.count
    (omega (arith, fed, c.in_ok-at.ensures.place)) (omega (arith, c.min-within.ensures)) c.in_ok-at.ensures.reads)
    (c.is_over.ensures.none c.if-is_over.false)
    (fed_inside c.loop.job c.args.limit c.loop.left (g.R.Read.remaining c.args.reader.now)
    (g.R.Read.remaining c.loop.reader) c.read_some.new.buffer c.in_ok-at.at c.min-within.result c.in_ok-count.count
    c.requires.limit c.loop.invariant.fed (omega (arith, c.min-within.ensures, c.in_ok-count.ensures.count))
    (let fed = length-take-le c.min-within.result c.read_some.new.buffer
    (omega (arith, c.min-within.ensures, c.in_ok-count.ensures.count)) in
    omega (arith, fed, c.in_ok-at.ensures.place))
    (omega (arith, c.min-within.ensures)) (omega (arith, c.min-within.ensures)) c.in_ok-at.ensures.inside)

pub returns-then-is_over-clause-says : goal.returns-then-is_over-clause-says
returns-then-is_over-clause-says g c =
    open_ends c.loop.job c.feed_graph.new.self c.args.limit c.loop.left (g.R.Read.remaining c.args.reader.now)
    (g.R.Read.remaining c.loop.reader) (g.R.Read.remaining c.read_some.new.reader) c.read_some.new.buffer
    c.in_ok-at.at c.in_ok-count.count c.open_initial_graph.result c.requires.limit c.loop.invariant.fed
    c.in_ok-count.ensures.bytes.0 c.in_ok-count.ensures.count (let fed = length-take-le c.min-within.result c.read_some.new.buffer
    (omega (arith, c.min-within.ensures, c.in_ok-count.ensures.count)) in
    omega (arith, fed, c.in_ok-at.ensures.place, c.min-within.ensures))
    (let fed = length-take-le c.min-within.result c.read_some.new.buffer
    (omega (arith, c.min-within.ensures, c.in_ok-count.ensures.count)) in
    omega (arith, fed, c.in_ok-at.ensures.place, c.min-within.ensures))
    (reads_within c.loop.job c.feed_graph.new.self c.read_some.new.buffer c.in_ok-at.at c.min-within.result c.in_ok-count.count
    (let fed = length-take-le c.min-within.result c.read_some.new.buffer
    (omega (arith, c.min-within.ensures, c.in_ok-count.ensures.count)) in
    omega (arith, fed, c.in_ok-at.ensures.place))
    (omega (arith, c.min-within.ensures)) c.in_ok-at.ensures.reads) c.open_initial_graph.ensures.says

pub returns-in_err-more-clause-says : goal.returns-in_err-more-clause-says
returns-in_err-more-clause-says g c =
    let p = err_from_is_err_and c.from_residual-in_err-more.result c.from_residual-in_err-more.ensures.1 in
    rw (p.1, p.2)
    (system_ends c.args.limit (g.R.Read.remaining c.args.reader.now) (g.R.Read.remaining c.read_arcs_from.new.reader)
    c.in_err-more.field-0.0 c.in_err-more.ensures.only)

pub returns-then-missing_lines-eq0-clause-cut : goal.returns-then-missing_lines-eq0-clause-cut
returns-then-missing_lines-eq0-clause-cut g c =
    fed_then c.loop.job c.args.limit c.loop.left (g.R.Read.remaining c.args.reader.now)
    (g.R.Read.remaining c.loop.reader) (g.R.Read.remaining c.read_some.new.reader)
    (g.R.Read.remaining c.read_arcs_from.new.reader)
    (take c.in_ok-count.count c.read_some.new.buffer) c.in_ok-more.ensures.feeds.text c.loop.invariant.fed
    c.in_ok-count.ensures.bytes.0 c.in_ok-more.ensures.feeds.taken

pub returns-then-missing_lines-eq0-clause-says : goal.returns-then-missing_lines-eq0-clause-says
returns-then-missing_lines-eq0-clause-says g c =
    whole_ends c.read_arcs_from.new.job c.feed_graph.new.self c.args.limit (c.loop.left - c.in_ok-count.count) c.in_ok-more.more
    (g.R.Read.remaining c.args.reader.now) (g.R.Read.remaining c.read_some.new.reader)
    (g.R.Read.remaining c.read_arcs_from.new.reader) c.stopped_graph.result c.requires.limit
    (fed_came c.loop.job c.feed_graph.new.self c.args.limit c.loop.left (g.R.Read.remaining c.args.reader.now)
    (g.R.Read.remaining c.loop.reader) (g.R.Read.remaining c.read_some.new.reader) c.read_some.new.buffer
    c.in_ok-at.at c.in_ok-count.count c.requires.limit c.loop.invariant.fed c.in_ok-count.ensures.bytes.0
    c.in_ok-count.ensures.count (omega (arith, c.if-count-left.false))
    (reads_within c.loop.job c.feed_graph.new.self c.read_some.new.buffer c.in_ok-at.at c.min-within.result c.in_ok-count.count
    (let fed = length-take-le c.min-within.result c.read_some.new.buffer
    (omega (arith, c.min-within.ensures, c.in_ok-count.ensures.count)) in
    omega (arith, fed, c.in_ok-at.ensures.place))
    (omega (arith, c.min-within.ensures)) c.in_ok-at.ensures.reads)
    (omega (arith, c.is_over.ensures.fed c.if-is_over.false, c.min-within.ensures, c.if-count-left.false))
    (fed_inside c.loop.job c.args.limit c.loop.left (g.R.Read.remaining c.args.reader.now)
    (g.R.Read.remaining c.loop.reader) c.read_some.new.buffer c.in_ok-at.at c.min-within.result c.in_ok-count.count
    c.requires.limit c.loop.invariant.fed (omega (arith, c.min-within.ensures, c.in_ok-count.ensures.count))
    (let fed = length-take-le c.min-within.result c.read_some.new.buffer
    (omega (arith, c.min-within.ensures, c.in_ok-count.ensures.count)) in
    omega (arith, fed, c.in_ok-at.ensures.place))
    (omega (arith, c.min-within.ensures)) (omega (arith, c.min-within.ensures)) c.in_ok-at.ensures.inside))
    c.in_ok-more.ensures.feeds c.stopped_graph.ensures.says

pub returns-clause-says : goal.returns-clause-says
returns-clause-says g c = absurd (omega (arith, c.requires.limit, c.loop.invariant.often, c.loop-test.false))

pub loop-init : goal.loop-init
loop-init g c = record {
  fed = record {
    text = [];
    read = c.new-job.ensures;
    taken = Consumes-nil _;
    count = omega arith;
    inside = nothing_inside;
  };
  often = omega arith;
  room = c.requires.room;
}
