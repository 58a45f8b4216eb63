use Rattle.std.proofs.Common.{◌-◌, ◌≤◌, length, take, drop, arith, subst, append-nil}
use Rattle.std.proofs.lemmas.List.{length-drop, length-take-le, take_all}
use Rattle.std.proofs.lemmas.Result.{on_ok_weaker}
use Rattle.dimacs_text.specs.Reading.{Reads}
use Rattle.dimacs_text.specs.reader.ArcRuns.{IsRunFrom}
use Rattle.dimacs_text.proofs.ReaderLemmas.{reads_both, reads_to}
use Rattle.dimacs_text.proofs.reader.JobReader.feed_with.Goals as goal
use Rattle.dimacs_text.proofs.reader.JobReader.feed_with.Goals.{then-take_run, else-take_run}

pub loop-run-preserved : goal.loop-run-preserved
loop-run-preserved c =
    let bytes = c.args.bytes.now in
    let old = c.args.self.now in
    let at = c.loop-run.at in
    let run = c.in-Some.run'.now in
    let found : IsRunFrom bytes c.loop-run.from run = c.in-Some.ensures bytes c.requires.ahead in
    let is_run = found.is_run in
    let new = c.take_run.new.self in
    let part = take (run.after - run.start) (drop run.start bytes) in
    let few : length run.arcs.items ≤ length part =
    omega (
      arith,
      is_run.inside,
      is_run.ends,
      length-drop run.start bytes,
      length-take-le (run.after - run.start)
          (drop run.start bytes) (omega (arith, is_run.ends, length-drop run.start bytes)),
    ) in
    let up_to : Reads old c.feed.new.self (take run.start bytes) =
    reads_to old c.loop-run.self c.feed.new.self bytes at run.start
    (omega (arith, c.loop-run.invariant.before, found.begins)) c.loop-run.invariant.reads
    c.in_ok-feed.ensures.reads in
    elim c.if-take_run.branch [
      | then-take_run w ↦
          record {
            inside = omega (arith, w.at-is, is_run.ends);
            before = omega (arith, c.max-from.ensures);
            reads =
                rw w.at-is
                (reads_to old c.feed.new.self new bytes run.start run.after (omega (arith, is_run.inside)) up_to
                ((rw w.if-take_run.true at c.take_run.ensures.taken) part is_run.lines few));
          }
      | else-take_run w ↦
          record {
            inside = omega (arith, w.at-is, is_run.inside, is_run.ends);
            before = omega (arith, c.max-from.ensures);
            reads =
                rw w.at-is
                (subst (λ b. Reads old new b) (append-nil (take run.start bytes))
                (reads_both old c.feed.new.self new (take run.start bytes) _ up_to
                (rw w.if-take_run.false at c.take_run.ensures.left)));
          }
    ]

pub returns : goal.returns
returns c =
    let bytes = c.args.bytes.now in
    let at = c.loop-run.at in
    record {
      reads = on_ok_weaker c.feed-2.result
          (λ rest.
          subst (λ b. Reads c.args.self.now c.feed-2.new.self b) (take_all (length bytes) bytes (omega arith))
          (reads_to c.args.self.now c.loop-run.self c.feed-2.new.self bytes at (length bytes)
          c.loop-run.invariant.inside c.loop-run.invariant.reads rest)) c.feed-2.ensures.reads;
    }
