use Rattle.std.proofs.Common.{◌++◌, ◌≤◌, length, arith}
use Rattle.job_reader.proofs.Feeding.{fed-further, fed-least, fed-whole, on-fault}
use Rattle.job_reader.proofs.arcs.read_sure.Goals as goal

pub returns-then-len-eq0-2-clause-feeds : goal.returns-then-len-eq0-2-clause-feeds
returns-then-len-eq0-2-clause-feeds g c =
    fed-whole c.args.job.now c.loop.job c.loop.pieces.front c.loop.pieces.back c.args.limit c.loop.left _ _
    c.loop.invariant.fed (omega (arith, c.len.ensures, c.if-len-eq0.true))
    (omega (arith, c.len-then-len-eq0.ensures, c.if-len-eq0-2.true))

pub returns-in_err-ends-clause-short : goal.returns-in_err-ends-clause-short
returns-in_err-ends-clause-short g c =
    on-fault
    (fed-least c.args.job.now c.loop.job (c.loop.pieces.front ++ c.loop.pieces.back) c.args.limit c.loop.left _ _ _
    c.loop.invariant.fed c.in_err-ends.ensures.short.taken)
    c.from_residual.result

pub loop-preserved : goal.loop-preserved
loop-preserved g c =
    let on = c.in_ok-ends.ensures.on in
    let few : length c.step.new.pieces.spare ≤ c.loop.left = omega (arith, on.fills.few, c.next_piece-next.ensures) in
    record {
      fed =
          rw (c.turn.ensures.front, c.turn.ensures.back, c.step.ensures.back, c.len-left.ensures)
          (fed-further c.args.job.now c.loop.job c.step.new.job c.args.limit c.loop.left c.next_piece-next.result _ _ _
          c.loop.pieces.front c.loop.pieces.back c.step.new.pieces.spare c.in_ok-ends.ends c.loop.invariant.fed on few);
    }
