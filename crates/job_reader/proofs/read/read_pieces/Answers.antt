use Rattle.std.proofs.Common.{◌++◌, [], length, sym, subst, arith, append-nil, ◌≤◌}
use Rattle.std.proofs.lemmas.Result.{err_from_is_err_and}
use Rattle.dimacs_text.specs.Reading.{HasRead, Reads}
use Rattle.job_reader.proofs.Feeding.{fed-both, fed-full, fed-on, fed-short, text-says}
use Rattle.job_reader.proofs.read.read_pieces.Goals as goal

pub returns-in_err-ended-clause-taken : goal.returns-in_err-ended-clause-taken
returns-in_err-ended-clause-taken g c =
    let p = err_from_is_err_and c.from_residual.result c.from_residual.ensures.1 in
    rw (p.1, p.2)
    (fed-short c.loop-ended.job (c.loop-ended.pieces.front ++ c.loop-ended.pieces.back) c.args.limit c.loop-ended.left
    c.loop-ended.left _ _ _ _ c.loop-ended.invariant.fed c.in_err-ended.ensures.short (omega arith)).0

pub returns-then-len-left-clause-taken : goal.returns-then-len-left-clause-taken
returns-then-len-left-clause-taken g c =
    let on = c.in_ok-ended.ensures.on in
    fed-full c.loop-ended.job
    (c.loop-ended.pieces.front ++ c.loop-ended.pieces.back) c.args.limit c.loop-ended.left _ _ _
    c.step.new.pieces.spare c.loop-ended.invariant.fed on.fills.taken
    (omega (arith, on.fills.few, c.min-limit.ensures, c.len.ensures, c.if-len-left.true))

pub loop-ended-preserved : goal.loop-ended-preserved
loop-ended-preserved g c =
    let on = c.in_ok-ended.ensures.on in
    let few : length c.step.new.pieces.spare ≤ c.loop-ended.left = omega (arith, c.len.ensures, c.if-len-left.false) in
    record {
      fed =
          rw (c.turn.ensures.front, c.turn.ensures.back, c.step.ensures.back, c.len-in-loop-ended.ensures)
          (fed-on c.loop-ended.job c.step.new.job c.args.limit c.loop-ended.left c.min-limit.result _ _ _
          c.loop-ended.pieces.front c.loop-ended.pieces.back c.step.new.pieces.spare c.in_ok-ended.ended
          c.requires.limit
          c.loop-ended.invariant.fed on few);
      end = on.fills.end;
    }

pub returns-in_err-finish-clause-says : goal.returns-in_err-finish-clause-says
returns-in_err-finish-clause-says g c =
    let fed =
    fed-both c.loop-ended.job c.step-2.new.job c.feed_to.new.job c.args.limit c.loop-ended.left _ _
    c.loop-ended.pieces.front
    c.loop-ended.pieces.back c.requires.limit c.loop-ended.invariant.fed c.in_ok-step.ensures.on.reads
    (subst (λ b. Reads c.step-2.new.job c.feed_to.new.job b) c.step-2.ensures.back c.in_ok-feed_to.ensures) in
    let ended = c.loop-ended.invariant.end c.loop-ended-test.false in
    let p = err_from_is_err_and c.from_residual-in_err-finish.result c.from_residual-in_err-finish.ensures.1 in
    rw (p.1, p.2)
    (text-says _ _ (fed.text ++ []) c.in_err-finish.field-0.0 (record { taken = fed.taken; ended = ended })
    (c.in_err-finish.ensures.fault (fed.text ++ [])
    (subst (λ t. HasRead c.feed_to.new.job t) (sym (append-nil fed.text)) fed.read)))

pub returns-clause-job : goal.returns-clause-job
returns-clause-job g c =
    let fed =
    fed-both c.loop-ended.job c.step-2.new.job c.feed_to.new.job c.args.limit c.loop-ended.left _ _
    c.loop-ended.pieces.front
    c.loop-ended.pieces.back c.requires.limit c.loop-ended.invariant.fed c.in_ok-step.ensures.on.reads
    (subst (λ b. Reads c.step-2.new.job c.feed_to.new.job b) c.step-2.ensures.back c.in_ok-feed_to.ensures) in
    let read = subst (λ t. HasRead c.feed_to.new.job t) (sym (append-nil fed.text)) fed.read in
    record {
      text = fed.text ++ [];
      whole = record { taken = fed.taken; ended = c.loop-ended.invariant.end c.loop-ended-test.false };
      few = omega (arith, fed.count);
      is_job = c.in_ok-finish.ensures.job (fed.text ++ []) read;
      limits = c.in_ok-finish.ensures.within (fed.text ++ []) read;
    }
