-- An event that was done makes the run one longer; one that wasn't stops it.
use Rattle.std.proofs.Common.{◌≡◌, ap, ◌<◌, Err, length, get_or, arith}
use Rattle.std.proofs.lemmas.List.{take_more}
use Rattle.std.proofs.lemmas.Option.{slice_get-get_or}
use Rattle.relax_core.specs.declared.events.Event.TheVariants.{Take}
use Rattle.relax_core.proofs.Replaying.{run_on}
use Rattle.relax_core.proofs.runs.replay.Goals as goal

pub loop-i-preserved : goal.loop-i-preserved
loop-i-preserved c =
    let lt : c.loop-i.i < length c.args.events.now = omega arith in
    let was = c.loop-i.invariant in
    record {
      reached = record {
        opening = was.reached.opening;
        opens = was.reached.opens;
        run =
            rw (take_more c.args.events.now c.loop-i.i (Take 0 0) lt)
            (run_on c.args.csr.now _ _ _ _ _ was.reached.run c.in-Ok-apply.ensures.done);
      };
      lawful = c.in-Ok-apply.ensures.lawful c.args.seeds.now was.lawful;
    }

pub returns-in-Err-NotEnabled-clause-at : goal.returns-in-Err-NotEnabled-clause-at
returns-in-Err-NotEnabled-clause-at c i e =
    let lt : c.loop-i.i < length c.args.events.now = omega arith in
    let same : c.loop-i.i ≡ i = cc in
    rw (← same) (record {
      state = c.loop-i.core;
      reached = c.loop-i.invariant.reached;
      event = get_or c.args.events.now c.loop-i.i (Take 0 0);
      is = slice_get-get_or c.args.events.now c.loop-i.i (Take 0 0) lt;
      refused = c.in-Err-NotEnabled.ensures.not_enabled.0 (ap Err c.in-Err-NotEnabled.field-0-is);
    })
