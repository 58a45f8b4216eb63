-- Each turn takes in one more seed.
use Rattle.std.proofs.Common.{◌∙◌, ◌≤◌, length-set, get_or, arith}
use Rattle.std.proofs.lemmas.List.{take_more}
use Rattle.route_walks.specs.declared.graph.Seed.{Seed}
use Rattle.route_walks.specs.declared.graph.TheConstants.{INF}
use Rattle.relax_core.proofs.Opening.{started_more}
use Rattle.relax_core.proofs.state.start.Goals as goal

pub loop-seed-preserved : goal.loop-seed-preserved
loop-seed-preserved c =
    let d : Seed = record { vertex = 0; start = 0 } in
    let i = c.loop-seed.seed-index in
    let was = c.loop-seed.invariant in
    let fits : (get_or c.args.seeds.now i d).start ≤ INF = omega arith in
    rw c.min.ensures (record {
      labels_length = length-set _ _ _ ∙ was.labels_length;
      marks_length = length-set _ _ _ ∙ was.marks_length;
      started =
          rw (take_more c.args.seeds.now i d (omega arith))
          (started_more _ _ _ _ (omega arith) (omega (arith, c.requires.seeds i d (omega arith))) fits was.started);
    })
