use Rattle.std.proofs.Common.{refl}
use Rattle.job_answer.specs.Graphs.{growth_of}
use Rattle.job_answer.specs.Within.{IsGrownLinesPair}
use Rattle.job_answer.proofs.BlockLists.{blocks-all, blocks-more, blocks-none}
use Rattle.job_answer.proofs.Growing.{label-block}
use Rattle.job_answer.proofs.Queries.{has_cost_after}
use Rattle.job_answer.proofs.Sinks.{puts-line, puts-only}
use Rattle.job_answer.proofs.output.pairs.put_costs.Goals as goal

pub put_costs_at-put-requires-clause-after : goal.put_costs_at-put-requires-clause-after
put_costs_at-put-requires-clause-after g c =
    has_cost_after c.args.queries.now.graphs.now.grown c.args.queries.now.pairs.now c.args.costs.now.after.items
    c.loop-place.place c.requires.after c.loop-place-test.true

pub loop-place-init : goal.loop-place-init
loop-place-init g c =
    let graphs = c.args.queries.now.graphs.now in
    blocks-none (IsGrownLinesPair c.args.lines graphs.network.n graphs.network.arcs (growth_of graphs.grown)) g.W.Write.contents
    c.args.sink.now

pub loop-place-preserved : goal.loop-place-preserved
loop-place-preserved g c =
    let graphs = c.args.queries.now.graphs.now in
    let growth = growth_of graphs.grown in
    let pairs = c.args.queries.now.pairs.now in
    let k = c.loop-place.place in
    blocks-more (IsGrownLinesPair c.args.lines graphs.network.n graphs.network.arcs growth) g.W.Write.contents pairs k (0, 0)
    c.loop-place-test.true c.loop-place.invariant
    (puts-only g.W.Write.contents ((c.lines_are_unique.ensures c.args.lines graphs.network.n graphs.network.arcs growth).1 _)
    (label-block c.costs_are_labels.ensures c.args.lines c.has_raw_pairs-raw.result graphs.network graphs.grown pairs c.args.costs.now.costs.items
    c.args.costs.now.after.items k c.requires.walks c.has_raw_pairs-raw.ensures c.requires.graphs.is c.requires.graphs.grows c.args.queries.now.within c.requires.costs
    c.requires.after c.loop-place-test.true)
    (puts-line g.W.Write.contents c.loop-place.sink _ _ c.put_costs_at-put.result c.put_costs_at-put.ensures.put refl refl refl
    refl c.end.ensures))

pub returns : goal.returns
returns g c =
    let graphs = c.args.queries.now.graphs.now in
    blocks-all (IsGrownLinesPair c.args.lines graphs.network.n graphs.network.arcs (growth_of graphs.grown)) g.W.Write.contents
    c.args.queries.now.pairs.now c.loop-place.place c.loop-place-test.false c.loop-place.invariant
