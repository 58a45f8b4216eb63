use Rattle.std.proofs.Common.{◌<◌, arith, drop, length, refl, true}
use Rattle.std.proofs.lemmas.List.{get_or-drop, length-drop}
use Rattle.job_answer.specs.Graphs.{growth_of}
use Rattle.job_answer.specs.Tasks.{IsWalkedBlock}
use Rattle.job_answer.proofs.BlockLists.{blocks-more}
use Rattle.job_answer.proofs.NearPairs.{found-lines}
use Rattle.job_answer.proofs.Sinks.{puts-line, puts-only}
use Rattle.job_answer.proofs.output.near_pairs.put_found.Goals as goal

pub loop-place-preserved : goal.loop-place-preserved
loop-place-preserved g c =
    let graphs = c.args.queries.now.graphs.now in
    let pairs = c.args.queries.now.pairs.now in
    let solve = c.args.solve in
    let k = c.loop-place.place in
    let here = c.loop-place-test.true in
    let there = get_or-drop solve.first pairs k (0, 0) in
    let inside : k < length (drop solve.first pairs) =
    omega (arith, here, c.requires.targets.count, c.requires.solve.within, length-drop solve.first pairs) in
    blocks-more (IsWalkedBlock graphs) g.W.Write.contents (drop solve.first pairs) k (0, 0) inside c.loop-place.invariant
    (rw there
    (puts-only g.W.Write.contents
    ((c.blocks_are_unique.ensures true graphs.network.n graphs.network.arcs (growth_of graphs.grown)).1 _)
    (found-lines c.least_labels_exist.ensures c.hops_and_parents_exist.ensures graphs pairs solve c.args.targets.now
    c.args.found.now k c.index.result.now c.index-in-loop-place.result.now c.deref.result.now c.n.ensures.network
    c.requires.alone c.args.queries.now.within c.requires.solve c.requires.targets c.requires.found here c.index.ensures
    c.index-in-loop-place.ensures c.deref.ensures.value)
    (puts-line g.W.Write.contents c.loop-place.sink _ _ c.put_found_pair-put.result c.put_found_pair-put.ensures.put refl refl refl
    refl c.end.ensures)))
