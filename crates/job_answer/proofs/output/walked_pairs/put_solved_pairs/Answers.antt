use Rattle.job_answer.specs.Solves.{IsWalked, IsWalkedAfter}
use Rattle.job_answer.proofs.Queries.{each-told, targets-within}
use Rattle.job_answer.proofs.Sinks.{stops}
use Rattle.job_answer.proofs.output.walked_pairs.put_solved_pairs.Goals as goal
use Rattle.job_answer.proofs.output.walked_pairs.put_solved_pairs.Goals.{in-Some, in-None+in-Ok-walks_to+in-Some-1}
use Rattle.job_answer.proofs.output.walked_pairs.put_solved_pairs.Goals.{in-None+in-Ok-walks_to+in-None-1, in-None+in-Err}

pub near_walks-requires-clause-targets : goal.near_walks-requires-clause-targets
near_walks-requires-clause-targets g c κs within =
    rw c.deref.ensures.value
    (targets-within c.args.queries.now.graphs.now.network.n c.args.queries.now.pairs.now c.args.solve.first c.args.solve.end
    c.in-Ok.targets.items c.args.queries.now.within c.in-Ok.ensures c.requires.solve.within)

pub put_walked-requires-clause-walked : goal.put_walked-requires-clause-walked
put_walked-requires-clause-walked g c =
    let graphs = c.args.queries.now.graphs.now in
    each-told (λ pair. IsWalked graphs.network.n graphs.network.arcs pair c.in-Ok-walks_to.walks.before)
    c.args.queries.now.pairs.now c.args.solve c.in-Ok.targets.items c.requires.solve c.in-Ok.ensures
    (rw c.deref-in-None.ensures.value at c.in-Ok-walks_to.ensures.before)

pub put_walked-requires-clause-after : goal.put_walked-requires-clause-after
put_walked-requires-clause-after g c =
    let graphs = c.args.queries.now.graphs.now in
    each-told (λ pair. IsWalkedAfter graphs.grown pair c.in-Ok-walks_to.walks.after)
    c.args.queries.now.pairs.now c.args.solve c.in-Ok.targets.items c.requires.solve c.in-Ok.ensures
    (rw c.deref-in-None.ensures.value at c.in-Ok-walks_to.ensures.after)

pub returns : goal.returns
returns g c =
    elim c.match-near_walks.branch [
      | in-Some w ↦ rw w.sink-is w.put_found.ensures
      | in-None+in-Ok-walks_to+in-Some-1 w ↦ rw w.sink-is w.put_walked.ensures
      | in-None+in-Ok-walks_to+in-None-1 w ↦ rw w.sink-is w.put_walked.ensures
      | in-None+in-Err w ↦ rw w.sink-is (stops g.W.Write.contents w.fail-in-Err.ensures)
    ]
