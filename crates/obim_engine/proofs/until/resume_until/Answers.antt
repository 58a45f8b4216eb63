-- What is the end of a run from the labels of a pause is one from its seeds.
use Rattle.std.proofs.Common.{ap, subst, List, IfOk}
use Rattle.std.proofs.lemmas.Result.{IfOk-weaker}
use Rattle.route_walks.specs.declared.graph.Seed.{Seed}
use Rattle.route_walks.specs.Operators.{seeds_of}
use Rattle.csr_graph.specs.Graph.{Graph}
use Rattle.label_words.specs.declared.known.Known.{Known}
use Rattle.obim_engine.specs.declared.goal.Goal.{Goal}
use Rattle.obim_engine.specs.Goal.{HasReached, HasStopped}
use Rattle.obim_engine.proofs.until.resume_until.Goals as goal

pub returns-clause-reached : goal.returns-clause-reached
returns-clause-reached g c seeds within pause =
    let graph = c.args.csr.now in
    let wanted = c.args.goal in
    let run = c.of.result in
    let words = c.in_ok-opened.opened.seat.known.seeds in
    let from = ap (λ (k : Known). k.seeds) c.in_ok-opened.ensures in
    let of_goal =
    subst (λ (w : Goal). IfOk c.reach.result (HasStopped w run.csr.now words)) c.of.ensures.goal c.reach.ensures.stopped in
    let of_graph =
    subst (λ (x : Graph). IfOk c.reach.result (HasStopped wanted x words)) c.of.ensures.csr of_goal in
    let stopped = subst (λ (s : List Seed). IfOk c.reach.result (HasStopped wanted graph s)) from of_graph in
    IfOk-weaker c.reach.result (HasStopped wanted graph (seeds_of c.args.rest.labels))
    (HasReached wanted graph seeds)
    (λ reached is.
    is.stops seeds (c.resumed_runs_end_alike.ensures graph seeds c.args.rest reached.closed within pause is.end).0)
    stopped
