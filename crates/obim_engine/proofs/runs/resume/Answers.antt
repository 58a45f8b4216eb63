-- No label is above what it was in the pause.
use Rattle.std.proofs.Common.{ap, subst, List, IfOk}
use Rattle.std.proofs.lemmas.Result.{IfOk-weaker}
use Rattle.route_walks.specs.declared.graph.Seed.{Seed}
use Rattle.route_walks.specs.Operators.{seeds_of}
use Rattle.csr_graph.specs.Graph.{Graph}
use Rattle.label_words.specs.declared.closed.Closed.{Closed}
use Rattle.label_words.specs.declared.known.Known.{Known}
use Rattle.label_words.specs.Closed.{IsEnd, AreNoHigher, closed_labels}
use Rattle.obim_engine.proofs.runs.resume.Goals as goal

pub returns-clause-lower : goal.returns-clause-lower
returns-clause-lower g c =
    let graph = c.args.csr.now in
    let seeds = ap (λ (k : Known). k.seeds) c.in_ok-opened.ensures in
    let words = c.in_ok-opened.opened.seat.known.seeds in
    let own =
    subst (λ (x : Graph). IfOk c.run_workers.result (λ (closed : Closed). IsEnd x words closed)) c.whole-run.ensures.csr
    c.run_workers.ensures.end in
    let end =
    subst (λ (s : List Seed). IfOk c.run_workers.result (λ (closed : Closed). IsEnd graph s closed)) seeds own in
    IfOk-weaker c.run_workers.result (IsEnd graph (seeds_of c.args.rest.labels))
    (λ closed. AreNoHigher (closed_labels closed) c.args.rest.labels)
    (λ closed ended.
    (c.resumed_runs_end_alike.ensures graph c.args.seeds.now c.args.rest closed c.requires.seeds c.requires.pause
    ended).1)
    end
