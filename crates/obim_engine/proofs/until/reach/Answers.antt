-- What each of the three ends gives.
use Rattle.std.proofs.Common.{ap, subst, sym, List, ℕ}
use Rattle.route_walks.specs.declared.graph.Seed.{Seed}
use Rattle.route_walks.specs.Label.{AreLeastLabels}
use Rattle.route_walks.specs.Operators.{seeds_of}
use Rattle.route_walks.specs.Walk.{AreSeeds}
use Rattle.csr_graph.specs.Graph.{Graph}
use Rattle.label_words.specs.declared.closed.Closed.{Closed}
use Rattle.label_words.specs.declared.closed.Closed.TheVariants.{Paused, Settled}
use Rattle.label_words.specs.declared.known.Known.{Known}
use Rattle.label_words.specs.Closed.{IsEnd}
use Rattle.label_words.specs.Paused.{IsPause}
use Rattle.obim_engine.specs.declared.goal.GoalResult.{GoalResult}
use Rattle.obim_engine.specs.Goal.{HasStopped, IsNear, IsServedBy, Stops, limit_for_all}
use Rattle.obim_engine.proofs.Stopping.{settled_stops, paused_stops}
use Rattle.obim_engine.proofs.until.reach.Goals as goal

pub returns-in-Settled-clause-stopped : goal.returns-in-Settled-clause-stopped
returns-in-Settled-clause-stopped g c =
    let run = c.args.run.now in
    let graph = run.csr.now in
    let seeds = c.args.opened.seat.known.seeds in
    subst (λ (r : GoalResult). HasStopped run.goal graph seeds r) (sym c.settled.ensures)
    (record {
      end = subst (λ (x : Closed). IsEnd graph seeds x) c.in-Settled.is c.in_ok-labels.ensures.end;
      stops = settled_stops run.goal graph c.in-Settled.labels c.requires.goal;
    })

pub returns-then-has_none_left-clause-stopped : goal.returns-then-has_none_left-clause-stopped
returns-then-has_none_left-clause-stopped g c =
    let run = c.args.run.now in
    let graph = run.csr.now in
    let seeds = c.args.opened.seat.known.seeds in
    let limit = c.limit_of-limit.result in
    let served =
    subst (λ (labels : List ℕ). IsServedBy run.goal labels (limit_for_all run.goal limit)) c.labels.ensures
    c.limit_of-limit.ensures.served in
    let near = subst (λ (labels : List ℕ). IsNear run.goal labels limit) c.labels.ensures c.limit_of-limit.ensures.near in
    let none = c.has_none_left.ensures c.if-has_none_left.true in
    record {
      end = subst (λ (x : Closed). IsEnd graph seeds x) c.in-Paused.is c.in_ok-labels.ensures.end;
      stops =
          subst (λ (l : ℕ). Stops run.goal graph record { closed = Paused c.in-Paused.rest; limit = l })
          (sym c.limit_for_all-limit.ensures)
          (paused_stops run.goal graph c.in-Paused.rest limit c.n-n.ensures.in_rows c.requires.goal none served near);
    }

pub returns-clause-stopped : goal.returns-clause-stopped
returns-clause-stopped g c =
    let run = c.args.run.now in
    let graph = run.csr.now in
    let seeds = c.args.opened.seat.known.seeds in
    let rest = c.in-Paused.rest in
    let labels = c.in_ok-labels-2.labels in
    let pause : IsPause graph seeds rest =
    subst (λ (x : Closed). IsEnd graph seeds x) c.in-Paused.is c.in_ok-labels.ensures.end in
    let within : AreSeeds graph.n seeds =
    subst (λ (x : Graph). AreSeeds x.n seeds) (sym c.requires.seat.graph_is) c.args.opened.seeds_are in
    let from = ap (λ (k : Known). k.seeds) c.in_ok-opened.ensures in
    let found : IsEnd graph (seeds_of rest.labels) (Settled labels) =
    subst (λ (s : List Seed). AreLeastLabels graph.n graph.arcs s labels.items) from
    (subst (λ (x : Graph). AreLeastLabels x.n x.arcs c.in_ok-opened.opened.seat.known.seeds labels.items)
    c.to_end.ensures.csr c.in_ok-labels-2.ensures.labels) in
    subst (λ (r : GoalResult). HasStopped run.goal graph seeds r) (sym c.settled-2.ensures)
    (record {
      end = (c.resumed_runs_end_alike.ensures graph seeds rest (Settled labels) within pause found).0;
      stops = settled_stops run.goal graph labels c.requires.goal;
    })
