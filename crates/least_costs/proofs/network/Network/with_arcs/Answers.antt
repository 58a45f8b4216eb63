use Rattle.std.proofs.Common.{◌++◌, ◌<◌, ◌^◌, [], refl, subst, sym}
use Rattle.std.proofs.lemmas.List.Elements.{All-append}
use Rattle.route_walks.specs.declared.graph.ArcRec.{ArcRec}
use Rattle.route_walks.specs.Walk.{HaveSameArcs, IsGraph}
use Rattle.least_costs.specs.Network.{NetworkSeen}
use Rattle.least_costs.proofs.BetweenLemmas.{none_removed}
use Rattle.least_costs.proofs.Networks.{over-same}
use Rattle.least_costs.proofs.network.Network.with_arcs.Goals as goal

pub invariant_of-result : goal.invariant_of-result
invariant_of-result c =
    let before = c.self.inside.rows in
    let rows = c.in_ok-rows.rows in
    let IsLight = λ (arc : ArcRec). arc.weight < 2 ^ 32 in
    let more = c.deref.result.now in
    let same : HaveSameArcs rows.arcs (before.arcs ++ more) =
    rw (← none_removed [] before.arcs refl) at c.in_ok-rows.ensures.arcs in
    record {
      network = record {
        few = c.in_ok-rows.ensures.in_rows.vertices;
        ends = c.in_ok-rows.ensures.in_rows.ends;
        light =
            over-same IsLight rows.arcs (before.arcs ++ more) same
            (All-append IsLight before.arcs more c.self.invariant.network.light
            (rw c.deref.ensures.value c.in_ok-added.ensures.light));
        added_ends =
            rw c.in_ok-rows.ensures.vertices
            (subst (λ (w : NetworkSeen). IsGraph w.n c.in_ok-added.added.items) (sym c.self.view_is)
            c.in_ok-added.ensures.ends);
      };
      turned = tt;
      told = tt;
      contracted = tt;
    }

pub returns-clause-grown : goal.returns-clause-grown
returns-clause-grown c =
    rw (← c.self.view_is)
    (record {
      vertices = c.in_ok-rows.ensures.vertices;
      along = rw (c.deref.ensures.value, ← none_removed [] c.self.inside.rows.arcs refl) at c.in_ok-rows.ensures.arcs;
    })
