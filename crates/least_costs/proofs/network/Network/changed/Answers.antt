use Rattle.std.proofs.Common.{◌≡◌, ◌∙◌, ◌++◌, ◌<◌, ◌^◌, List, ℕ, ap, subst, sym}
use Rattle.std.specs.Prelude.{IfSome, IsNone, None, Option, Some}
use Rattle.std.proofs.lemmas.Bool.{false≢true}
use Rattle.std.proofs.lemmas.List.Elements.{All-append, All-filter, All-nil}
use Rattle.csr_graph.specs.Graph.{HaveSameRows}
use Rattle.route_walks.proofs.Facts.{same_arcs-append, same_arcs-trans}
use Rattle.route_walks.specs.declared.graph.ArcRec.{ArcRec}
use Rattle.route_walks.specs.Walk.{HaveSameArcs, IsArcBelow, IsGraph}
use Rattle.least_costs.specs.declared.cost.Cost.{Cost}
use Rattle.csr_graph.specs.Changes.{without}
use Rattle.least_costs.specs.Network.{AreLight, NetworkSeen, arcs_of}
use Rattle.least_costs.specs.Rows.{AreShortcutsOf}
use Rattle.least_costs.specs.declared.network.shortcuts.Shortcuts.{Shortcuts}
use Rattle.least_costs.proofs.Networks.{over-same}
use Rattle.least_costs.proofs.SameRows.{changed_arcs, same_arcs-filter}
use Rattle.least_costs.proofs.network.Network.changed.Goals.{in-Some, in-None}
use Rattle.least_costs.proofs.network.Network.changed.Goals as goal

-- none is of any kind
none-of : {X : Type 0} (P : X → Type 0) (found : Option X) → IsNone found → IfSome found P
none-of P None none = tt
none-of P (Some x) none = absurd (false≢true (sym none))

-- no hierarchy tells of any network
none-shortcuts : (net : NetworkSeen) (shortcuts : Option Shortcuts) → IfSome shortcuts (λ s. IsNone s.hierarchy)
    → IfSome shortcuts (AreShortcutsOf net)
none-shortcuts net None none = tt
none-shortcuts net (Some s) none = none-of _ s.hierarchy none

-- the weights stay small
light-after : (removed : List (ℕ × ℕ)) (before after added : List ArcRec) → AreLight before → AreLight added
    → HaveSameArcs after (without removed before ++ added) → AreLight after
light-after removed before after added light more same =
    let IsLight = λ (arc : ArcRec). arc.weight < 2 ^ 32 in
    over-same IsLight after _ same
    (All-append IsLight (without removed before) added (All-filter _ IsLight before light) more)

pub after-landmarks-requires-clause-light : goal.after-landmarks-requires-clause-light
after-landmarks-requires-clause-light c =
    let rows = c.in_ok-rows.ensures in
    record {
      few = rows.in_rows.vertices;
      ends = rows.in_rows.ends;
      light =
          light-after c.args.removed.now c.self.inside.rows.arcs c.in_ok-rows.rows.arcs _ c.self.invariant.network.light
          (rw c.deref.ensures.value c.in_ok-added.ensures.light) rows.arcs;
    }

pub after-landmarks-requires-clause-arcs : goal.after-landmarks-requires-clause-arcs
after-landmarks-requires-clause-arcs c =
    rw c.deref-in-Some.ensures.value (rw c.deref.ensures.value at c.in_ok-rows.ensures.arcs)

pub invariant_of-result : goal.invariant_of-result
invariant_of-result c =
    let rows = c.in_ok-rows.rows in
    record {
      network = record {
        few = c.in_ok-rows.ensures.in_rows.vertices;
        ends = c.in_ok-rows.ensures.in_rows.ends;
        light =
            light-after c.args.removed.now c.self.inside.rows.arcs rows.arcs _ c.self.invariant.network.light
            (rw c.deref.ensures.value c.in_ok-added.ensures.light) c.in_ok-rows.ensures.arcs;
        added_ends = subst (IsGraph rows.n) (sym c.new.ensures.items) (All-nil (IsArcBelow rows.n));
      };
      turned = tt;
      told =
          elim c.match-self.branch [
            | in-Some w ↦ rw w.landmarks-is w.after-landmarks.ensures
            | in-None w ↦ rw w.landmarks-is tt
          ];
      contracted =
          none-shortcuts
          (record { n = rows.n; cost = c.self.inside.cost; arcs = rows.arcs; added = c.new.result.items }) _ c.after.ensures;
    }

pub returns-clause-arcs : goal.returns-clause-arcs
returns-clause-arcs c arcs has =
    let net = c.args.self.now in
    let rows = c.in_ok-rows.rows in
    let gone = c.args.removed.now in
    let come = arcs_of net.cost c.args.added.now in
    let vertices : rows.n ≡ net.n = c.in_ok-rows.ensures.vertices ∙ ap (λ (w : NetworkSeen). w.n) c.self.view_is in
    let more : c.deref.result.now ≡ come = c.deref.ensures.value ∙ c.in_ok-added.ensures.exact in
    let same = subst (λ (l : List ArcRec). HaveSameRows c.self.inside.rows.n rows.arcs (without gone c.self.inside.rows.arcs ++ l))
    more c.in_ok-rows.ensures.rows in
    changed_arcs arcs come gone net
    (record { n = rows.n; cost = c.self.inside.cost; arcs = rows.arcs; added = c.new.result.items }) has
    (subst (IsGraph net.n) c.in_ok-added.ensures.exact c.in_ok-added.ensures.ends)
    (subst (λ (n : ℕ). IsGraph n rows.arcs) vertices c.in_ok-rows.ensures.in_rows.ends) vertices
    (subst (λ (w : NetworkSeen). HaveSameRows w.n rows.arcs (without gone w.arcs ++ come)) c.self.view_is same)

pub returns-clause-network : goal.returns-clause-network
returns-clause-network c n arcs are =
    let net = c.args.self.now in
    let rows = c.in_ok-rows.rows in
    let gone = c.args.removed.now in
    let added = c.args.added.now in
    let more : c.deref.result.now ≡ added =
    c.deref.ensures.value ∙ c.in_ok-added.ensures.exact ∙ ap (λ (kind : Cost). arcs_of kind added) are.kind_is in
    let same : HaveSameArcs rows.arcs (without gone net.arcs ++ added) =
    subst (λ (w : NetworkSeen). HaveSameArcs rows.arcs (without gone w.arcs ++ added)) c.self.view_is
    (subst (λ (l : List ArcRec). HaveSameArcs rows.arcs (without gone c.self.inside.rows.arcs ++ l)) more
    c.in_ok-rows.ensures.arcs) in
    record {
      vertices = c.in_ok-rows.ensures.vertices ∙ ap (λ (w : NetworkSeen). w.n) c.self.view_is ∙ are.vertices;
      kind_is = ap (λ (w : NetworkSeen). w.cost) c.self.view_is ∙ are.kind_is;
      along =
          same_arcs-trans rows.arcs (without gone net.arcs ++ added) (without gone arcs ++ added) same
          (same_arcs-append (without gone net.arcs) (without gone arcs) added added
          (same_arcs-filter _ net.arcs arcs are.along) (λ arc. (λ here. here, λ here. here)));
    }
