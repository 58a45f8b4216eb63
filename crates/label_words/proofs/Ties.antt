-- After a call the seat is tied to what it knows; and what an open seat faces.
use Rattle.std.proofs.Common.{◌≡◌, ◌≢◌, ◌∙◌, ◌<◌, sym, ap, length, ℕ, arith}
use Rattle.std.specs.Prelude.{IfSome, slice_get}
use Rattle.atomic_table.specs.Seated.{TableId}
use Rattle.atomic_table.specs.Table.{Me}
use Rattle.route_walks.specs.Label.{offer}
use Rattle.csr_graph.specs.Graph.{Graph, end_place}
use Rattle.relax_core.specs.declared.views.Hand.{Hand}
use Rattle.relax_core.specs.declared.views.Hand.TheVariants.{Open}
use Rattle.relax_core.specs.declared.views.View.{View}
use Rattle.relax_core.specs.Views.{HasNextArc, next_arc, next_offer}
use Rattle.relax_core.proofs.Facts.{next_place, arc_at_place}
use Rattle.label_words.specs.declared.known.Known.{Known}
use Rattle.label_words.specs.Seats.{FitsGraph, IsReady, IsTied}

pub tied : {words words' : TableId} {known w : Known} {view view' : View} (me : Me (Unit {0}) Known)
    → IsTied words known view → words' ≡ words → me.0 ≡ w → w.graph ≡ known.graph → view' ≡ w.view → IsReady me.0
    → IsTied words' me.0 view'
tied {words} {words'} {known} {w} {view} {view'} me was same is graph view_is ready = record {
  view_is = view_is ∙ ap (λ (k : Known). k.view) (sym is);
  count = rw (same, is, graph) was.count;
  no_slots = rw same was.no_slots;
  ready = ready;
}

-- the next arc of an open hand, and what it offers its head
pub record Faces (graph : Graph) (hand : Hand) (head label : ℕ) : Type 0 where
  pub before : HasNextArc graph hand
  pub heads : (next_arc graph hand).head ≡ head
  pub offers : next_offer graph hand ≡ label

pub faces_within : {csr graph : Graph} {hand : Hand} {u d k end : ℕ}
    → csr ≡ graph → hand ≡ Open u d k → FitsGraph graph hand → end ≡ end_place csr.arcs u → k ≢ end
    → k < length csr.arcs
faces_within {graph = graph} {u = u} {d = d} {k = k} {end = end} same is fits end_is more =
    let fits' = rw is at fits in
    let row : end ≡ end_place graph.arcs u = rw (← same) end_is in
    let before : HasNextArc graph (Open u d k) = omega (arith, fits'.1) in
    rw same (next_place graph (Open u d k) before)

pub faces : {csr graph : Graph} {hand : Hand} {u d k end head label : ℕ} (weight : ℕ)
    → csr ≡ graph → hand ≡ Open u d k → FitsGraph graph hand → end ≡ end_place csr.arcs u → k ≢ end
    → IfSome (slice_get csr.arcs k) (λ arc. arc.head ≡ head)
    → IfSome (slice_get csr.arcs k) (λ arc. arc.weight ≡ weight)
    → label ≡ offer d weight → Faces graph hand head label
faces {graph} {hand} {u} {d} {k} {end} {head} weight same is fits end_is more head_is weight_is label_is =
    let fits' = rw is at fits in
    let row : end ≡ end_place graph.arcs u = rw (← same) end_is in
    let before : HasNextArc graph (Open u d k) = omega (arith, fits'.1) in
    let place = next_place graph (Open u d k) before in
    rw is (record {
      before = before;
      heads = arc_at_place (λ arc. arc.head ≡ head) graph k place (rw (← same) head_is);
      offers =
          rw (arc_at_place (λ arc. arc.weight ≡ weight) graph k place (rw (← same) weight_is)) (sym label_is);
    })
