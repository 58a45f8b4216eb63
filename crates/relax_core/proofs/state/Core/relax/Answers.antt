-- The event of its name at the seat's view, and the ranges that a lawful core keeps.
use Rattle.std.proofs.Common.{◌≡◌, sym, ap, refl, ◌+◌, ◌<◌, length, arith}
use Rattle.std.proofs.lemmas.Bool.{lt-ltb, le-ltb}
use Rattle.csr_graph.proofs.Facts.{first_place_le}
use Rattle.relax_core.specs.State.{State}
use Rattle.relax_core.proofs.Enabled.{enabled, refused, arc_at_place, head_labelled}
use Rattle.relax_core.proofs.state.Core.relax.Goals as goal

pub returns-then-k-end : goal.returns-then-k-end
returns-then-k-end c = (
  refused c.args.self.now c.args.seat c.in-Some.view _ _ (sym c.in-Some.ensures.view)
      (rw c.in-Open.is (le-ltb c.in-Open.k _ (omega (arith, c.end.ensures.place)))),
  refl,
)

pub label-found-requires : goal.label-found-requires
label-found-requires c =
    head_labelled c.args.csr.now _ c.in-Open.u c.in-Open.k _ c.requires (omega (arith, c.end.ensures.place))
    c.target-head.ensures.head

pub index_mut-requires : goal.index_mut-requires
index_mut-requires c =
    let same : length c.self.inside.labels.items ≡ length c.args.self.now.labels =
    ap (λ (s : State). length s.labels) c.self.view_is in
    let within =
    head_labelled c.args.csr.now c.args.self.now c.in-Open.u c.in-Open.k c.target-head.result.head c.requires
    (omega (arith, c.end.ensures.place)) c.target-head.ensures.head in
    omega arith

pub returns : goal.returns
returns c =
    let place : c.in-Open.k < length c.args.csr.now.arcs =
    omega (arith, c.end.ensures.place, first_place_le c.args.csr.now.arcs (c.in-Open.u + 1)) in
    let head = arc_at_place (λ arc. arc.head ≡ c.target-head.result.head) c.args.csr.now c.in-Open.k place
    c.target-head.ensures.head in
    let weight = arc_at_place (λ arc. arc.weight ≡ c.target-head.result.weight) c.args.csr.now c.in-Open.k place
    c.target-head.ensures.weight in
    enabled c.args.self.now _ c.args.seat c.in-Some.view _ _ (sym c.in-Some.ensures.view)
    (rw c.in-Open.is (lt-ltb c.in-Open.k _ (omega (arith, c.end.ensures.place))))
    (rw (c.relax.ensures, c.in-Open.is, head, weight, c.min.ensures)
    (rw (c.offer-label.ensures, c.label-found.ensures, ← c.self.view_is) refl))
