use Rattle.std.proofs.Common.{◌≡◌, ℕ, ◌<◌, length, take}
use Rattle.std.specs.Prelude.{All, Contains, slice_index}
use Rattle.route_walks.specs.declared.graph.ArcRec.{ArcRec}
use Rattle.hierarchy.specs.Toward.{AreSeen}
use Rattle.hierarchy.proofs.toward.is_upward.Given as goal

abbrev pub invariant-loop-v : goal.invariant-loop-v
invariant-loop-v l = record {
  count : length l.seen ≡ length l.fn.seen;
  seen : AreSeen l.order l.v-index l.seen;
  order : All (λ v. v < l.down.n) (take l.v-index l.order);
  upward :
      (k : ℕ) → k < l.v-index → (arc : ArcRec) → Contains l.down.arcs arc → arc.tail ≡ slice_index l.order k
      → (j : ℕ) × (j < k) × (slice_index l.order j ≡ arc.head);
}
