use Rattle.std.proofs.Common.{◌≡◌, length}
use Rattle.std.specs.Prelude.{slice_index}
use Rattle.near_labels.specs.Noted.{AreNoted}
use Rattle.near_labels.specs.Sweep.{AreSwept, IsSweeping}
use Rattle.near_labels.proofs.sweep.sweep.Given as goal

abbrev pub invariant-loop-v : goal.invariant-loop-v
invariant-loop-v l = record {
  count : length l.state.labels.items ≡ length l.fn.state.labels.items;
  noted : AreNoted l.state.labels.items l.state.marks.items l.state.noted.items;
  sweeping : IsSweeping l.up.arcs l.down.arcs l.source l.down.n (slice_index l.state.labels.items);
  swept : AreSwept l.up.arcs l.down.arcs l.source l.order l.v-index (slice_index l.state.labels.items);
}
