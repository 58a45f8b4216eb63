use Rattle.std.proofs.Common.{◌≡◌, length}
use Rattle.near_labels.specs.Noted.{AreNoted}
use Rattle.near_labels.proofs.state.State.wipe.Given as goal

abbrev pub invariant-loop-v : goal.invariant-loop-v
invariant-loop-v l = record {
  noted : AreNoted l.self.labels.items l.self.marks.items l.self.noted.items;
  count : length l.self.labels.items ≡ length l.fn.self.labels.items;
}

abbrev pub decreases-loop-v : goal.decreases-loop-v
decreases-loop-v l = length l.self.noted.items
