use Rattle.std.proofs.Common.{◌≡◌, ◌+◌, ◌≤◌, length, min, take, true}
use Rattle.std.specs.Prelude.{All, slice_index}
use Rattle.relax_core.specs.State.{mark_of}
use Rattle.near_labels.specs.Noted.{AreDropped, AreNoted}
use Rattle.near_labels.proofs.state.State.drop_past.Given as goal

abbrev pub invariant-loop-place : goal.invariant-loop-place
invariant-loop-place l = record {
  noted : AreNoted l.self.labels.items l.self.marks.items l.self.noted.items;
  list : l.self.noted.items ≡ l.fn.self.noted.items;
  marks : l.self.marks.items ≡ l.fn.self.marks.items;
  count : length l.self.labels.items ≡ length l.fn.self.labels.items;
  dropped : AreDropped l.but l.limit l.side.low l.side.labels.now l.fn.self.labels.items l.self.labels.items;
  far : All (λ v. mark_of l.fn.self.marks.items v ≡ true
      → l.limit ≤ slice_index l.fn.self.labels.items v + min (slice_index l.side.labels.now v) l.side.low)
      (take l.place l.fn.self.noted.items);
}
