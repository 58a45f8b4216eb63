use Rattle.std.proofs.Common.{◌≡◌, length}
use Rattle.route_walks.specs.Operators.{seeds_from}
use Rattle.label_words.specs.Paused.{IsPause}
use Rattle.near_labels.specs.Noted.{AreNoted, rest_of}
use Rattle.near_labels.proofs.both_ends.come_near.Given as goal

abbrev pub invariant-loop : goal.invariant-loop
invariant-loop l = record {
  pause : IsPause l.ways.csr.now (seeds_from l.source) (rest_of l.forward.labels.items l.forward.marks.items);
  pause_backward : IsPause l.ways.reversed.now (seeds_from l.target) (rest_of l.backward.labels.items l.backward.marks.items);
  noted : AreNoted l.forward.labels.items l.forward.marks.items l.forward.noted.items;
  noted_backward : AreNoted l.backward.labels.items l.backward.marks.items l.backward.noted.items;
  count : length l.forward.labels.items ≡ length l.fn.forward.labels.items;
  count_backward : length l.backward.labels.items ≡ length l.fn.backward.labels.items;
}
