use Rattle.std.proofs.Common.{◌≡◌, length}
use Rattle.route_walks.specs.Operators.{seeds_from}
use Rattle.label_words.specs.Paused.{IsPause}
use Rattle.near_labels.specs.Noted.{AreNoted, rest_of}
use Rattle.near_labels.proofs.both_ends.go_on_toward.Given as goal

abbrev pub invariant-loop : goal.invariant-loop
invariant-loop l = record {
  pause : IsPause l.csr (seeds_from l.source) (rest_of l.forward.labels.items l.forward.marks.items);
  noted : AreNoted l.forward.labels.items l.forward.marks.items l.forward.noted.items;
  count : length l.forward.labels.items ≡ length l.fn.forward.labels.items;
}
