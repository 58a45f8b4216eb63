use Rattle.std.proofs.Common.{◌≡◌, length}
use Rattle.route_walks.specs.Operators.{seeds_from}
use Rattle.label_words.specs.Paused.{IsPause}
use Rattle.near_labels.specs.Noted.{AreNoted, rest_of}
use Rattle.near_labels.proofs.search.go_on.Given as goal

abbrev pub invariant-loop : goal.invariant-loop
invariant-loop l = record {
  pause : IsPause l.csr (seeds_from l.source) (rest_of l.state.labels.items l.state.marks.items);
  noted : AreNoted l.state.labels.items l.state.marks.items l.state.noted.items;
  count : length l.state.labels.items ≡ length l.fn.state.labels.items;
}
