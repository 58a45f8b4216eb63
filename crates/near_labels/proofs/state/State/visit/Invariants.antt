use Rattle.std.proofs.Common.{◌≡◌, length}
use Rattle.route_walks.specs.Operators.{seeds_from}
use Rattle.near_labels.specs.Noted.{AreNoted}
use Rattle.near_labels.proofs.Lowering.{IsVisiting}
use Rattle.near_labels.proofs.state.State.visit.Given as goal

abbrev pub invariant-loop-head : goal.invariant-loop-head
invariant-loop-head l = record {
  visiting :
      IsVisiting l.csr (seeds_from l.source) l.self.labels.items l.self.marks.items l.u l.d l.row l.head-index;
  noted : AreNoted l.self.labels.items l.self.marks.items l.self.noted.items;
  count : length l.self.labels.items ≡ length l.fn.self.labels.items;
}
