-- What was joined, and what the parts left will add.
use Rattle.std.proofs.Common.{◌≡◌, ◌++◌, length, reverse}
use Rattle.obim_bags.specs.Logs.{all_of}
use Rattle.obim_bags.specs.Settling.{lists_of}
use Rattle.obim_bags.proofs.settle.flatten.Given as goal

abbrev pub invariant-loop-part : goal.invariant-loop-part
invariant-loop-part l =
    l.left.items ++ all_of (reverse (lists_of l.parts.items)) ≡ all_of (reverse (lists_of l.fn.parts.items))

abbrev pub decreases-loop-part : goal.decreases-loop-part
decreases-loop-part l = length l.parts.items
