use Rattle.std.proofs.Common.{◌≡◌, length}
use Rattle.cost_examples.proofs.print_each.Given as goal

abbrev pub invariant-loop-found : goal.invariant-loop-found
invariant-loop-found g l = l.each.net.n ≡ 3

abbrev pub decreases-loop-found : goal.decreases-loop-found
decreases-loop-found g l = length l.each.left
