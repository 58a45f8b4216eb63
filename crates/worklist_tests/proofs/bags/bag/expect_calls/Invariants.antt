-- The passes stay those of the bag.
use Rattle.std.specs.Prelude.{All}
use Rattle.obim_bags.specs.Bags.{IsPassOf}
use Rattle.worklist_tests.proofs.bags.bag.expect_calls.Given as goal

abbrev pub invariant-loop-at : goal.invariant-loop-at
invariant-loop-at g l = All (IsPassOf l.bag) l.passes
