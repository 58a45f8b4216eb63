-- Both passes stay of the bag.
use Rattle.obim_bags.specs.Bags.{IsPassOf}
use Rattle.worklist_tests.proofs.bags.refusals.hand_over.Given as goal

abbrev pub invariant-loop-serial : goal.invariant-loop-serial
invariant-loop-serial g l = IsPassOf l.bag l.first × IsPassOf l.bag l.second
