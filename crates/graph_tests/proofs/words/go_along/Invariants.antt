use Rattle.label_words.specs.Callers.{Stays}
use Rattle.graph_tests.proofs.words.go_along.Given as goal

abbrev pub invariant-loop-i : goal.invariant-loop-i
invariant-loop-i g l = Stays l.fn.left l.left × Stays l.fn.right l.right
