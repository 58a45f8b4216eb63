use Rattle.std.proofs.Common.{arith}
use Rattle.cost_examples.proofs.Depots.{one-farther, one-nearer, one-same}
use Rattle.cost_examples.proofs.choice.second.Goals as goal

pub returns-then-best-new : goal.returns-then-best-new
returns-then-best-new c net v depots before now = one-same net v depots c.args.best c.args.new.depot before c.if-best-new.true

pub returns-then-new-best : goal.returns-then-new-best
returns-then-new-best c net v depots before now =
    one-nearer net v depots c.args.best c.args.new before c.if-best-new.false (omega (arith, c.if-new-best.true)) now

pub returns : goal.returns
returns c net v depots before now =
    one-farther net v depots c.args.best c.args.new before c.if-best-new.false (omega (arith, c.if-new-best.false)) now
