use Rattle.std.proofs.Common.{arith}
use Rattle.cost_examples.proofs.Depots.{two-between, two-farther, two-nearer, two-same, two-same-next}
use Rattle.cost_examples.proofs.choice.third.Goals as goal

pub returns-then-best-new : goal.returns-then-best-new
returns-then-best-new c net v depots before now =
    two-same net v depots c.args.best c.args.next c.args.new.depot before c.if-best-new.true

pub returns-then-next-new : goal.returns-then-next-new
returns-then-next-new c net v depots before now =
    two-same-next net v depots c.args.best c.args.next c.args.new.depot before c.if-next-new.true

pub returns-then-new-best : goal.returns-then-new-best
returns-then-new-best c net v depots before now =
    two-nearer net v depots c.args.best c.args.next c.args.new before c.if-best-new.false
    (omega (arith, c.if-new-best.true)) now

pub returns-then-new-next : goal.returns-then-new-next
returns-then-new-next c net v depots before now =
    two-between net v depots c.args.best c.args.next c.args.new before c.if-best-new.false
    (omega (arith, c.if-new-best.false)) (omega (arith, c.if-new-next.true)) now

pub returns : goal.returns
returns c net v depots before now =
    two-farther net v depots c.args.best c.args.next c.args.new before (omega (arith, c.if-new-next.false)) now
