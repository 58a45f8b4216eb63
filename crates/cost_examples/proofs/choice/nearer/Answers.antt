use Rattle.cost_examples.proofs.Depots.{first}
use Rattle.cost_examples.proofs.choice.nearer.Goals as goal

pub returns-in-Nowhere : goal.returns-in-Nowhere
returns-in-Nowhere c net v depots before now = first net v depots c.args.new (rw c.in-Nowhere.is at before) now

pub returns-in-One : goal.returns-in-One
returns-in-One c net v depots before now = c.second.ensures net v depots (rw c.in-One.is at before) now

pub returns-in-Two : goal.returns-in-Two
returns-in-Two c net v depots before now = c.third.ensures net v depots (rw c.in-Two.is at before) now
