use Rattle.cost_examples.proofs.Depots.{none-more}
use Rattle.cost_examples.proofs.choice.with_depot.Goals as goal

pub returns-in-None : goal.returns-in-None
returns-in-None c net v depots before told =
    none-more net v depots c.args.depot c.args.found before (rw c.in-None.is at told)

pub returns-in-Some : goal.returns-in-Some
returns-in-Some c net v depots before told = c.nearer.ensures net v depots before (rw c.in-Some.is at told)
