use Rattle.std.proofs.Common.{◌<◌}
use Rattle.std.specs.Prelude.{IfSome}
use Rattle.least_costs.proofs.preparing.choosing.Choice.next.Given as goal

abbrev pub invariant-loop-v : goal.invariant-loop-v
invariant-loop-v l = IfSome l.farthest (λ v. v < l.network.n)
