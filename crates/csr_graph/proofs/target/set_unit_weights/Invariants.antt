use Rattle.std.proofs.Common.{◌≡◌, ◌++◌, map, take, drop}
use Rattle.csr_graph.specs.Layout.{unit_target}
use Rattle.csr_graph.proofs.target.set_unit_weights.Given as goal

abbrev pub invariant-loop-target : goal.invariant-loop-target
invariant-loop-target l =
    l.targets ≡ map unit_target (take l.target-index l.initial.targets) ++ drop l.target-index l.initial.targets
