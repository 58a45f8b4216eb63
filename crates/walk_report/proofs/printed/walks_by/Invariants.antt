use Rattle.std.proofs.Common.{◌≡◌, map, take}
use Rattle.walk_report.specs.Told.{walk_by, walks_in}
use Rattle.walk_report.proofs.printed.walks_by.Given as goal

abbrev pub invariant-loop-target : goal.invariant-loop-target
invariant-loop-target l = walks_in l.walks.items ≡ map (walk_by l.hops l.parents) (take l.target-index l.targets)
