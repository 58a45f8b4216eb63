use Rattle.std.proofs.Common.{◌≡◌, take}
use Rattle.obim_engine.specs.Grown.{TailsAreMarked}
use Rattle.obim_engine.proofs.growing.grow.Given as goal

abbrev pub invariant-loop-arc : goal.invariant-loop-arc
invariant-loop-arc l =
    (l.rest.labels ≡ l.fn.rest.labels)
    × TailsAreMarked (take l.arc-index l.added) l.fn.rest.marks l.rest.marks
