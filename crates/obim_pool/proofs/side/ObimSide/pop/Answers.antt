use Rattle.std.proofs.Common.{subst}
use Rattle.std.specs.Prelude.{IfSome}
use Rattle.obim_pool.specs.Sides.{HasLookedBelow, SideSeen}
use Rattle.obim_pool.proofs.side.ObimSide.pop.Goals as goal

pub returns-clause-below : goal.returns-clause-below
returns-clause-below g c =
    subst (λ (side : SideSeen). IfSome c.pop_far.result (λ v. HasLookedBelow side c.pop_far.new.self))
    c.in_default.ensures.unchanged
    c.pop_far.ensures.below
