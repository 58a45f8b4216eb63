use Rattle.obim_bags.proofs.Facts.{none_then, some_then}
use Rattle.obim_pool.proofs.Popping.{tried_below, tried_none}
use Rattle.obim_pool.proofs.side.ObimSide.pop_far.Goals as goal

pub returns-in-None-clause-below : goal.returns-in-None-clause-below
returns-in-None-clause-below g c =
    some_then _ _ c.pop_lowest.result
    (λ v lowest. tried_below c.in-None.ensures.none lowest) c.pop_lowest.ensures.popped

pub returns-in-None-clause-none : goal.returns-in-None-clause-none
returns-in-None-clause-none g c =
    none_then _ _ c.pop_lowest.result (λ all. tried_none c.in-None.ensures.none all) c.pop_lowest.ensures.none
