-- The first place still has the metric, and no metric stands twice.
use Rattle.std.proofs.Common.{◌≡◌, ℕ, Some}
use Rattle.std.specs.Prelude.{slice_get}
use Rattle.obim_bags.specs.Bags.{BagSeen}
use Rattle.obim_bags.specs.Logs.{Gains, MirrorSeen, AccessSeen, metrics_in}
use Rattle.obim_bags.proofs.Facts.{prefix_get, prefix_map}
use Rattle.worklist_tests.proofs.bags.callers.ask_twice.Goals as goal

one_place : (old new : MirrorSeen) (metric first second : ℕ) → Gains old new
    → slice_get (metrics_in old.accesses) first ≡ Some metric
    → slice_get (metrics_in new.accesses) second ≡ Some metric → first ≡ second
one_place old new metric first second gains was is =
    let kept = prefix_map (λ (bag : BagSeen). bag.metric) _ _
    (prefix_map (λ (access : AccessSeen). access.bag) old.accesses new.accesses gains.kept) in
    gains.distinct second first metric is
    (prefix_get (metrics_in old.accesses) (metrics_in new.accesses) first metric kept was)

pub returns-clause-same : goal.returns-clause-same
returns-clause-same g c =
    one_place _ _ c.args.metric c.in_ok-first.first c.in_ok-second.second c.in_ok-second.ensures.gains
    c.in_ok-first.ensures.place c.in_ok-second.ensures.place
