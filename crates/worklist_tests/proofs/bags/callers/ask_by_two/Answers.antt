-- Both mirrors have a beginning of one list of bags, in which no metric stands twice.
use Rattle.std.proofs.Common.{◌≡◌, ℕ, List, [], ◌∷◌, Some}
use Rattle.std.specs.Prelude.{slice_get}
use Rattle.std.proofs.lemmas.List.Elements.{All-head, All-tail}
use mathlib.Core.List.{IsPrefix}
use Rattle.obim_bags.specs.Chunks.{ChunkSeen}
use Rattle.obim_bags.specs.Bags.{BagSeen}
use Rattle.obim_bags.specs.Logs.{IsLogSettled, MirrorSeen, bags_in, metrics_in, metrics_of}
use Rattle.obim_bags.proofs.Facts.{prefix_get, prefix_map}
use Rattle.worklist_tests.proofs.bags.callers.ask_by_two.Goals as goal

one_place : (first second : MirrorSeen) (left : List ChunkSeen) (metric place other : ℕ)
    → IsLogSettled (first ∷ second ∷ []) left
    → slice_get (metrics_in first.accesses) place ≡ Some metric
    → slice_get (metrics_in second.accesses) other ≡ Some metric → place ≡ other
one_place first second left metric place other settled was is =
    let P = λ (mirror : MirrorSeen). IsPrefix (bags_in mirror.accesses) settled.bags in
    let metric_of = λ (bag : BagSeen). bag.metric in
    let one = prefix_map metric_of (bags_in first.accesses) settled.bags
    (All-head P first (second ∷ []) settled.prefixes) in
    let two = prefix_map metric_of (bags_in second.accesses) settled.bags
    (All-head P second [] (All-tail P first (second ∷ []) settled.prefixes)) in
    settled.distinct other place metric
    (prefix_get (metrics_in second.accesses) (metrics_of settled.bags) other metric two is)
    (prefix_get (metrics_in first.accesses) (metrics_of settled.bags) place metric one was)

pub returns : goal.returns
returns g c =
    one_place _ _ _ c.args.metric c.place_in-place.result c.place_in-other.result c.in_ok-drain_by.ensures.settled
    c.place_in-place.ensures.place c.place_in-other.ensures.place
