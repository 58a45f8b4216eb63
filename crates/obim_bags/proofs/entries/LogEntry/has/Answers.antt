-- A place that was looked up is there.
use Rattle.std.proofs.Common.{◌≡◌, ◌∙◌, ap, refl, Some, None}
use Rattle.std.specs.Prelude.{Option, is_some, IsTrue}
use Rattle.obim_bags.specs.Logs.{AccessSeen}
use Rattle.obim_bags.proofs.Listed.{found_at}
use Rattle.obim_bags.proofs.entries.LogEntry.has.Goals as goal

there : (found : Option AccessSeen) → IsTrue (is_some found) → (place : AccessSeen) × (found ≡ Some place)
there None some = absurd cc
there (Some place) some = (place, refl)

pub returns-in-Some : goal.returns-in-Some
returns-in-Some c some =
    let at = found_at c.deref.result.now c.args.worker c.in-Some.place.now c.in-Some.ensures.lookup.3.0
    c.in-Some.ensures.lookup.1 in
    let place = there c.in-Some.place.now (rw c.is_some.ensures at some) in
    (place.0, rw (← c.self.view_is, ← c.deref.ensures.value) (at ∙ ap Some place.1))
