-- What was handed on at a refused push, and what the next one did.
use Rattle.std.proofs.Common.{ℕ, [], ◌∷◌, Bool, true, false}
use Rattle.std.specs.Bool.{OnFalse}
use Rattle.obim_pool.specs.Accounts.{Puts}
use Rattle.obim_pool.specs.Sides.{IsOwn, PushesNone, PushesTo, SideSeen, account_at}
use Rattle.obim_bags.proofs.Facts.{true_then}
use Rattle.obim_pool.proofs.Facts.{puts_then}
use Rattle.worklist_tests.proofs.pools.callers.push_stubbornly.Goals as goal

false_then : (P Q : Type 0) (b : Bool) → (P → Q) → OnFalse b P → OnFalse b Q
false_then P Q true then' was = tt
false_then P Q false then' was = then' was

none_then_none : (old mid new : SideSeen) → PushesNone old mid → PushesNone mid new → PushesNone old new
none_then_none old mid new first second place = puts_then [] [] _ _ _ (first place) (second place)

none_then_some : (metric v : ℕ) (old mid new : SideSeen) → PushesNone old mid → PushesTo metric v mid new
    → (place : ℕ) × IsOwn place metric new × Puts (v ∷ []) (account_at place old) (account_at place new)
none_then_some metric v old mid new first second =
    (second.place, second.own, puts_then [] (v ∷ []) _ _ _ (first second.place) second.here)

pub returns-clause-pushed : goal.returns-clause-pushed
returns-clause-pushed g c =
    true_then _ _ c.push-2.result
    (none_then_some c.args.metric c.args.v c.args.side.now c.push.new.side c.push-2.new.side
    c.if-push.ensures.refused) c.push-2.ensures.pushed

pub returns-clause-refused : goal.returns-clause-refused
returns-clause-refused g c =
    false_then _ _ c.push-2.result
    (none_then_none c.args.side.now c.push.new.side c.push-2.new.side c.if-push.ensures.refused)
    c.push-2.ensures.refused
