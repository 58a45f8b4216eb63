-- One pass more has a place.
use Rattle.std.proofs.Common.{◌≡◌, ap, refl, [], ◌∷◌, Some}
use Rattle.std.proofs.lemmas.List.Elements.{All-append, All-cons, All-nil, All-pop}
use Rattle.obim_bags.specs.Bags.{BagSeen, PassSeen, new_pass}
use Rattle.obim_bags.specs.Logs.{AccessSeen}
use Rattle.obim_bags.specs.Entries.{IsUnclaimed}
use Rattle.obim_bags.proofs.entries.LogEntry.open.Goals as goal

place_unclaimed : (bag bag' : BagSeen) (pass : PassSeen) (place : AccessSeen) → pass ≡ new_pass bag → bag' ≡ bag
    → place ≡ record { bag = bag'; pass = pass } → IsUnclaimed bag (Some place)
place_unclaimed bag bag' pass place new same is found at =
    let e : found ≡ record { bag = bag; pass = new_pass bag } = cc (at, is, same, new) in
    (ap (λ (p : AccessSeen). p.bag) e, rw e refl)

pub loop-pass-preserved : goal.loop-pass-preserved
loop-pass-preserved g c =
    let bag = c.in_ok-bag-2.bag.value in
    let popped = All-pop (λ (pass : PassSeen). pass ≡ new_pass bag) _ _
    (Some c.in-Some.pass) c.in-Some.ensures.items c.loop-pass.invariant.passes in
    record {
      bag = refl;
      passes = popped.0;
      unclaimed =
          rw c.in_ok-push.ensures.items
          (All-append (IsUnclaimed bag) c.loop-pass.unclaimed.items
          (Some c.new-in-Some.result ∷ []) c.loop-pass.invariant.unclaimed
          (All-cons (IsUnclaimed bag) (Some c.new-in-Some.result) []
          (place_unclaimed bag _ _ _ popped.1 c.in_ok-bag-3.ensures c.new-in-Some.ensures)
          (All-nil (IsUnclaimed bag))));
    }
