-- What a side gains: accesses of its mirror, and room for them.
use Rattle.std.proofs.Common.{◌≡◌, ◌∙◌, ap, refl, subst, sym, ℕ, zero, suc, ◌<◌, ◌≤◌, List, [], ◌∷◌, ◌++◌, drop}
use Rattle.std.proofs.Common.{length, get_or, Result, Ok, Err, OnErr, OnOk, None, Some, arith, length-append}
use Rattle.std.specs.Prelude.{All, slice_get}
use Rattle.std.proofs.lemmas.List.{map-append}
use Rattle.std.proofs.lemmas.List.Elements.{All-head, All-tail}
use mathlib.Core.List.{IsPrefix}
use Rattle.obim_bags.proofs.Facts.{prefix_get, prefix_length, prefix_map, prefix_self, prefix_trans}
use Rattle.obim_bags.specs.Bags.{BagSeen, PassSeen}
use Rattle.obim_bags.specs.Logs.{Gains, IsNew, MirrorSeen, AccessSeen, bags_in, metrics_in}
use Rattle.obim_pool.specs.declared.chunks.BagChunks.{BagChunks}
use Rattle.obim_pool.specs.declared.order.OwnBag.{OwnBag}
use Rattle.obim_pool.specs.Accounts.{Account, account_of}
use Rattle.obim_pool.specs.Held.{all_held, held_of}
use Rattle.obim_pool.specs.Orders.{IsOrder}
use Rattle.obim_pool.specs.Sides.{account_in}
use Rattle.obim_pool.specs.Steps.{Grows}

-- the account of a place with this pass
abbrev account_with : List ℕ → PassSeen → Account
account_with held pass = record { put = pass.tally.put; got = pass.tally.got; empties = pass.empties; held = held }

-- the account of a new place is that of no place
account_new : (held : List ℕ) (i : ℕ) (accesses : List AccessSeen) → All IsNew accesses
    → account_of (slice_get accesses i) held ≡ account_of None held
account_new held i [] new = refl
account_new held zero (p ∷ ps) new = ap (account_with held) (All-head IsNew p ps new)
account_new held (suc i) (p ∷ ps) new = account_new held i ps (All-tail IsNew p ps new)

-- new accesses behind the others change no account
account_longer : (held : List ℕ) (i : ℕ) (old new : List AccessSeen) → IsPrefix old new
    → All IsNew (drop (length old) new)
    → account_of (slice_get new i) held ≡ account_of (slice_get old i) held
account_longer held i [] new longer gained = account_new held i new gained
account_longer held i (x ∷ old) [] longer gained = absurd (cc (longer.1))
account_longer held zero (x ∷ old) (y ∷ new) longer gained =
    let first : y ≡ x = cc (longer.1) in ap (λ (p : AccessSeen). account_of (Some p) held) first
account_longer held (suc i) (x ∷ old) (y ∷ new) longer gained =
    account_longer held i old new (longer.0, cc (longer.1)) gained

-- The mirror may have accesses more. No account changed, whatever is held.
pub record IsLonger (old new : MirrorSeen) : Type 0 where
  pub log : new.log ≡ old.log
  pub bags : IsPrefix (metrics_in old.accesses) (metrics_in new.accesses)
  pub accesses : length old.accesses ≤ length new.accesses
  pub accounts : (place : ℕ) (held : List (List ℕ))
      → account_in place new.accesses held ≡ account_in place old.accesses held

pub longer_gains : (old new : MirrorSeen) → Gains old new → IsLonger old new
longer_gains old new gains = record {
  log = gains.log;
  bags = prefix_map (λ (bag : BagSeen). bag.metric) (bags_in old.accesses) (bags_in new.accesses)
      (prefix_map (λ (p : AccessSeen). p.bag) old.accesses new.accesses gains.kept);
  accesses = prefix_length old.accesses new.accesses gains.kept;
  accounts = λ place held. account_longer
      (get_or held place []) place old.accesses new.accesses gains.kept gains.gained;
}

pub longer_same : (old new : MirrorSeen) → new ≡ old → IsLonger old new
longer_same old new same = subst (IsLonger old) (sym same) record {
  log = refl;
  bags = prefix_self (metrics_in old.accesses);
  accesses = omega arith;
  accounts = λ place held. refl;
}

-- after a call that gains accesses or is refused
pub longer_after : {A E : Type 0} (old new : MirrorSeen) (answer : Result A E) → OnOk answer (Gains old new)
    → OnErr answer (new ≡ old) → IsLonger old new
longer_after old new (Ok x) gains same = longer_gains old new gains
longer_after old new (Err e) gains same = longer_same old new same

-- a longer mirror, with the room as it was
pub grows_longer : (old new : MirrorSeen) (chunks : List BagChunks) → length chunks ≤ length old.accesses
    → IsLonger old new
    → Grows old chunks new chunks
grows_longer old new chunks fits longer = record {
  log = longer.log;
  bags = longer.bags;
  own = omega arith;
  fits = omega (arith, longer.accesses);
  accounts = λ place. longer.accounts place (all_held chunks);
}

-- a list reads the same with what is read past its end put behind it
get_or_snoc : {A : Type 0} (xs : List A) (d : A) (i : ℕ) → get_or (xs ++ d ∷ []) i d ≡ get_or xs i d
get_or_snoc [] d zero = refl
get_or_snoc [] d (suc i) = refl
get_or_snoc (x ∷ xs) d zero = refl
get_or_snoc (x ∷ xs) d (suc i) = get_or_snoc xs d i

-- room for one bag more, of which nothing is held
pub grows_room : (m : MirrorSeen) (chunks : List BagChunks) (k : BagChunks) → length chunks < length m.accesses
    → held_of k ≡ []
    → Grows m chunks m (chunks ++ k ∷ [])
grows_room m chunks k less none = record {
  log = refl;
  bags = prefix_self (metrics_in m.accesses);
  own = omega (arith, length-append chunks (k ∷ []));
  fits = omega (arith, length-append chunks (k ∷ []));
  accounts = λ place.
      let held : all_held (chunks ++ k ∷ []) ≡ all_held chunks ++ [] ∷ [] =
      map-append held_of chunks (k ∷ []) ∙ ap (λ h. all_held chunks ++ h ∷ []) none in
      ap (account_of (slice_get m.accesses place))
      (ap (λ (l : List (List ℕ)). get_or l place []) held ∙ get_or_snoc (all_held chunks) [] place);
}

-- what grew, and grew again
pub grows_then : {a b c : MirrorSeen} {ka kb kc : List BagChunks} → Grows a ka b kb → Grows b kb c kc → Grows a ka c kc
grows_then {a} {b} {c} first second = record {
  log = second.log ∙ first.log;
  bags = prefix_trans (metrics_in a.accesses) (metrics_in b.accesses) (metrics_in c.accesses) first.bags second.bags;
  own = omega (arith, first.own, second.own);
  fits = second.fits;
  accounts = λ place. second.accounts place ∙ first.accounts place;
}

-- the order stays right where the log's metrics are more
pub order_longer : (order : List OwnBag) (count : ℕ) (few more : List ℕ) → IsPrefix few more → IsOrder order count few
    → IsOrder order count more
order_longer order count few more longer was = record {
  are = λ rank at there. let is = was.are rank at there in (is.0, prefix_get few more at.place at.metric longer is.1);
  rising = was.rising;
  once = was.once;
  all = was.all;
}
