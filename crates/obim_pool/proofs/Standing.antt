-- What a side keeps and does, where its parts do.
use Rattle.std.proofs.Common.{◌≡◌, ◌≢◌, ◌∙◌, ap, subst, sym, ℕ, List, [], ◌∷◌, length, Option, Some, None, ⊎_elim}
use Rattle.std.proofs.Common.{arith}
use Rattle.std.specs.Prelude.{slice_get}
use Rattle.std.proofs.lemmas.Bool.{cases_eq}
use Rattle.std.proofs.lemmas.List.{length-map}
use Rattle.obim_bags.specs.Logs.{MirrorSeen, AccessSeen, metrics_in}
use Rattle.obim_bags.proofs.Facts.{prefix_get}
use Rattle.obim_pool.specs.declared.chunks.BagChunks.{BagChunks}
use Rattle.obim_pool.specs.declared.order.OwnBag.{OwnBag}
use Rattle.obim_pool.specs.Accounts.{Account, Puts}
use Rattle.obim_pool.specs.Held.{all_held, held_of}
use Rattle.obim_pool.specs.Orders.{IsAt, IsOrder}
use Rattle.obim_pool.specs.Sides.{IsCurrent, IsSide, Keeps, PushesTo, SideSeen, account_at, account_in}
use Rattle.obim_pool.specs.Steps.{Grows}
use Rattle.obim_pool.proofs.Lifting.{Changed, order_stays}
use Rattle.obim_pool.proofs.Putting.{puts_nothing}

-- a side of which one bag changed is one
pub side_changes : {Changes : Account → Account
    → Type 0} {place : ℕ} {m m' : MirrorSeen} {chunks chunks' : List BagChunks} {order : List OwnBag}
    {current : Option OwnBag} → IsSide m chunks order current → Changed Changes place m chunks m' chunks'
    → IsSide m' chunks' order current
side_changes {Changes} {place} {m} {m'} {chunks} {chunks'} {order} {current} was change = record {
  own = omega (arith, was.own, change.own, change.accesses);
  order = order_stays order change was.order;
  current_is = rw (change.own, change.bags) was.current_is;
}

-- and so is one that grew
pub side_grows : {m m' : MirrorSeen} {chunks chunks' : List BagChunks} {order order' : List OwnBag} {current : Option
    OwnBag}
    → IsSide m chunks order current → Grows m chunks m' chunks'
    → IsOrder order' (length chunks') (metrics_in m'.accesses)
    → IsSide m' chunks' order' current
side_grows {m} {m'} {chunks} {chunks'} {order} {order'} {current} was grows new =
    record { own = grows.fits; order = new; current_is = stays current was.current_is }
  where
    stays : (current : Option OwnBag) → IsCurrent (metrics_in m.accesses) (length chunks) current
        → IsCurrent (metrics_in m'.accesses) (length chunks') current
    stays None is = tt
    stays (Some at) is = (
      omega (arith, is.0, grows.own),
      prefix_get (metrics_in m.accesses) (metrics_in m'.accesses) at.place at.metric grows.bags is.1,
    )

-- a side with these parts
abbrev pub seen : MirrorSeen → List BagChunks → Option ℕ → SideSeen
seen mirror chunks current = record { mirror = mirror; held = all_held chunks; current = current }

-- a side that grew, and of which one bag changed then, keeps its log and its bags
pub keeps_changes : {Changes : Account → Account → Type 0} {place : ℕ} {m m1 m2 : MirrorSeen} {k k1 k2 : List BagChunks}
    (c c' : Option ℕ)
    → Grows m k m1 k1 → Changed Changes place m1 k1 m2 k2 → Keeps (seen m k c) (seen m2 k2 c')
keeps_changes {Changes} {place} {m} {m1} {m2} {k} {k1} {k2} c c' grows change = record {
  log = change.log ∙ grows.log;
  bags = rw change.bags grows.bags;
  own = omega (arith, grows.own, change.own, length-map k held_of, length-map k2 held_of);
}

-- where no vertex went into one bag after that, none went into any
pub pushes_none : {place : ℕ} {m m1 m2 : MirrorSeen}
    (k : List BagChunks) {k1 k2 : List BagChunks} {c : Option ℕ} {old : SideSeen} → seen m k c ≡ old
    → Grows m k m1 k1 → Changed (Puts []) place m1 k1 m2 k2 → (other : ℕ)
    → Puts [] (account_at other old) (account_in other m2.accesses (all_held k2))
pushes_none {place} {m} {m1} {m2} k {k1} {k2} {c} {old} was grows change other =
    let at = λ (p : ℕ) (accesses : List AccessSeen) (chunks : List BagChunks). account_in p accesses
    (all_held chunks) in
    let one : Puts [] (at other m1.accesses k1) (at other m2.accesses k2) =
    ⊎_elim
    (λ (same : other ≡ place). subst (λ (p : ℕ). Puts [] (at p m1.accesses k1) (at p m2.accesses k2))
    (sym same) change.here)
    (λ (apart : other ≢ place). puts_nothing _ _ (change.others other apart)) (cases_eq other place) in
    let both = subst (λ (a : Account). Puts [] a (at other m2.accesses k2)) (grows.accounts other) one in
    subst (λ (s : SideSeen). Puts [] (account_at other s) (at other m2.accesses k2)) was both

-- the bag at this place, and its metric, where one bag changed
pub at_changes : {Changes : Account → Account → Type 0} {place : ℕ} {m m' : MirrorSeen} {k k' : List BagChunks}
    (at : OwnBag)
    → Changed Changes place m k m' k' → IsAt (metrics_in m.accesses) (length k) at
    → IsAt (metrics_in m'.accesses) (length (all_held k')) at
at_changes {Changes} {place} {m} {m'} {k} {k'} at change is = (
  omega (arith, is.0, change.own, length-map k' held_of),
  ap
      (λ (metrics : List ℕ). slice_get metrics at.place) change.bags ∙ is.1,
)

-- the vertex went into the bag at this place
pub pushes_to : {place : ℕ} {m m1 m2 : MirrorSeen} {k k1 k2 : List BagChunks} (metric v : ℕ) (c c' : Option ℕ)
    → Grows m k m1 k1
    → Changed (Puts (v ∷ [])) place m1 k1 m2 k2
    → IsAt (metrics_in m1.accesses) (length k1) (record { metric = metric; place = place })
    → PushesTo metric v (seen m k c) (seen m2 k2 c')
pushes_to {place} {m} {m1} {m2} {k} {k1} {k2} metric v c c' grows change at = record {
  place = place;
  own = at_changes _ change at;
  here = subst (λ (a : Account). Puts (v ∷ []) a (account_in place m2.accesses (all_held k2)))
      (grows.accounts place) change.here;
  others = λ other apart. change.others other apart ∙ grows.accounts other;
}

-- what is so of the parts of a side before and after is so of the side
pub of_sides : (P : SideSeen → SideSeen → Type 0) {old new : SideSeen} {m m' : MirrorSeen}
    (k k' : List BagChunks) {c : Option ℕ}
    → seen m k c ≡ old → new.mirror ≡ m' → new.held ≡ all_held k' → P (seen m k c) (seen m' k' new.current) → P old new
of_sides P {old} {new} {m} {m'} k k' {c} was mirror held parts =
    let is : seen m' k' new.current ≡ new =
    ap (λ (x : MirrorSeen). seen x k' new.current) (sym mirror)
    ∙ ap (λ (x : List (List ℕ)). record { mirror = new.mirror; held = x; current = new.current }) (sym held) in
    subst (λ (s : SideSeen). P s new) was (subst (P (seen m k c)) is parts)
