-- What a side's pop does, from what its steps do.
use Rattle.std.proofs.Common.{◌≡◌, ◌≢◌, ◌∙◌, ap, refl, subst, sym, ℕ, zero, suc, ◌+◌, ◌*◌, ◌%◌, ◌/◌, ◌^◌, ◌≤◌, ◌<◌}
use Rattle.std.proofs.Common.{List, [], ◌∷◌, length, map, replicate, get_or, Some, None, inl, inr, ⊎_elim, arith}
use Rattle.std.specs.Prelude.{⊤, All, IfNone, IfSome, Option, slice_get}
use Rattle.std.proofs.Math.Nat.{add-mul-mod_self_left, mod-add-div}
use Rattle.std.proofs.lemmas.Bool.{cases_eq}
use Rattle.std.proofs.lemmas.List.{length-map}
use Rattle.std.proofs.lemmas.List.Elements.{All-map}
use Rattle.atomic_table.specs.Seated.{TableId}
use Rattle.obim_bags.specs.Logs.{IsMirrorOf, MirrorSeen, AccessSeen, bags_in, metrics_in, new_mirror}
use Rattle.obim_bags.proofs.Facts.{prefix_self}
use Rattle.obim_pool.specs.declared.chunks.BagChunks.{BagChunks}
use Rattle.obim_pool.specs.declared.order.OwnBag.{OwnBag}
use Rattle.obim_pool.specs.Accounts.{Account, FindsMore, Gets, OnlyLooks, account_of}
use Rattle.obim_pool.specs.Held.{all_held, held_of}
use Rattle.obim_pool.specs.Orders.{IsOrder}
use Rattle.obim_pool.specs.Sides.{FoundEmptyAt, HasLookedBelow, IsCurrent, IsSideOf, mirrors_of, new_side, IsSide}
use Rattle.obim_pool.specs.Sides.{Keeps, Pops, PopsNone, SideSeen, account_at, account_in, current_of}
use Rattle.obim_pool.specs.Steps.{AreBare, Draws, FindsAllEmpty, FindsEmpty, FoundOnceAt, Grows, IsBare, OneBag}
use Rattle.obim_pool.specs.Steps.{OneFind, PopsLowest, TriesCurrent}
use Rattle.obim_bags.proofs.Facts.{some_same}
use Rattle.obim_pool.proofs.Lifting.{Changed}
use Rattle.obim_pool.proofs.Looking.{find_looks, looks_same, looks_then}
use Rattle.obim_pool.proofs.Standing.{seen}

-- ---- the lowest bag that gives a vertex

-- a side grew, and bags of its own were tried in this order
pub record Searched (entries : List OwnBag) (m0 : MirrorSeen) (k0 : List BagChunks) (m1 : MirrorSeen)
    (k1 : List BagChunks)
    (m2 : MirrorSeen) (k2 : List BagChunks) : Type 0 where
  pub grows : Grows m0 k0 m1 k1
  pub order : IsOrder entries (length k1) (metrics_in m1.accesses)
  pub bags : metrics_in m2.accesses ≡ metrics_in m1.accesses
  pub own : length k2 ≡ length k1

-- the same, where the order was read as a list
pub searched_in : {entries list : List OwnBag} {m0 m1 m2 : MirrorSeen} {k0 k1 k2 : List BagChunks} → list ≡ entries
    → Grows m0 k0 m1 k1 → IsOrder entries (length k1) (metrics_in m1.accesses)
    → metrics_in m2.accesses ≡ metrics_in m1.accesses → length k2 ≡ length k1 → Searched list m0 k0 m1 k1 m2 k2
searched_in read grows order bags own = record { grows = grows; order = rw read order; bags = bags; own = own }

-- a bag that was found empty after the side grew was so in the call
found_once : {entries : List OwnBag} {m0 m1 m2 : MirrorSeen} {k0 k1 k2 : List BagChunks} (before after : Option ℕ)
    (place : ℕ)
    → Searched entries m0 k0 m1 k1 m2 k2 → IsBare place m1 k1 m2 k2
    → FoundOnceAt place (seen m0 k0 before) (seen m2 k2 after)
found_once {m2 = m2} {k2 = k2} before after place searched bare = record {
  find = subst (λ (a : Account). OneFind a (account_in place m2.accesses (all_held k2)))
      (searched.grows.accounts place) bare.find;
  alone = bare.alone;
}

looks_grown : {entries : List OwnBag} {m0 m1 m2 : MirrorSeen} {k0 k1 k2 : List BagChunks} (place : ℕ)
    → Searched entries m0 k0 m1 k1 m2 k2
    → OnlyLooks (account_in place m1.accesses (all_held k1)) (account_in place m2.accesses (all_held k2))
    → OnlyLooks (account_in place m0.accesses (all_held k0)) (account_in place m2.accesses (all_held k2))
looks_grown {m2 = m2} {k2 = k2} place searched looks =
    subst (λ (a : Account). OnlyLooks a (account_in place m2.accesses (all_held k2)))
    (searched.grows.accounts place) looks

-- what is lower comes earlier, where what comes later isn't lower
less_from : (a b x y : ℕ) → (b ≤ a → x ≤ y) → y < x → a < b
less_from a b x y up less = grind arith

-- a mirror has a metric for each place
count_metrics : (accesses : List AccessSeen) → length (metrics_in accesses) ≡ length accesses
count_metrics accesses = length-map (bags_in accesses) _ ∙ length-map accesses _

-- a vertex out of the first bag of the order that gave one came out of the lowest
pub draws_lowest : {v : ℕ} {at : OwnBag} {entries : List OwnBag} {m0 m1 m2 : MirrorSeen} {k0 k1 k2 : List BagChunks}
    (before : Option ℕ)
    → Searched entries m0 k0 m1 k1 m2 k2 → Draws at v entries m1 k1 m2 k2
    → PopsLowest v (seen m0 k0 before) (seen m2 k2 (Some at.metric))
draws_lowest {v} {at} {entries} {m0} {m1} {m2} {k0} {k1} {k2} before searched draws =
    let order = searched.order in
    let here = order.are draws.rank at draws.there in
    let count = length-map k2 held_of in
    let same = searched.own in
    record {
      pops = record {
        place = at.place;
        metric = at.metric;
        current = refl;
        own = (omega (arith, here.0), rw searched.bags here.1);
        here = subst (λ (a : Account). Gets v a (account_in at.place m2.accesses (all_held k2)))
            (searched.grows.accounts at.place) draws.here;
        others = λ other apart. looks_grown other searched (draws.others other apart);
      };
      below = λ place metric own less.
          let stands = order.all place (omega (arith, own.0)) in
          let is = order.are stands.0 stands.1 stands.2 in
          let metrics : metric ≡ stands.1.metric =
          some_same (sym own.1 ∙ (ap (λ (ms : List ℕ). slice_get ms place) searched.bags
          ∙ (ap (slice_get (metrics_in m1.accesses)) (sym stands.3) ∙ is.1))) in
          let up = order.rising draws.rank stands.0 at stands.1 draws.there stands.2 in
          subst (λ (p : ℕ). FoundOnceAt p (seen m0 k0 before) (seen m2 k2 (Some at.metric))) stands.3
          (found_once before (Some at.metric) stands.1.place searched
          (draws.before stands.0 stands.1
          (less_from stands.0 draws.rank at.metric stands.1.metric up (omega arith)) stands.2));
    }

-- where no bag of the order gave a vertex, each of the side's own was found empty
pub finds_all : {entries : List OwnBag} {m0 m1 m2 : MirrorSeen} {k0 k1 k2 : List BagChunks} (before : Option ℕ)
    → Searched entries m0 k0 m1 k1 m2 k2 → AreBare entries m1 k1 m2 k2
    → FindsAllEmpty (seen m0 k0 before) (seen m2 k2 None)
finds_all {entries} {m0} {m1} {m2} {k0} {k1} {k2} before searched bare =
    let count = length-map k2 held_of in
    let same = searched.own in
    record {
      current = refl;
      found = λ place within.
          let stands = searched.order.all place (omega arith) in
          subst (λ (p : ℕ). FoundOnceAt p (seen m0 k0 before) (seen m2 k2 None)) stands.3
          (found_once before None stands.1.place searched (bare.bare stands.0 stands.1 stands.2));
      others = λ place. looks_grown place searched (bare.others place);
    }

-- what is so of every side is so after a search, if the current bag is one of the order
pub is_side_still : {at : OwnBag} {entries : List OwnBag} {m0 m1 m2 : MirrorSeen} {k0 k1 k2 : List BagChunks} (rank : ℕ)
    → slice_get entries rank ≡ Some at → Searched entries m0 k0 m1 k1 m2 k2 → IsSide m2 k2 entries (Some at)
is_side_still {at} {entries} {m0} {m1} {m2} {k0} {k1} {k2} rank there searched =
    let fits = searched.grows.fits in
    let own = searched.own in
    let accesses = ap length searched.bags in
    record {
      own = omega (arith, count_metrics m1.accesses, count_metrics m2.accesses);
      order = rw (searched.own, searched.bags) searched.order;
      current_is = rw (searched.own, searched.bags) (searched.order.are rank at there);
    }

-- ---- after a try of the current bag

twice_mod : (n a b c : ℕ) → b ≡ (a + 1) % n → c ≡ (b + 1) % n → c ≡ (a + 2) % n
twice_mod n a b c first second =
    let sum : (b + 1) + n * ((a + 1) / n) ≡ a + 2 = omega (arith, mod-add-div (a + 1) n) in
    second ∙ (sym (add-mul-mod_self_left (b + 1) n ((a + 1) / n)) ∙ ap (λ x. x % n) sum)

-- two empty finds more, counted one after the other
twice_more : (a b c : ℕ) → b ≡ (a + 1) % 2 ^ 64 → c ≡ (b + 1) % 2 ^ 64 → c ≡ (a + 2) % 2 ^ 64
twice_more a b c first second = twice_mod (2 ^ 64) a b c first second

-- what an account holds
held_is : (found : Option AccessSeen) (held : List ℕ) → (account_of found held).held ≡ held
held_is None held = refl
held_is (Some place) held = refl

-- a bag that was found empty after the try was found empty in the call
tried_found : {old mid new : SideSeen} (place : ℕ) → TriesCurrent old mid → FoundOnceAt place mid new
    → FoundEmptyAt place old new
tried_found {old} {mid} {new} place tries once =
    let bare : get_or new.held place [] ≡ [] =
    sym (held_is (slice_get new.mirror.accesses place) (get_or new.held place [])) ∙ once.find.bare in
    ⊎_elim
    (λ (same : (account_at place mid).empties ≡ (account_at place old).empties). record {
      bare = bare;
      count = 1;
      some = omega arith;
      few = omega arith;
      finds = once.find.finds ∙ ap (λ n. (n + 1) % 2 ^ 64) same;
      alone = once.alone;
    })
    (λ (more : FindsMore 1 (account_at place old) (account_at place mid)). record {
      bare = bare;
      count = 2;
      some = omega arith;
      few = omega arith;
      finds = twice_more (account_at place old).empties (account_at place mid).empties
          (account_at place new).empties more once.find.finds;
      alone = once.alone;
    })
    (tries.finds place)

-- if the lowest bag gave a vertex after a try of the current one, each bag below was found empty
pub tried_below : {v : ℕ} {old mid new : SideSeen} → TriesCurrent old mid → PopsLowest v mid new
    → HasLookedBelow old new
tried_below tries lowest current is changed place metric own less =
    let same : lowest.pops.metric ≡ current = some_same (sym lowest.pops.current ∙ is) in
    tried_found place tries (lowest.below place metric own (omega arith))

-- no bag gave a vertex, after a try of the current one
pub tried_none : {old mid new : SideSeen} → TriesCurrent old mid → FindsAllEmpty mid new → PopsNone old new
tried_none tries all = record {
  current = all.current;
  found = λ place within. tried_found place tries (all.found place within);
  others = λ place. looks_then (tries.looks place) (all.others place);
}

-- ---- the try of the current bag

-- a side keeps what it has where one bag changes
pub change_keeps : {Changes : Account → Account → Type 0} {place : ℕ} {m0 m1 : MirrorSeen} {k0 k1 : List BagChunks}
    (before after : Option ℕ)
    → Changed Changes place m0 k0 m1 k1 → Keeps (seen m0 k0 before) (seen m1 k1 after)
change_keeps {m0 = m0} {m1 = m1} {k0 = k0} {k1 = k1} before after change =
    let own = change.own in
    record {
      log = change.log;
      bags = rw change.bags (prefix_self (metrics_in m0.accesses));
      own = omega (arith, length-map k0 held_of, length-map k1 held_of);
    }

-- a vertex came out of the current bag
pub pops_current : {v : ℕ} {at : OwnBag} {m0 m1 : MirrorSeen} {k0 k1 : List BagChunks} (current : Option OwnBag)
    → current ≡ Some at → IsCurrent (metrics_in m0.accesses) (length k0) current → Changed (Gets v) at.place m0 k0 m1 k1
    → Pops v (seen m0 k0 (current_of current)) (seen m1 k1 (current_of current))
pops_current {at = at} {m0 = m0} {k0 = k0} {k1 = k1} current is stands change =
    let here = subst (IsCurrent (metrics_in m0.accesses) (length k0)) is stands in
    let own = change.own in
    record {
      place = at.place;
      metric = at.metric;
      current = ap current_of is;
      own = (omega (arith, here.0, length-map k1 held_of), rw change.bags here.1);
      here = change.here;
      others = λ other apart. looks_same (change.others other apart);
    }

-- the current bag was found empty
pub tries_current : {place : ℕ} {m0 m1 : MirrorSeen} {k0 k1 : List BagChunks} (current : Option ℕ)
    → Changed OneFind place m0 k0 m1 k1 → TriesCurrent (seen m0 k0 current) (seen m1 k1 current)
tries_current {place} {m0} {m1} {k0} {k1} current change =
    let before = λ (q : ℕ). account_in q m0.accesses (all_held k0) in
    let after = λ (q : ℕ). account_in q m1.accesses (all_held k1) in
    record {
      log = change.log;
      bags = change.bags;
      own = omega (arith, change.own, length-map k0 held_of, length-map k1 held_of);
      current = refl;
      looks = find_looks change;
      finds = λ other. ⊎_elim
          (λ (same : other ≡ place). inr
          (subst (λ (q : ℕ). FindsMore 1 (before q) (after q)) (sym same) change.here.finds))
          (λ (apart : other ≢ place). inl (ap (λ (a : Account). a.empties) (change.others other apart)))
          (cases_eq other place);
    }

-- that one bag changed somehow
one_weaker : {Changes : Account → Account → Type 0} {place : ℕ} {m0 m1 : MirrorSeen} {k k' : BagChunks}
    → OneBag Changes place m0 k m1 k'
    → OneBag (λ _ _. ⊤) place m0 k m1 k'
one_weaker one = record {
  was = one.was;
  is = one.is;
  was_there = one.was_there;
  is_there = one.is_there;
  bag = one.bag;
  change = tt;
}

-- whether a vertex came out of a bag or not, one bag changed
pub one_of_both : {place : ℕ} {m0 m1 : MirrorSeen} {k k' : BagChunks} (found : Option ℕ)
    → IfSome found (λ v. OneBag (Gets v) place m0 k m1 k') → IfNone found (FindsEmpty place m0 k m1 k')
    → OneBag (λ _ _. ⊤) place m0 k m1 k'
one_of_both None gets finds = one_weaker finds.here
one_of_both (Some v) gets finds = one_weaker gets

-- the current bag is one of the side's own
pub current_own : {at : OwnBag} {mirror : MirrorSeen} {chunks : List BagChunks} {entries : List OwnBag} {current :
    Option OwnBag}
    → current ≡ Some at → IsSide mirror chunks entries current → at.place < length chunks
current_own {mirror = mirror} {chunks = chunks} is side =
    (subst (IsCurrent (metrics_in mirror.accesses) (length chunks)) is side.current_is).0

-- ---- sides of a pool

-- the mirrors of sides of a log are mirrors of it
pub mirrors_are : (log : TableId) (sides : List SideSeen) → All (IsSideOf log) sides
    → All (IsMirrorOf log) (mirrors_of sides)
mirrors_are log sides are = All-map (IsMirrorOf log) (λ (side : SideSeen). side.mirror) sides are

-- a side without a bag over this mirror
abbrev pub side_over : MirrorSeen → SideSeen
side_over mirror = record { mirror = mirror; held = []; current = None }

-- new sides over new mirrors are new
pub sides_over : (workers : ℕ) (log : TableId)
    → map side_over (replicate workers (new_mirror log)) ≡ replicate workers (new_side log)
sides_over zero log = refl
sides_over (suc workers) log = ap (λ rest. new_side log ∷ rest) (sides_over workers log)
