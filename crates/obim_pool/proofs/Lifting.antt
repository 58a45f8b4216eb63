-- A change of one bag of a side, seen from all its bags.
use Rattle.std.proofs.Common.{◌≡◌, ◌≢◌, ◌∙◌, ap, refl, subst, sym, ℕ, zero, suc, ◌<◌, List, [], ◌∷◌, set, length}
use Rattle.std.proofs.Common.{get_or, Some, length-set}
use Rattle.std.specs.Prelude.{slice_get}
use Rattle.std.proofs.lemmas.List.{get_or-set_other, map-set}
use Rattle.std.proofs.lemmas.Option.{get_or_from_slice_get, slice_get-get_or, slice_get_within}
use Rattle.obim_bags.proofs.Facts.{found_at, some_at, at_map, at_set, at_set_else, map_kept, set_twice}
use Rattle.obim_bags.specs.Logs.{MirrorSeen, AccessSeen, metrics_in, metrics_of}
use Rattle.obim_pool.specs.declared.chunks.BagChunks.{BagChunks}
use Rattle.obim_pool.specs.declared.order.OwnBag.{OwnBag}
use Rattle.obim_pool.specs.Accounts.{Account, account_of}
use Rattle.obim_pool.specs.Held.{all_held, held_of}
use Rattle.obim_pool.specs.Orders.{IsOrder}
use Rattle.obim_pool.specs.Sides.{account_in}
use Rattle.obim_pool.specs.Steps.{OneBag}

-- to write what stands there changes nothing
pub set_same : {A : Type 0} (xs : List A) (i : ℕ) (x : A) → slice_get xs i ≡ Some x → set xs i x ≡ xs
set_same [] i x at = refl
set_same (z ∷ zs) zero x at = cc
set_same (z ∷ zs) (suc i) x at = ap (λ rest. z ∷ rest) (set_same zs i x at)

-- what is held stays where that of one bag does
pub held_same : (chunks : List BagChunks) (i : ℕ) (k k' : BagChunks) → i < length chunks → k ≡ get_or chunks i k
    → held_of k' ≡ held_of k
    → all_held (set chunks i k') ≡ all_held chunks
held_same chunks i k k' within read same =
    let there = at_map held_of chunks i k (slice_get-get_or chunks i k within ∙ ap Some (sym read)) in
    map-set held_of chunks i k' ∙ ap (set (all_held chunks) i) same ∙ set_same (all_held chunks) i (held_of k) there

-- the account of a bag whose place and chunks are known
pub account_here : (i : ℕ) (accesses : List AccessSeen) (p : AccessSeen) (chunks : List BagChunks) (k : BagChunks)
    → slice_get accesses i ≡ Some p
    → slice_get chunks i ≡ Some k → account_in i accesses (all_held chunks) ≡ account_of (Some p) (held_of k)
account_here i accesses p chunks k place own =
    let held : get_or (all_held chunks) i [] ≡ held_of k =
    get_or_from_slice_get (all_held chunks) i (held_of k) [] (at_map held_of chunks i k own) in
    ap (λ found. account_of found (get_or (all_held chunks) i [])) place ∙ ap (account_of (Some p)) held

-- the account of another bag stays
pub account_else : (i j : ℕ) (accesses : List AccessSeen) (p : AccessSeen) (chunks : List BagChunks) (k : BagChunks)
    → j ≢ i
    → account_in j (set accesses i p) (all_held (set chunks i k)) ≡ account_in j accesses (all_held chunks)
account_else i j accesses p chunks k other =
    let held : get_or (all_held (set chunks i k)) j [] ≡ get_or (all_held chunks) j [] =
    ap (λ (list : List (List ℕ)). get_or list j []) (map-set held_of chunks i k)
    ∙ get_or-set_other (all_held chunks) i j (held_of k) [] other in
    ap (λ found. account_of found (get_or (all_held (set chunks i k)) j [])) (at_set_else accesses i j p other)
    ∙ ap (account_of (slice_get accesses j)) held

-- The account of this place changed so, and no other; log, metrics and the number of bags stay.
pub record Changed (Changes : Account → Account → Type 0) (place : ℕ)
    (old : MirrorSeen) (old_chunks : List BagChunks) (new : MirrorSeen) (new_chunks : List BagChunks) : Type 0 where
  pub log : new.log ≡ old.log
  pub bags : metrics_in new.accesses ≡ metrics_in old.accesses
  pub accesses : length new.accesses ≡ length old.accesses
  pub own : length new_chunks ≡ length old_chunks
  pub here : Changes (account_in place old.accesses (all_held old_chunks))
      (account_in place new.accesses (all_held new_chunks))
  pub others : (other : ℕ) → other ≢ place
      → account_in other new.accesses (all_held new_chunks) ≡ account_in other old.accesses (all_held old_chunks)

-- a change of one bag of the side, among all its bags
pub changed_all : (Changes : Account → Account → Type 0) (place : ℕ) (old new : MirrorSeen) (chunks : List BagChunks)
    (k k' : BagChunks)
    → slice_get chunks place ≡ Some k → OneBag Changes place old k new k'
    → Changed Changes place old chunks new (set chunks place k')
changed_all Changes place old new chunks k k' own one =
    let after = λ (m : MirrorSeen). Changed Changes place old chunks m (set chunks place k') in
    let was = account_here place old.accesses one.was chunks k one.was_there own in
    let is =
    account_here place (set old.accesses place one.is) one.is (set chunks place k') k'
    (at_set old.accesses place one.was one.is one.was_there) (at_set chunks place k k' own) in
    subst after (sym one.is_there) record {
      log = refl;
      bags = ap metrics_of
          (map_kept (λ (p : AccessSeen). p.bag) old.accesses place one.was one.is one.was_there one.bag);
      accesses = length-set old.accesses place one.is;
      own = length-set chunks place k';
      here = rw (was, is) one.change;
      others = λ other apart. account_else place other old.accesses one.is chunks k' apart;
    }

-- the same, of a bag that was read
pub changed_here : (Changes : Account → Account → Type 0) (place : ℕ) {old new : MirrorSeen}
    (chunks : List BagChunks) {k k' : BagChunks}
    → place < length chunks → k ≡ get_or chunks place k → OneBag Changes place old k new k'
    → Changed Changes place old chunks new (set chunks place k')
changed_here Changes place {old} {new} chunks {k} {k'} within read one =
    changed_all Changes place old new chunks k k' (found_at chunks place k within read) one

-- the place of a bag that changed
pub one_within : {Changes : Account → Account → Type 0} {place : ℕ} {old new : MirrorSeen} {k k' : BagChunks}
    → OneBag Changes place old k new k'
    → place < length new.accesses
one_within {Changes} {place} {old} {new} one =
    let there : slice_get new.accesses place ≡ Some one.is =
    ap (λ (m : MirrorSeen). slice_get m.accesses place) one.is_there
    ∙ at_set old.accesses place one.was one.is one.was_there in
    slice_get_within new.accesses place one.is there

-- two changes of one bag are one
pub one_then : {P Q R : Account → Account → Type 0} {place : ℕ} {m1 m2 m3 : MirrorSeen} {k1 k2 k3 : BagChunks}
    → ((a b c : Account) → P a b → Q b c → R a c) → OneBag P place m1 k1 m2 k2 → OneBag Q place m2 k2 m3 k3
    → OneBag R place m1 k1 m3 k3
one_then {P} {Q} {R} {place} {m1} {m2} {m3} {k1} {k2} {k3} joins first second =
    let there = at_set m1.accesses place first.was first.is first.was_there in
    let found : slice_get m2.accesses place ≡ Some first.is =
    ap (λ (m : MirrorSeen). slice_get m.accesses place) first.is_there ∙ there in
    let same : second.was ≡ first.is = cc (second.was_there, found) in
    let bag : second.is.bag ≡ first.was.bag = second.bag ∙ (ap (λ (p : AccessSeen). p.bag) same ∙ first.bag) in
    let change =
    subst (λ (p : AccessSeen). Q (account_of (Some p) (held_of k2)) (account_of (Some second.is) (held_of k3))) same
    second.change in
    let last : m3 ≡ record m1 { accesses = set m1.accesses place second.is } =
    second.is_there ∙ (ap (λ (m : MirrorSeen). record m { accesses = set m.accesses place second.is }) first.is_there
    ∙ ap (λ (ps : List AccessSeen). record m1 { accesses = ps }) (set_twice m1.accesses place first.is second.is)) in
    record {
      was = first.was;
      is = second.is;
      was_there = first.was_there;
      is_there = last;
      bag = bag;
      change = joins _ _ _ first.change change;
    }

-- a change of the side's two chunks of a bag alone
pub one_of_held : (Changes : Account → Account → Type 0) (place : ℕ) (m : MirrorSeen) (k k' : BagChunks)
    → place < length m.accesses
    → ((p : AccessSeen) → Changes (account_of (Some p) (held_of k)) (account_of (Some p) (held_of k')))
    → OneBag Changes place m k m k'
one_of_held Changes place m k k' within change =
    let p = some_at m.accesses place within in
    record {
      was = p.0;
      is = p.0;
      was_there = p.1;
      is_there = ap (λ (ps : List AccessSeen). record m { accesses = ps }) (sym (set_same m.accesses place p.0 p.1));
      bag = refl;
      change = change p.0;
    }

-- a side's order and current bag stay so if metrics and the number of bags do
pub order_stays : {Changes : Account → Account
    → Type 0} {place : ℕ} {old new : MirrorSeen} {chunks chunks' : List BagChunks} (order : List OwnBag)
    → Changed Changes place old chunks new chunks' → IsOrder order (length chunks) (metrics_in old.accesses)
    → IsOrder order (length chunks') (metrics_in new.accesses)
order_stays order change was = rw (change.own, change.bags) was
