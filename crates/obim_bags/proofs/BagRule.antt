-- Each step keeps the rule of a bag.
use Rattle.std.proofs.Common.{◌≡◌, ◌≢◌, ◌∙◌, sym, ap, subst, refl, ℕ, zero, suc, ◌+◌, ◌<◌, ◌≤◌}
use Rattle.std.proofs.Common.{List, [], ◌∷◌, ◌++◌, map, length, get_or, set, Box, Global, arith}
use Rattle.std.specs.Prelude.{All, sum_by}
use Rattle.std.proofs.lemmas.List.{map-append}
use Rattle.std.proofs.lemmas.List.Elements.{All-set, All-push, All-weaker}
use Rattle.std.proofs.lemmas.List.Sums.{sum_by-append, sum_by_push, sum_by-cons, sum_by-set, sum_by-le}
use Rattle.std.proofs.lemmas.List.Sums.{get_or-le-sum_by}
use mathlib.Core.Option.{some, some-injective, some-ne-none}
use lib.ListN.{get_elem?}
use Rattle.crossbeam_queue.specs.Fifo.{Pushes, Pops, Forks, Merges, Learns}
use Rattle.obim_bags.specs.Chunks.{ChunkSeen}
use Rattle.obim_bags.specs.declared.bag_rule.Tally.{Tally}
use Rattle.obim_bags.specs.BagRule.{weight_of, shares_of, IsSpent, IsFair, AreLawful, IsSeenIn}
use Rattle.obim_bags.specs.BagRule.{with_put, with_got, grown, rest_of_shares, cut_share, joined, spent_tally}

abbrev Boxed : Type 0
Boxed = Box ChunkSeen Global

-- the chunks in these boxes
abbrev pub chunks_in : List Boxed → List ChunkSeen
chunks_in boxes = map (λ (box : Boxed). box.value) boxes

-- the rule, of a bag's queue
abbrev pub Holds : List Boxed → List Tally → Type 0
Holds boxes tallies = AreLawful (chunks_in boxes) tallies

abbrev share_of : Tally → ℕ
share_of tally = tally.share

abbrev put_of : (ChunkSeen → ℕ) → Tally → ℕ
put_of weight tally = weight_of weight tally.put

abbrev got_of : (ChunkSeen → ℕ) → Tally → ℕ
got_of weight tally = weight_of weight tally.got

-- a spent tally, as it is left when a pass is joined in
abbrev IsIdle : Tally → Type 0
IsIdle tally = (tally.share ≡ 0) × IsSpent tally

-- a spent tally is fair
spent_fair : (shares : ℕ) → IsFair shares spent_tally
spent_fair shares = ((λ some. absurd (some refl)), λ _. (refl, refl))

-- where a list has an element
found : {A : Type 0} (xs : List A) (place : ℕ) (x : A) → get_elem? xs place ≡ some x
    → (place < length xs) × (get_or xs place x ≡ x)
found [] place x at = absurd (some-ne-none x (sym at))
found (y ∷ ys) zero x at = (omega arith, some-injective y x at)
found (y ∷ ys) (suc place) x at = let there = found ys place x at in (omega (arith, there.0), there.1)

module _ (tallies : List Tally) (place : ℕ) (tally : Tally) (at : get_elem? tallies place ≡ some tally) where
  -- what holds of all holds of this one
  this : (P : Tally → Type 0) → All P tallies → P tally
  this P all = let there = found tallies place tally at in subst P there.1 (all place tally there.0)

  -- a sum after this one became another
  sum_set : (f : Tally → ℕ) (new : Tally) → sum_by f (set tallies place new) + f tally ≡ sum_by f tallies + f new
  sum_set f new =
      let there = found tallies place tally at in
      subst (λ (old : Tally). sum_by f (set tallies place new) + f old ≡ sum_by f tallies + f new) there.1
      (sum_by-set f tallies place new tally there.0)

  -- with a share, it knows how many shares there are
  knows_all : 1 ≤ tally.share → All (IsFair (shares_of tallies)) tallies → tally.workers ≡ shares_of tallies
  knows_all live fair = (this (IsFair (shares_of tallies)) fair).0 (λ none. absurd (omega arith))

  -- one that keeps its share and its workers stays fair
  stays_fair : (new : Tally) → 1 ≤ tally.share → new.share ≡ tally.share → new.workers ≡ tally.workers
      → All (IsFair (shares_of tallies)) tallies
      → All (IsFair (shares_of (set tallies place new))) (set tallies place new)
  stays_fair new live share workers fair =
      let n = shares_of tallies in
      let same : shares_of (set tallies place new) ≡ n = omega (arith, sum_set share_of new) in
      rw same (All-set (IsFair n) tallies place new
      ((λ _. workers ∙ knows_all live fair), λ none. absurd (omega arith)) fair)

  -- where it has all shares, the others are spent
  others_idle : tally.share ≡ shares_of tallies → All (IsFair (shares_of tallies)) tallies
      → All IsIdle (set tallies place spent_tally)
  others_idle all fair =
      let n = shares_of tallies in
      let rest = set tallies place spent_tally in
      let none : shares_of rest ≡ 0 = omega (arith, sum_set share_of spent_tally) in
      let fair' = All-set (IsFair n) tallies place spent_tally (spent_fair n) fair in
      λ i d lt.
      let idle : (get_or rest i d).share ≡ 0 = omega (arith, get_or-le-sum_by share_of rest i d lt) in
      (idle, (fair' i d lt).1 idle)

  -- and what is 0 of the spent is in all what it is of this one
  only_this : (f : Tally → ℕ) → All IsIdle (set tallies place spent_tally) → ((t : Tally) → IsIdle t → f t ≡ 0)
      → sum_by f tallies ≡ f tally
  only_this f idle nothing =
      let rest = set tallies place spent_tally in
      let zero_all = All-weaker IsIdle (λ (t : Tally). f t ≤ 0) (λ t i. omega (arith, nothing t i)) rest idle in
      omega (arith, sum_set f spent_tally, nothing spent_tally (refl, (refl, refl)), sum_by-le f 0 rest zero_all)

-- a chunk joins at the back
pub puts : (n place : ℕ) (tally : Tally) (box : Boxed) → 1 ≤ tally.share → box.value.vertices ≢ []
    → Pushes Holds n place tally box (λ new. new ≡ with_put box.value tally)
puts n place tally box live filled boxes tallies _ was at =
    let chunk = box.value in
    let chunks = chunks_in boxes in
    let new = with_put chunk tally in (
      new,
      rw map-append record {
        account = λ weight.
            let put = sum_set tallies place tally at (put_of weight) new in
            let got = sum_set tallies place tally at (got_of weight) new in
            omega (
              arith,
              put,
              got,
              was.account weight,
              sum_by_push weight tally.put chunk,
              sum_by_push weight chunks
                  chunk,
            );
        filled = All-push (λ (c : ChunkSeen). c.vertices ≢ []) chunks chunk was.filled filled;
        fair = stays_fair tallies place tally at new live refl refl was.fair;
      },
      refl,
    )

-- one leaves at the front
pub gets : (place : ℕ) (tally : Tally) → 1 ≤ tally.share
    → Pops Holds place tally (λ box new. (new ≡ with_got box.value tally) × (box.value.vertices ≢ []))
gets place tally live box boxes tallies was at =
    let chunk = box.value in
    let chunks = chunks_in boxes in
    let new = with_got chunk tally in (
      new,
      record {
        account = λ weight.
            let put = sum_set tallies place tally at (put_of weight) new in
            let got = sum_set tallies place tally at (got_of weight) new in
            omega (
              arith,
              put,
              got,
              was.account weight,
              sum_by_push weight tally.got chunk,
              sum_by-cons weight chunk
                  chunks,
            );
        filled = λ i d lt. was.filled (suc i) d (omega arith);
        fair = stays_fair tallies place tally at new live refl refl was.fair;
      },
      (refl, was.filled 0 chunk (omega arith)),
    )

-- what a pass learns where it looks
pub looks : (place : ℕ) (tally : Tally) → Learns Holds place tally (λ boxes. IsSeenIn (chunks_in boxes) tally)
looks place tally boxes tallies was at = (tallies, place, was, at)

-- ---- passes cut and joined

set_set : {A : Type 0} (xs : List A) (place : ℕ) (x y : A) → set (set xs place x) place y ≡ set xs place y
set_set [] place x y = refl
set_set (z ∷ zs) zero x y = refl
set_set (z ∷ zs) (suc place) x y = ap (λ rest. z ∷ rest) (set_set zs place x y)

-- a sum after one tally was cut in two
sum_cut : (tallies : List Tally) (place : ℕ) (tally : Tally) → get_elem? tallies place ≡ some tally → (f : Tally → ℕ)
    → (left right : Tally)
    → sum_by f (set tallies place left ++ right ∷ []) + f tally ≡ sum_by f tallies + f left + f right
sum_cut tallies place tally at f left right =
    omega (arith, sum_by_push f (set tallies place left) right, sum_set tallies place tally at f left)

-- the pass with all shares gets one more, for a worker more
pub adds_worker : (place : ℕ) (tally : Tally) → tally.share ≡ tally.workers → 1 ≤ tally.share
    → Forks Holds place tally (grown tally) spent_tally
adds_worker place tally all live boxes tallies was at =
    let new = grown tally in
    let n = tally.workers + 1 in
    let cut = λ (f : Tally → ℕ). sum_cut tallies place tally at f new spent_tally in
    let whole = knows_all tallies place tally at live was.fair in
    let same : shares_of (set tallies place new ++ spent_tally ∷ []) ≡ n = omega (arith, cut share_of) in
    let idle = others_idle tallies place tally at (all ∙ whole) was.fair in
    let rest = set tallies place spent_tally in
    let others = All-weaker IsIdle (IsFair n) (λ t i. ((λ some. absurd (some i.0)), λ _. i.1)) rest idle in
    let mine : IsFair n new = ((λ _. refl), λ none. absurd (omega arith)) in
    let after = rw set_set at (All-set (IsFair n) rest place new mine others) in
    record {
      account = λ weight. omega (arith, cut (put_of weight), cut (got_of weight), was.account weight);
      filled = was.filled;
      fair = rw same (All-push (IsFair n) (set tallies place new) spent_tally after (spent_fair n));
    }

-- a share is cut off
pub cuts_share : (place : ℕ) (tally : Tally) → 2 ≤ tally.share
    → Forks Holds place tally (rest_of_shares tally) (cut_share tally)
cuts_share place tally two boxes tallies was at =
    let left = rest_of_shares tally in
    let right = cut_share tally in
    let n = shares_of tallies in
    let cut = λ (f : Tally → ℕ). sum_cut tallies place tally at f left right in
    let workers = knows_all tallies place tally at (omega arith) was.fair in
    let same : shares_of (set tallies place left ++ right ∷ []) ≡ n = omega (arith, cut share_of) in
    let after = All-set (IsFair n) tallies place left ((λ _. workers), λ none. absurd (omega arith)) was.fair in
    record {
      account = λ weight. omega (arith, cut (put_of weight), cut (got_of weight), was.account weight);
      filled = was.filled;
      fair = rw same
          (All-push (IsFair n) (set tallies place left) right after ((λ _. workers), λ none. absurd (omega arith)));
    }

-- another pass is joined in
pub joins : (place : ℕ) (tally : Tally) (place' : ℕ) (other : Tally) → 1 ≤ tally.share
    → Merges Holds place tally place' other (joined tally other) spent_tally
joins place tally place' other live boxes tallies was at apart at' =
    let both = joined tally other in
    let n = shares_of tallies in
    let once = set tallies place both in
    let first = λ (f : Tally → ℕ). sum_set tallies place tally at f both in
    let second = λ (f : Tally → ℕ). sum_set once place' other at' f spent_tally in
    let workers = knows_all tallies place tally at live was.fair in
    let same : shares_of (set once place' spent_tally) ≡ n = omega (arith, first share_of, second share_of) in
    let after = All-set (IsFair n) tallies place both ((λ _. workers), λ none. absurd (omega arith)) was.fair in
    record {
      account = λ weight.
          let put = put_of weight in
          let got = got_of weight in
          omega (
            arith,
            first put,
            second put,
            first got,
            second got,
            was.account weight,
            sum_by-append weight tally.put other.put,
            sum_by-append weight tally.got other.got,
          );
      filled = was.filled;
      fair = rw same (All-set (IsFair n) once place' spent_tally (spent_fair n) after);
    }

-- ---- what a pass with all shares learns

-- where it has all shares and saw the bag empty, what all put is what it got
pub settles : (tally : Tally) → tally.share ≡ tally.workers → 1 ≤ tally.share → IsSeenIn [] tally
    → (weight : ChunkSeen → ℕ) → weight_of weight tally.put ≡ weight_of weight tally.got
settles tally all live (tallies, place, was, at) weight =
    let whole = knows_all tallies place tally at live was.fair in
    let idle = others_idle tallies place tally at (all ∙ whole) was.fair in
    let put = only_this tallies place tally at (put_of weight) idle (λ t i. ap (weight_of weight) i.1.0) in
    let got = only_this tallies place tally at (got_of weight) idle (λ t i. ap (weight_of weight) i.1.1) in
    omega (arith, put, got, was.account weight)
