-- A valley of two walks that leave a vertex upwards is bridged above it, arc by arc from below. So any two walks are.
use Rattle.std.proofs.Common.{◌≡◌, ◌∙◌, sym, ℕ, zero, suc, ◌+◌, ◌<◌, ◌≤◌, List, [], ◌∷◌, ◌++◌, get_or, subst, arith, inl, inr}
use Rattle.std.specs.Prelude.{All, Contains}
use Rattle.std.proofs.lemmas.List.Elements.{All-contains, Contains-get_or}
use Rattle.route_walks.specs.declared.graph.ArcRec.{ArcRec}
use Rattle.route_walks.specs.Walk.{IsAttained, IsWalk, cost}
use Rattle.route_walks.specs.Operators.{seeds_from}
use Rattle.route_walks.proofs.Facts.{walk-append, cost-append, attained-by_walk, walk-of_attained}
use Rattle.near_labels.specs.UpDown.{HasWalk, HasUpDown}
use Rattle.near_labels.proofs.Facts.{walk-none, walk-then, walk-most}
use Rattle.hierarchy.specs.Hierarchy.{HierarchiesAreExact, IsHierarchy}
use Rattle.hierarchy.specs.Checked.{CheckedIsHierarchy, DoesRise, IsChecked, IsMade, IsOver}

-- u is met from itself
up-down-none : (ups downs : List ArcRec) (u c : ℕ) → HasUpDown ups downs u u c
up-down-none ups downs u c = record {
  top = u;
  rise = 0;
  fall = 0;
  up = walk-none ups u 0;
  down = walk-none downs u 0;
  cheap = omega arith;
}

-- two walks that leave v, one over downs to x and one over ups to y, are bridged above
valley : (n : ℕ) (vertex place : ℕ → ℕ) (arcs ups downs : List ArcRec)
    → IsChecked n vertex place arcs ups downs
    → (left v x y : ℕ) (fall rise : List ArcRec) → n ≤ v + left
    → IsWalk downs v fall x → IsWalk ups v rise y
    → HasUpDown ups downs x y (cost fall + cost rise)
valley n vertex place arcs ups downs are left v x y [] rise fuel falls rises = record {
  top = y;
  rise = cost rise;
  fall = 0;
  up = record { walk = rise; walks = subst (λ (u : ℕ). IsWalk ups u rise y) falls rises; cheap = omega arith };
  down = walk-none downs y 0;
  cheap = omega arith;
}
valley n vertex place arcs ups downs are left v x y (from ∷ fall) [] fuel falls rises = record {
  top = x;
  rise = 0;
  fall = cost (from ∷ fall);
  up = walk-none ups x 0;
  down = record {
    walk = from ∷ fall;
    walks = subst (λ (u : ℕ). IsWalk downs u (from ∷ fall) x) rises falls;
    cheap = omega arith;
  };
  cheap = omega arith;
}
valley n vertex place arcs ups downs are zero v x y (from ∷ fall) (onto ∷ rise) fuel falls rises =
    let high = All-contains (DoesRise n) downs from are.rises_down falls.0 in
    absurd (omega (arith, high.0, high.1, falls.1, fuel))
valley n vertex place arcs ups downs are (suc left) v x y (from ∷ fall) (onto ∷ rise) fuel falls rises =
    let high = All-contains (DoesRise n) downs from are.rises_down falls.0 in
    let high' = All-contains (DoesRise n) ups onto are.rises_up rises.0 in
    let over = are.bridged from onto falls.0 rises.0 (rises.1 ∙ sym falls.1) in
    let first =
    valley n vertex place arcs ups downs are left from.head x over.top fall over.up.walk (omega (arith, fuel, falls.1, high.0)) falls.2
    over.up.walks in
    let second =
    valley n vertex place arcs ups downs are left onto.head first.top y (over.down.walk ++ first.down.walk) rise
    (omega (arith, fuel, rises.1, high'.0))
    (walk-append downs onto.head over.top first.top over.down.walk first.down.walk over.down.walks first.down.walks)
    rises.2 in
    record {
      top = second.top;
      rise = first.rise + second.rise;
      fall = second.fall;
      up = walk-then ups x first.top second.top first.rise second.rise (first.rise + second.rise) first.up second.up
          (omega arith);
      down = second.down;
      cheap =
          omega (
            arith,
            second.cheap,
            first.cheap,
            over.cheap,
            over.up.cheap,
            over.down.cheap,
            first.down.cheap,
            cost-append over.down.walk first.down.walk,
          );
    }

-- what is met above at both ends is met over both
up-down-then : (n : ℕ) (vertex place : ℕ → ℕ) (arcs ups downs : List ArcRec)
    → IsChecked n vertex place arcs ups downs
    → (u v w a b c : ℕ) → HasUpDown ups downs u v a → HasUpDown ups downs v w b → a + b ≤ c
    → HasUpDown ups downs u w c
up-down-then n vertex place arcs ups downs are u v w a b c first second sum =
    let over =
    valley n vertex place arcs ups downs are n v first.top second.top first.down.walk second.up.walk (omega arith)
    first.down.walks second.up.walks in
    record {
      top = over.top;
      rise = first.rise + over.rise;
      fall = second.fall + over.fall;
      up = walk-then ups u first.top over.top first.rise over.rise (first.rise + over.rise) first.up over.up (omega arith);
      down =
          walk-then downs w second.top over.top second.fall over.fall (second.fall + over.fall) second.down over.down
          (omega arith);
      cheap = omega (arith, first.cheap, second.cheap, over.cheap, first.down.cheap, second.up.cheap, sum);
    }

-- so each walk is
up-down-along : (n : ℕ) (vertex place : ℕ → ℕ) (arcs ups downs : List ArcRec)
    → IsChecked n vertex place arcs ups downs
    → (u v : ℕ) (walk : List ArcRec) → IsWalk arcs u walk v → HasUpDown ups downs (place u) (place v) (cost walk)
up-down-along n vertex place arcs ups downs are u v [] walks =
    subst (λ (x : ℕ). HasUpDown ups downs (place u) (place x) 0) walks (up-down-none ups downs (place u) 0)
up-down-along n vertex place arcs ups downs are u v (arc ∷ walk) walks =
    let here =
    All-contains (λ (a : ArcRec). HasUpDown ups downs (place a.tail) (place a.head) a.weight) arcs arc are.kept walks.0 in
    up-down-then n vertex place arcs ups downs are (place u) (place arc.head) (place v) arc.weight (cost walk) (cost (arc ∷ walk))
    (subst (λ (x : ℕ). HasUpDown ups downs (place x) (place arc.head) arc.weight) walks.1 here)
    (up-down-along n vertex place arcs ups downs are arc.head v walk walks.2) (omega arith)

-- arcs from places below a number are no cheaper than walks of the graph
abbrev IsSoundBelow : (ℕ → ℕ) → List ArcRec → List ArcRec → List ArcRec → ℕ → Type 0
IsSoundBelow vertex arcs ups downs left =
    (arc : ArcRec) → arc.tail < left
    → (Contains ups arc → HasWalk arcs (vertex arc.tail) (vertex arc.head) arc.weight)
    × (Contains downs arc → HasWalk arcs (vertex arc.head) (vertex arc.tail) arc.weight)

-- what is made of arcs over a lower place is no cheaper than a walk
made-walk : (vertex : ℕ → ℕ) (arcs ups downs : List ArcRec) (left : ℕ) → IsSoundBelow vertex arcs ups downs left
    → (u v most : ℕ) → IsMade vertex arcs ups downs u v most
    → ((over : IsOver ups downs u v most) → over.from.tail < left)
    → HasWalk arcs (vertex u) (vertex v) most
made-walk vertex arcs ups downs left sound u v most (inl has) low =
    record { walk = has.arc ∷ []; walks = (has.within, has.leaves, has.enters); cheap = omega (arith, has.cheap) }
made-walk vertex arcs ups downs left sound u v most (inr over) low =
    let from = over.from in
    let onto = over.onto in
    let first : HasWalk arcs (vertex u) (vertex from.tail) from.weight =
    subst (λ (x : ℕ). HasWalk arcs (vertex x) (vertex from.tail) from.weight) over.leaves
    ((sound from (low over)).1 over.falls) in
    let second : HasWalk arcs (vertex onto.tail) (vertex v) onto.weight =
    subst (λ (x : ℕ). HasWalk arcs (vertex onto.tail) (vertex x) onto.weight) over.enters
    ((sound onto (omega (arith, low over, over.meets))).0 over.rises) in
    walk-then arcs (vertex u) (vertex from.tail) (vertex v) from.weight onto.weight most first
    (subst (λ (x : ℕ). HasWalk arcs (vertex x) (vertex v) onto.weight) over.meets second) over.cheap

sound : (n : ℕ) (vertex place : ℕ → ℕ) (arcs ups downs : List ArcRec) → IsChecked n vertex place arcs ups downs
    → (left : ℕ) → IsSoundBelow vertex arcs ups downs left
sound n vertex place arcs ups downs are zero arc low = absurd (omega (arith, low))
sound n vertex place arcs ups downs are (suc left) arc low = (
  λ within.
      made-walk vertex arcs ups downs left (sound n vertex place arcs ups downs are left) arc.tail arc.head arc.weight
      (All-contains (λ (a : ArcRec). IsMade vertex arcs ups downs a.tail a.head a.weight) ups arc are.made_up within)
      (λ over.
      omega (arith, low, over.leaves, (All-contains (DoesRise n) downs over.from are.rises_down over.falls).0)),
  λ within.
      made-walk vertex arcs ups downs left (sound n vertex place arcs ups downs are left) arc.head arc.tail arc.weight
      (All-contains (λ (a : ArcRec). IsMade vertex arcs ups downs a.head a.tail a.weight) downs arc are.made_down within)
      (λ over.
      omega (arith, low, over.enters, over.meets, (All-contains (DoesRise n) ups over.onto are.rises_up over.rises).0)),
)

pub checked_is_hierarchy : CheckedIsHierarchy
checked_is_hierarchy n vertex place arcs ups downs are = record {
  sound_up = λ k d lt.
      let arc = get_or ups k d in
      (sound n vertex place arcs ups downs are (arc.tail + 1) arc (omega arith)).0 (Contains-get_or ups k d lt);
  sound_down = λ k d lt.
      let arc = get_or downs k d in
      (sound n vertex place arcs ups downs are (arc.tail + 1) arc (omega arith)).1 (Contains-get_or downs k d lt);
  complete = up-down-along n vertex place arcs ups downs are;
}

-- a walk up is no cheaper than one of the graph
walk-up : (vertex : ℕ → ℕ) (arcs ups : List ArcRec)
    → All (λ arc. HasWalk arcs (vertex arc.tail) (vertex arc.head) arc.weight) ups
    → (u v : ℕ) (walk : List ArcRec) → IsWalk ups u walk v → HasWalk arcs (vertex u) (vertex v) (cost walk)
walk-up vertex arcs ups sound u v [] walks =
    subst (λ (x : ℕ). HasWalk arcs (vertex u) (vertex x) 0) walks (walk-none arcs (vertex u) 0)
walk-up vertex arcs ups sound u v (arc ∷ walk) walks =
    let here = All-contains (λ (a : ArcRec). HasWalk arcs (vertex a.tail) (vertex a.head) a.weight) ups arc sound walks.0 in
    walk-then arcs (vertex u) (vertex arc.head) (vertex v) arc.weight (cost walk) (cost (arc ∷ walk))
    (subst (λ (x : ℕ). HasWalk arcs (vertex x) (vertex arc.head) arc.weight) walks.1 here)
    (walk-up vertex arcs ups sound arc.head v walk walks.2) (omega arith)

-- and one over the arcs that lead down, than one the other way
walk-down : (vertex : ℕ → ℕ) (arcs downs : List ArcRec)
    → All (λ arc. HasWalk arcs (vertex arc.head) (vertex arc.tail) arc.weight) downs
    → (u v : ℕ) (walk : List ArcRec) → IsWalk downs u walk v → HasWalk arcs (vertex v) (vertex u) (cost walk)
walk-down vertex arcs downs sound u v [] walks =
    subst (λ (x : ℕ). HasWalk arcs (vertex x) (vertex u) 0) walks (walk-none arcs (vertex u) 0)
walk-down vertex arcs downs sound u v (arc ∷ walk) walks =
    let here = All-contains (λ (a : ArcRec). HasWalk arcs (vertex a.head) (vertex a.tail) a.weight) downs arc sound walks.0 in
    walk-then arcs (vertex v) (vertex arc.head) (vertex u) (cost walk) arc.weight (cost (arc ∷ walk))
    (walk-down vertex arcs downs sound arc.head v walk walks.2)
    (subst (λ (x : ℕ). HasWalk arcs (vertex arc.head) (vertex x) arc.weight) walks.1 here) (omega arith)

-- what two walks that meet above make costs no less than a walk
up-down-walk : (vertex place : ℕ → ℕ) (arcs ups downs : List ArcRec) → IsHierarchy vertex place arcs ups downs
    → (u v c : ℕ) → HasUpDown ups downs u v c → HasWalk arcs (vertex u) (vertex v) c
up-down-walk vertex place arcs ups downs exact u v c met =
    let up = met.up in
    let down = met.down in
    walk-then arcs (vertex u) (vertex met.top) (vertex v) met.rise met.fall c
    (walk-most arcs (vertex u) (vertex met.top) (cost up.walk) met.rise
    (walk-up vertex arcs ups exact.sound_up u met.top up.walk up.walks) up.cheap)
    (walk-most arcs (vertex met.top) (vertex v) (cost down.walk) met.fall
    (walk-down vertex arcs downs exact.sound_down v met.top down.walk down.walks) down.cheap) met.cheap

pub hierarchies_are_exact : HierarchiesAreExact
hierarchies_are_exact vertex place arcs ups downs s t d exact s-named t-named least =
    let low : (c : ℕ) → IsAttained arcs (seeds_from s) t c → d ≤ c =
    λ c attained.
    let walk = walk-of_attained arcs s t c attained in
    omega (arith, least.least (cost walk.0) (exact.complete s t walk.0 walk.1), walk.2) in
    record {
      capped = least.capped;
      attained = λ found.
          let way = up-down-walk vertex place arcs ups downs exact (place s) (place t) d (least.met found) in
          let way' : HasWalk arcs s (vertex (place t)) d =
          subst (λ (x : ℕ). HasWalk arcs x (vertex (place t)) d) s-named way in
          let way'' : HasWalk arcs s t d = subst (λ (x : ℕ). HasWalk arcs s x d) t-named way' in
          let there = attained-by_walk arcs s t way''.walk way''.walks in
          let same : cost way''.walk ≡ d = omega (arith, low (cost way''.walk) there, way''.cheap) in
          subst (IsAttained arcs (seeds_from s) t) same there;
      least = low;
    }
