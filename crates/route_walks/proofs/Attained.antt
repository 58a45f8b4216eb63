-- Walks one after the other, and what is attained along them.
use Rattle.std.proofs.Common.{◌≡◌, ℕ, ◌+◌, List, [], ◌∷◌, ◌++◌, zero, suc, refl, sym, subst, ap, arith}
use Rattle.std.specs.List.{Contains}
use Rattle.route_walks.specs.declared.graph.ArcRec.{ArcRec}
use Rattle.route_walks.specs.declared.graph.Seed.{Seed}
use Rattle.route_walks.specs.Walk.{IsWalk, cost, IsAttained}
use Rattle.route_walks.specs.Operators.{seeds_from}

-- a list of one element has no other
pub contains-one : {X : Type 0} (x y : X) → Contains (x ∷ []) y → x ≡ y
contains-one x y (zero, below, is) = is
contains-one x y (suc k, below, is) = absurd (omega arith)

-- two walks, one after the other, are a walk
pub walk-append : (arcs : List ArcRec) (u w v : ℕ) (first second : List ArcRec)
    → IsWalk arcs u first w → IsWalk arcs w second v
    → IsWalk arcs u (first ++ second) v
walk-append arcs u w v [] second before after = subst (λ (x : ℕ). IsWalk arcs x second v) (sym before) after
walk-append arcs u w v (arc ∷ first) second before after =
    (before.0, before.1, walk-append arcs arc.head w v first second before.2 after)

-- and cost what both cost
pub cost-append : (first second : List ArcRec) → cost (first ++ second) ≡ cost first + cost second
cost-append [] second = omega arith
cost-append (arc ∷ first) second = omega (arith, cost-append first second)

-- a seed's start is attained at its vertex, by the empty walk
pub attained-start : (arcs : List ArcRec) (seeds : List Seed) (seed : Seed) → Contains seeds seed
    → IsAttained arcs seeds seed.vertex seed.start
attained-start arcs seeds seed within =
    record { seed = seed; walk = []; seeded = within; walks = refl; costs = omega arith }

-- what is attained where a walk begins, and the cost of the walk, are attained where it ends
pub attained-over : (arcs : List ArcRec) (seeds : List Seed) (u v c : ℕ) (walk : List ArcRec)
    → IsAttained arcs seeds u c → IsWalk arcs u walk v
    → IsAttained arcs seeds v (c + cost walk)
attained-over arcs seeds u v c walk attained walks = record {
  seed = attained.seed;
  walk = attained.walk ++ walk;
  seeded = attained.seeded;
  walks = walk-append arcs attained.seed.vertex u v attained.walk walk attained.walks walks;
  costs = omega (arith, cost-append attained.walk walk, attained.costs);
}

-- what is attained at an arc's tail, and its weight, are attained at its head
pub attained-along : (arcs : List ArcRec) (seeds : List Seed) (arc : ArcRec) (c : ℕ)
    → Contains arcs arc → IsAttained arcs seeds arc.tail c
    → IsAttained arcs seeds arc.head (c + arc.weight)
attained-along arcs seeds arc c within attained =
    let sum : c + (arc.weight + 0) ≡ c + arc.weight = omega arith in
    subst (IsAttained arcs seeds arc.head) sum
    (attained-over arcs seeds arc.tail arc.head c (arc ∷ []) attained (within, refl, refl))

-- from s alone, starting at 0, the cost of each walk is attained
pub attained-by_walk : (arcs : List ArcRec) (s v : ℕ) (walk : List ArcRec) → IsWalk arcs s walk v
    → IsAttained arcs (seeds_from s) v (cost walk)
attained-by_walk arcs s v walk walks = record {
  seed = record { vertex = s; start = 0 };
  walk = walk;
  seeded = (0, omega arith, refl);
  walks = walks;
  costs = omega arith;
}

-- and nothing else is
pub walk-of_attained : (arcs : List ArcRec) (s v c : ℕ) → IsAttained arcs (seeds_from s) v c
    → (walk : List ArcRec) × IsWalk arcs s walk v × (cost walk ≡ c)
walk-of_attained arcs s v c attained =
    let seed = contains-one (record { vertex = s; start = 0 }) attained.seed attained.seeded in
    let costs : cost attained.walk ≡ c = omega (arith, attained.costs, ap (λ (x : Seed). x.start) seed) in
    (attained.walk, subst (λ (x : Seed). IsWalk arcs x.vertex attained.walk v) (sym seed) attained.walks, costs)
