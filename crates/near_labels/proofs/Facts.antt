-- The lemmas that crates above may cite: walks that cost at most some number.
use Rattle.std.proofs.Common.{refl, ℕ, ◌+◌, ◌≤◌, List, [], ◌++◌, arith}
use Rattle.route_walks.specs.declared.graph.ArcRec.{ArcRec}
use Rattle.route_walks.proofs.Facts.{walk-append, cost-append}
use Rattle.near_labels.specs.UpDown.{HasWalk}

-- the empty walk
pub walk-none : (arcs : List ArcRec) (u c : ℕ) → HasWalk arcs u u c
walk-none arcs u c = record { walk = []; walks = refl; cheap = omega arith }

-- two walks, one after the other
pub walk-then : (arcs : List ArcRec) (u w v a b c : ℕ) → HasWalk arcs u w a → HasWalk arcs w v b → a + b ≤ c
    → HasWalk arcs u v c
walk-then arcs u w v a b c first second sum = record {
  walk = first.walk ++ second.walk;
  walks = walk-append arcs u w v first.walk second.walk first.walks second.walks;
  cheap = omega (arith, cost-append first.walk second.walk, first.cheap, second.cheap, sum);
}

-- a walk that costs at most a number costs at most a greater one
pub walk-most : (arcs : List ArcRec) (u v a c : ℕ) → HasWalk arcs u v a → a ≤ c → HasWalk arcs u v c
walk-most arcs u v a c has more =
    record { walk = has.walk; walks = has.walks; cheap = omega (arith, has.cheap, more) }
