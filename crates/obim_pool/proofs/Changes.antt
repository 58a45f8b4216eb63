-- What a change of one bag does to the invariants of the bags.
use Rattle.std.proofs.Common.{◌≡◌, ◌<◌, ◌+◌, ℕ, ◌∷◌, [], Some, None, slice_get, vec_len, sym, arith}
use Rattle.std.specs.Ordering.{nat_cmp}
use Rattle.std.specs.BTreeMap.{WritesThrough, Updates, IsOrdered, IsLowerBound, get, insert_entry, is_at}
use Rattle.std.specs.Map.{values_of}
use Rattle.std.specs.declared.alloc.Global.{Global}
use Rattle.std.specs.declared.vec.Vec.{Vec}
use Rattle.std.proofs.lemmas.Cmp.{nat_cmp_total}
use Rattle.std.proofs.lemmas.Grind.{common_steps}
use Rattle.std.proofs.lemmas.List.Elements.{All-tail}
use Rattle.std.proofs.lemmas.List.Sums.{sum_by-cons}
use Rattle.std.proofs.lemmas.Map.Entries.{sum_by-set_value, sum_by-insert_entry}
use Rattle.std.proofs.lemmas.Map.Views.{All-values-set_value, All-values-insert_entry}
use Rattle.std.proofs.lemmas.Map.Views.{IfSome-lookup_from_All}
use Rattle.obim_pool.specs.Bags.{BagMap, vertex_count, AreNoneEmpty, TakesLowest}

abbrev pub Bag : Type 0
Bag = Vec ℕ Global

abbrev pub size : Bag → ℕ
size bag = vec_len bag

abbrev pub HasVertex : Bag → Type 0
HasVertex bag = 0 < vec_len bag

-- one bag became w: before, it held `had` vertices, 0 if it was not there
pub record SetsBag (old new : BagMap) (had : ℕ) (w : Bag) : Type 0 where
  pub none_empty : AreNoneEmpty old → 0 < vec_len w → AreNoneEmpty new
  pub count : vertex_count new + had ≡ vertex_count old + vec_len w

-- after a write through what `get_mut` lent
pub SetsBag-get_mut : (old new : BagMap) (metric : ℕ) (bag w : Bag)
    → Some bag ≡ get nat_cmp old metric
    → WritesThrough nat_cmp (nat_cmp metric) old w new
    → SetsBag old new (vec_len bag) w
SetsBag-get_mut old new metric bag w found writes =
    let test = is_at (nat_cmp metric) in
    record {
      none_empty = λ all some. rw writes.0 (All-values-set_value test HasVertex old.entries w all some);
      count = rw writes.0 (sum_by-set_value size test old.entries bag w (sym found));
    }

-- after an `insert` at a metric that had no bag
pub SetsBag-insert : (old new : BagMap) (metric : ℕ) (w : Bag)
    → None ≡ get nat_cmp old metric
    → IsOrdered nat_cmp old
    → new.entries ≡ insert_entry nat_cmp old.entries metric w
    → SetsBag old new 0 w
SetsBag-insert old new metric w absent ordered inserted =
    let sums = sum_by-insert_entry size nat_cmp_total old.entries metric w ordered in
    record {
      none_empty = λ all some.
          rw inserted (All-values-insert_entry nat_cmp metric w HasVertex old.entries all some);
      count = rw inserted (rw (sym absent) at sums);
    }

-- a bag that is found is not empty
pub found_not_empty : (bags : BagMap) (metric : ℕ) (bag : Bag)
    → AreNoneEmpty bags
    → Some bag ≡ get nat_cmp bags metric
    → 0 < vec_len bag
found_not_empty bags metric bag all found =
    rw (sym found) at (IfSome-lookup_from_All HasVertex (is_at (nat_cmp metric)) bags.entries all)

-- the entry that was seen first is the first
pub first_is_seen : (bags rest : BagMap) (first seen : ℕ × Bag)
    → bags.entries ≡ first ∷ rest.entries
    → slice_get bags.entries 0 ≡ Some seen
    → first ≡ seen
first_is_seen bags rest first seen split at_0 =
    let head : Some first ≡ Some seen = rw split at at_0 in
    cc

-- after the first bag left
pub none_empty-rest : (old new : BagMap) (first : ℕ × Bag)
    → old.entries ≡ first ∷ new.entries
    → AreNoneEmpty old
    → AreNoneEmpty new
none_empty-rest old new first split all =
    All-tail HasVertex first.1 (values_of new.entries) (rw split at all)

pub count-rest : (old new : BagMap) (first : ℕ × Bag)
    → old.entries ≡ first ∷ new.entries
    → vertex_count old ≡ vec_len first.1 + vertex_count new
count-rest old new first split = rw split (sum_by-cons size first.1 (values_of new.entries))

-- the first bag leaves with its only vertex
pub takes_first : (old new : BagMap) (metric v : ℕ) (bag : Bag)
    → IsLowerBound nat_cmp old metric
    → get nat_cmp old metric ≡ Some bag
    → Updates nat_cmp old new metric None
    → bag.items ≡ v ∷ []
    → TakesLowest old new v
takes_first old new metric v bag least found updates one =
    record {
      metric = metric;
      lowest = λ q less. grind (arith, common_steps);
      taken = record {
        put = grind (arith, common_steps);
        others = λ q other. grind (arith, common_steps);
      };
    }
