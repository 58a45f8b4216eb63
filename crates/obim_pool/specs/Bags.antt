-- Bags of vertices by their metric.
use Rattle.std.specs.Prelude.{◌≡◌, ◌≢◌, ◌<◌, ℕ, List, [], ◌∷◌, ◌++◌, All, sum_by, vec_len}
use Rattle.std.specs.Option.{option_map_or}
use Rattle.std.specs.Ordering.{nat_cmp}
use Rattle.std.specs.BTreeMap.{BTreeMap, get, values}
use Rattle.std.specs.declared.alloc.Global.{Global}
use Rattle.std.specs.declared.vec.Vec.{Vec}

-- a bag of vertices for each metric that has one
abbrev pub BagMap : Type 0
BagMap = BTreeMap ℕ (Vec ℕ Global)

-- the vertices in the bag of the metric; none where it has no bag
abbrev pub bag_at : BagMap → ℕ → List ℕ
bag_at bags metric = option_map_or (λ bag. bag.items) (get nat_cmp bags metric) []

-- how many vertices the bags have
abbrev pub vertex_count : BagMap → ℕ
vertex_count bags = sum_by (λ bag. vec_len bag) (values bags)

-- no bag is empty
abbrev pub AreNoneEmpty : BagMap → Type 0
AreNoneEmpty bags = All (λ bag. 0 < vec_len bag) (values bags)

-- no metric has a vertex
abbrev pub HaveNoVertex : BagMap → Type 0
HaveNoVertex bags = (metric : ℕ) → bag_at bags metric ≡ []

-- each metric has the vertices that it had
abbrev pub HaveSameVertices : BagMap → BagMap → Type 0
HaveSameVertices old new = (metric : ℕ) → bag_at new metric ≡ bag_at old metric

-- the new bags are the old ones, with v as the last vertex of the metric's bag
pub record PutsLast (old new : BagMap) (metric v : ℕ) : Type 0 where
  pub put : bag_at new metric ≡ bag_at old metric ++ v ∷ []
  pub others : (q : ℕ) → q ≢ metric → bag_at new q ≡ bag_at old q

-- the new bags are the old ones without v, which was the last vertex of the lowest bag
pub record TakesLowest (old new : BagMap) (v : ℕ) : Type 0 where
  pub metric : ℕ
  pub lowest : (q : ℕ) → q < metric → bag_at old q ≡ []
  pub taken : PutsLast new old metric v
