-- A sweep keeps labels sound, and makes one label more least at each turn.
use Rattle.std.proofs.Common.{◌≡◌, ◌∙◌, sym, refl, ℕ, ◌+◌, ◌<◌, ◌≤◌, ◌⊎◌, List, [], ◌∷◌, length, set, inl, inr, subst, arith}
use Rattle.std.specs.Prelude.{All, Contains, slice_index}
use Rattle.std.proofs.lemmas.Bool.{cases_eq, cases_lt}
use Rattle.std.proofs.lemmas.List.{get_or_read, get_or-set_same, get_or-set_other}
use Rattle.std.proofs.lemmas.List.Elements.{All-contains}
use Rattle.route_walks.specs.declared.graph.ArcRec.{ArcRec}
use Rattle.route_walks.specs.declared.graph.TheConstants.{INF}
use Rattle.route_walks.specs.Limit.{AreLeastLabelsUpTo}
use Rattle.route_walks.specs.Walk.{IsArcBelow, IsGraph, IsWalk, cost}
use Rattle.route_walks.specs.Operators.{seeds_from}
use Rattle.route_walks.proofs.Facts.{attained-by_walk, walk-of_attained}
use Rattle.csr_graph.specs.Graph.{Graph, IsInRows, arc_to, targets_of}
use Rattle.csr_graph.specs.declared.target.Target.{Target}
use Rattle.csr_graph.proofs.Facts.{row_all, row_arcs}
use Rattle.near_labels.specs.Sweep.{AreSwept, IsLoweredAlong, IsOffered, IsSweeping, IsUpward}
use Rattle.near_labels.specs.UpDown.{HasUpDown, HasWalk, IsLeastUpDown}
use Rattle.near_labels.proofs.Facts.{walk-none}

-- labels that are least over ups are the beginning
pub sweeping-begin : (limit n : ℕ) (ups downs : List ArcRec) (u : ℕ) (labels : List ℕ)
    → AreLeastLabelsUpTo limit n ups (seeds_from u) labels → INF ≤ limit
    → IsSweeping ups downs u n (slice_index labels)
sweeping-begin limit n ups downs u labels are high = record {
  capped = λ v below. (are.least v below).capped;
  met = λ v below some.
      let walk = walk-of_attained ups u v (slice_index labels v) ((are.least v below).attained some) in
      record {
        top = v;
        rise = slice_index labels v;
        fall = 0;
        up = record { walk = walk.0; walks = walk.1; cheap = omega (arith, walk.2) };
        down = walk-none downs v 0;
        cheap = omega arith;
      };
  low = λ v below c has.
      elim ((are.least v below).least (cost has.walk) (attained-by_walk ups u v has.walk has.walks)) [
        | inl near ↦ omega (arith, near, has.cheap)
        | inr far ↦ omega (arith, far, high, has.cheap, (are.least v below).capped)
      ];
}

-- no label rises
lowered-falls : (downs : List ArcRec) (v : ℕ) (old new : List ℕ) → IsLoweredAlong downs v old new
    → (w : ℕ) → slice_index new w ≤ slice_index old w
lowered-falls downs v old new lowered w =
    elim (cases_eq w v) [
      | inl same ↦ subst (λ (x : ℕ). slice_index new x ≤ slice_index old x) (sym same) lowered.falls
      | inr other ↦ omega (arith, lowered.others w other)
    ]

-- the new label of v is the cost of two walks that meet
lowered-met : (n : ℕ) (ups downs : List ArcRec) (u v : ℕ) (old new : List ℕ) → IsGraph n downs → v < n
    → IsSweeping ups downs u n (slice_index old) → IsLoweredAlong downs v old new
    → slice_index new v < INF → HasUpDown ups downs u v (slice_index new v)
lowered-met n ups downs u v old new graph below before lowered some =
    elim lowered.met [
      | inl same ↦
          subst (HasUpDown ups downs u v) (sym same) (before.met v below (omega (arith, same, some)))
      | inr (arc, within, leaves, sum) ↦
          let ends = All-contains (IsArcBelow n) downs arc graph within in
          let rest = before.met arc.head ends.1 (omega (arith, sum, some)) in
          record {
            top = rest.top;
            rise = rest.rise;
            fall = arc.weight + rest.fall;
            up = rest.up;
            down = record {
              walk = arc ∷ rest.down.walk;
              walks = (within, leaves, rest.down.walks);
              cheap = omega (arith, rest.down.cheap);
            };
            cheap = omega (arith, rest.cheap, sum);
          }
    ]

pub sweeping-on : (n : ℕ) (ups downs : List ArcRec) (u v : ℕ) (old new : List ℕ) → IsGraph n downs → v < n
    → IsSweeping ups downs u n (slice_index old) → IsLoweredAlong downs v old new
    → IsSweeping ups downs u n (slice_index new)
sweeping-on n ups downs u v old new graph below before lowered = record {
  capped = λ w lt. omega (arith, before.capped w lt, lowered-falls downs v old new lowered w);
  met = λ w lt some.
      elim (cases_eq w v) [
        | inl same ↦
            subst (λ (x : ℕ). HasUpDown ups downs u x (slice_index new x)) (sym same)
            (lowered-met n ups downs u v old new graph below before lowered
            (subst (λ (x : ℕ). slice_index new x < INF) same some))
        | inr other ↦
            subst (HasUpDown ups downs u w) (sym (lowered.others w other))
            (before.met w lt (omega (arith, lowered.others w other, some)))
      ];
  low = λ w lt c has. omega (arith, before.low w lt c has, lowered-falls downs v old new lowered w);
}

-- no two walks that meet cost less than the new label, where the vertices to which v leads have least labels
lowered-least : (n : ℕ) (ups downs : List ArcRec) (u v k : ℕ) (order old new : List ℕ) → v < n
    → k < length order → slice_index order k ≡ v → IsUpward downs order
    → IsSweeping ups downs u n (slice_index old) → AreSwept ups downs u order k (slice_index old)
    → IsLoweredAlong downs v old new
    → (c top rise fall : ℕ) (up : HasWalk ups u top rise) (walk : List ArcRec)
    → IsWalk downs v walk top → cost walk ≤ fall → rise + fall ≤ c
    → slice_index new v ≤ c
lowered-least n ups downs u v k order old new below in-order here upward before swept lowered c top rise fall up [] walks cheap sum =
    omega (
      arith,
      before.low v below rise (subst (λ (x : ℕ). HasWalk ups u x rise) (sym walks) up),
      lowered.falls,
      sum,
    )
lowered-least n ups downs u v k order old new below in-order here upward before swept lowered c top rise fall up (arc ∷ walk) walks cheap sum =
    let at = upward k in-order arc walks.0 (walks.1 ∙ sym here) in
    let rest : HasUpDown ups downs u (slice_index order at.0) (rise + cost walk) = record {
      top = top;
      rise = rise;
      fall = cost walk;
      up = up;
      down = record {
        walk = walk;
        walks = subst (λ (x : ℕ). IsWalk downs x walk top) (sym at.2) walks.2;
        cheap = omega arith;
      };
      cheap = omega arith;
    } in
    let near : slice_index old arc.head ≤ rise + cost walk =
    subst (λ (x : ℕ). slice_index old x ≤ rise + cost walk) at.2 (swept at.0 at.1 (rise + cost walk) rest) in
    omega (arith, lowered.low arc walks.0 walks.1, near, cheap, sum)

pub swept-more : (n : ℕ) (ups downs : List ArcRec) (u v k : ℕ) (order old new : List ℕ) → v < n
    → k < length order → slice_index order k ≡ v → IsUpward downs order
    → IsSweeping ups downs u n (slice_index old) → AreSwept ups downs u order k (slice_index old)
    → IsLoweredAlong downs v old new
    → AreSwept ups downs u order (k + 1) (slice_index new)
swept-more n ups downs u v k order old new below in-order here upward before swept lowered j lt c met =
    elim (cases_lt j k) [
      | inl earlier ↦
          omega (arith, swept j earlier c met, lowered-falls downs v old new lowered (slice_index order j))
      | inr last ↦
          let same : j ≡ k = omega (arith, lt, last) in
          let at : slice_index order j ≡ v = subst (λ (i : ℕ). slice_index order i ≡ v) (sym same) here in
          subst (λ (x : ℕ). slice_index new x ≤ c) (sym at)
          (lowered-least n ups downs u v k order old new below in-order here upward before swept lowered c met.top met.rise
          met.fall met.up met.down.walk (subst (λ (x : ℕ). IsWalk downs x met.down.walk met.top) at met.down.walks)
          met.down.cheap met.cheap)
    ]

-- at the end labels are the least costs
pub swept-least : (n : ℕ) (ups downs : List ArcRec) (u : ℕ) (order : List ℕ) (label : ℕ → ℕ)
    → IsSweeping ups downs u n label → AreSwept ups downs u order (length order) label
    → (v : ℕ) → v < n → Contains order v → IsLeastUpDown ups downs u v (label v)
swept-least n ups downs u order label are swept v below within = record {
  capped = are.capped v below;
  met = are.met v below;
  least = λ c met.
      let at : slice_index order within.0 ≡ v = sym (get_or_read order within.0 v within.1 (sym within.2) 0) in
      subst (λ (x : ℕ). label x ≤ c) at
      (swept within.0 within.1 c (subst (λ (x : ℕ). HasUpDown ups downs u x c) (sym at) met));
}

-- what a row is offered is what the arcs that leave its vertex are
row-low : (graph : Graph) (v d : ℕ) (row : List Target) (label : ℕ → ℕ) → row ≡ targets_of graph.arcs v
    → All (λ target. d ≤ label target.head + target.weight) row
    → (arc : ArcRec) → Contains graph.arcs arc → arc.tail ≡ v → d ≤ label arc.head + arc.weight
row-low graph v d row label is low =
    row_all (λ (arc : ArcRec). d ≤ label arc.head + arc.weight) graph.arcs v
    (subst (All (λ (target : Target). d ≤ label target.head + target.weight)) is low)

row-met : (graph : Graph) → IsInRows graph → (v d : ℕ) (row : List Target) (label : ℕ → ℕ) → row ≡ targets_of graph.arcs v
    → IsOffered row label d
    → (arc : ArcRec) × Contains graph.arcs arc × (arc.tail ≡ v) × (label arc.head + arc.weight ≡ d)
row-met graph rows v d row label is offered = (
  arc_to v offered.target,
  (All-contains (λ (target : Target). Contains graph.arcs (arc_to v target) × (target.head < graph.n)) row offered.target
      (row_arcs graph rows v row is) offered.within).0,
  refl,
  offered.sum,
)

-- a label that is the least already is lowered
pub lowered-kept : (graph : Graph) (v d : ℕ) (row : List Target) (labels : List ℕ) → row ≡ targets_of graph.arcs v
    → All (λ target. d ≤ slice_index labels target.head + target.weight) row → d ≡ slice_index labels v
    → IsLoweredAlong graph.arcs v labels labels
lowered-kept graph v d row labels is low same = record {
  others = λ u other. refl;
  falls = omega arith;
  low = λ arc within leaves.
      omega (arith, same, row-low graph v d row (slice_index labels) is low arc within leaves);
  met = inl refl;
}

-- and one that is written
pub lowered-put : (graph : Graph) → IsInRows graph → (v d : ℕ) (row : List Target) (labels : List ℕ)
    → row ≡ targets_of graph.arcs v → v < length labels
    → All (λ target. d ≤ slice_index labels target.head + target.weight) row → d ≤ slice_index labels v
    → (d ≡ slice_index labels v) ⊎ IsOffered row (slice_index labels) d
    → IsLoweredAlong graph.arcs v labels (set labels v d)
lowered-put graph rows v d row labels is below low falls met =
    let here : slice_index (set labels v d) v ≡ d = get_or-set_same labels v d 0 below in
    record {
      others = λ u other. get_or-set_other labels v u d 0 other;
      falls = omega (arith, here, falls);
      low = λ arc within leaves.
          omega (arith, here, row-low graph v d row (slice_index labels) is low arc within leaves);
      met =
          elim met [
            | inl same ↦ inl (here ∙ same)
            | inr offered ↦
                let arc = row-met graph rows v d row (slice_index labels) is offered in
                inr (arc.0, arc.1, arc.2, arc.3 ∙ sym here)
          ];
    }
