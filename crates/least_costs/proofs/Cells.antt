-- Cells of landmarks: what they differ by tells what walks cost at least.
use Rattle.std.proofs.Common.{◌≡◌, ◌≢◌, ◌∙◌, ℕ, ◌+◌, ◌-◌, ◌*◌, ◌^◌, ◌<◌, ◌≤◌, Bool, true, List, ap, arith, get_or, inl, inr}
use Rattle.std.proofs.Common.{length, refl, subst, sym, [], ◌++◌}
use Rattle.std.proofs.lemmas.List.{append-nil}
use Rattle.route_walks.specs.declared.graph.ArcRec.{ArcRec}
use Rattle.std.specs.Prelude.{min, slice_index}
use Rattle.std.specs.List.{All}
use Rattle.std.proofs.Math.Nat.{add-mul}
use Rattle.std.proofs.lemmas.Nat.{mul-le}
use Rattle.std.proofs.lemmas.Bool.{cases_Bool, cases_eq, cases_lt, le-ltb, lt-ltb}
use Rattle.route_walks.specs.declared.graph.TheConstants.{INF}
use Rattle.route_walks.specs.Label.{IsRelaxed}
use Rattle.route_walks.specs.Bounds.{IsRelaxedBackward, gap}
use Rattle.route_walks.specs.Walk.{cost}
use Rattle.route_walks.proofs.Facts.{backward_labels_are_bounds, relaxed_labels_are_bounds}
use Rattle.csr_graph.specs.Bounds.{AreBounds, bound_of}
use Rattle.csr_graph.specs.declared.bounds.Bounds.{Bounds}
use Rattle.csr_graph.specs.declared.bounds.TheConstants.{FINITE_CELLS}
use Rattle.csr_graph.specs.Graph.{Graph}
use Rattle.least_costs.specs.Landmarks.{AreHighest, AreLandmarks, AreLowest, IsCell, IsLightGraph, IsTold, LandmarksSeen, column}
use Rattle.least_costs.proofs.Covering.{graph_told, told-graph}
use Rattle.least_costs.specs.declared.network.landmarks.TheConstants.{MAX_UNIT}

-- some units, but not so many as to INF
bound-some : (unit units : ℕ) → 0 < units → units < FINITE_CELLS → bound_of unit units ≡ min ((units - 1) * unit + 1) INF
bound-some unit units some few = rw (lt-ltb units FINITE_CELLS few, lt-ltb 0 units some) refl

-- as many as to INF
bound-far : (unit units : ℕ) → FINITE_CELLS ≤ units → bound_of unit units ≡ INF
bound-far unit units far = rw (le-ltb units FINITE_CELLS far) refl

-- no units tell nothing
bound-none : (unit units : ℕ) → units ≡ 0 → bound_of unit units ≡ 0
bound-none unit units none = ap (bound_of unit) none

bound-capped : (unit units : ℕ) → bound_of unit units ≤ INF
bound-capped unit units =
    elim (cases_lt units FINITE_CELLS) [
      | inr far ↦ omega (arith, bound-far unit units far)
      | inl few ↦
          elim (cases_lt 0 units) [
            | inl some ↦ omega (arith, bound-some unit units some few)
            | inr none ↦ omega (arith, bound-none unit units (omega (arith, none)))
          ]
    ]

-- more units tell no less
pub bound-more : (unit few more : ℕ) → few ≤ more → bound_of unit few ≤ bound_of unit more
bound-more unit few more le =
    elim (cases_lt more FINITE_CELLS) [
      | inr far ↦ omega (arith, bound-far unit more far, bound-capped unit few)
      | inl finite ↦
          elim (cases_lt 0 few) [
            | inr none ↦ omega (arith, bound-none unit few (omega (arith, none)))
            | inl some ↦
                omega (
                  arith,
                  bound-some unit few some (omega (arith, le, finite)),
                  bound-some unit more (omega (arith, le, some))
                      finite,
                  mul-le (few - 1) unit (more - 1) unit (omega (arith, le)) (omega arith),
                )
          ]
    ]

-- gaps of labels one of which may be INF
gap-finite : (far near : ℕ) → far < INF → gap far near ≡ far - near
gap-finite far near found = rw (lt-ltb far INF found) refl

gap-none : (near : ℕ) → near ≤ 2 ^ 60 → gap INF near ≡ INF
gap-none near low = rw (le-ltb (2 ^ 60) near low) refl

-- a cell below that of INF is of a label that a walk may cost
cell-low : (unit cell label : ℕ) → unit ≤ MAX_UNIT → IsCell unit cell label → cell < FINITE_CELLS → label < 2 ^ 60
cell-low unit cell label small is finite =
    omega (arith, (is.finite finite).1, mul-le cell unit 32767 MAX_UNIT (omega (arith, finite)) small, small)

-- a cell takes 16 bits
cell-fits : (unit cell label : ℕ) → IsCell unit cell label → cell ≤ 65535
cell-fits unit cell label is =
    elim (cases_lt cell FINITE_CELLS) [
      | inl finite ↦ omega (arith, finite)
      | inr none ↦ omega (arith, (is.none none).0)
    ]

-- the units by which two cells differ tell no more than the gap of their labels
pub cells-tell : (unit far near label other : ℕ) → unit ≤ MAX_UNIT → IsCell unit far label → IsCell unit near other
    → bound_of unit (far - near) ≤ gap label other
cells-tell unit far near label other small is_far is_near =
    elim (cases_lt near FINITE_CELLS) [
      | inr none ↦
          elim (cases_lt far FINITE_CELLS) [
            | inl finite ↦ omega (arith, bound-none unit (far - near) (omega (arith, finite, none)))
            | inr both ↦
                omega (arith, bound-none unit (far - near) (omega (arith, (is_near.none none).0, (is_far.none both).0)))
          ]
      | inl low ↦
          elim (cases_lt far FINITE_CELLS) [
            | inr none ↦
                let most : gap label other ≡ INF =
                ap (λ (x : ℕ). gap x other) (is_far.none none).1
                ∙ gap-none other (omega (arith, cell-low unit near other small is_near low)) in
                omega (arith, most, bound-capped unit (far - near))
            | inl finite ↦
                let gap_is = gap-finite label other (omega (arith, cell-low unit far label small is_far finite)) in
                elim (cases_lt 0 (far - near)) [
                  | inr none ↦ omega (arith, bound-none unit (far - near) (omega (arith, none)))
                  | inl some ↦
                      let rest = far - near - 1 in
                      let parts : far * unit ≡ near * unit + rest * unit + unit =
                      ap (λ (x : ℕ). x * unit) (omega (arith, some)) ∙ add-mul (near + rest) 1 unit
                      ∙ omega (arith, add-mul near rest unit) in
                      omega (
                        arith,
                        bound-some unit (far - near) some (omega (arith, finite)),
                        gap_is,
                        (is_far.finite finite).0,
                        (is_near.finite low).1,
                        parts,
                      )
                ]
          ]
    ]

-- the cells of labels along which arcs are relaxed tell what walks cost at least
pub labels-told : (graph : Graph) (unit : ℕ) (both : Bool) (cell label : ℕ → ℕ) → IsLightGraph graph → unit ≤ MAX_UNIT
    → All (IsRelaxed label) graph.arcs
    → (both ≡ true → All (IsRelaxedBackward label) graph.arcs)
    → ((v : ℕ) → v < graph.n → IsCell unit (cell v) (label v))
    → IsTold graph unit both cell
labels-told graph unit both cell label is small relaxed backward cells v t v-in t-in = (
  λ walk walks.
      omega (
        arith,
        cells-tell unit (cell t) (cell v) (label t) (label v) small (cells t t-in) (cells v v-in),
        relaxed_labels_are_bounds graph.n graph.arcs label is.few is.ends is.light relaxed v t (label t) v-in (omega arith) walk walks,
      ),
  λ twins walk walks.
      omega (
        arith,
        cells-tell unit (cell v) (cell t) (label v) (label t) small (cells v v-in) (cells t t-in),
        backward_labels_are_bounds graph.n graph.arcs label is.few is.ends is.light (backward twins) v t (label t) v-in (omega arith)
            walk walks,
      ),
)

-- cells that are all 0 tell nothing
pub none-told : (graph : Graph) (unit : ℕ) (both : Bool) (cell : ℕ → ℕ) → ((v : ℕ) → cell v ≡ 0)
    → IsTold graph unit both cell
none-told graph unit both cell zero v t v-in t-in = (
  λ walk walks. omega (arith, bound-none unit (cell t - cell v) (omega (arith, zero t))),
  λ _ walk walks. omega (arith, bound-none unit (cell v - cell t) (omega (arith, zero v))),
)

-- other cells that are the same tell the same, one way at least
pub told-same : (graph : Graph) (unit : ℕ) (both other : Bool) (cell same : ℕ → ℕ)
    → ((v : ℕ) → v < graph.n → same v ≡ cell v)
    → (other ≡ true → both ≡ true)
    → IsTold graph unit both cell
    → IsTold graph unit other same
told-same graph unit both other cell same is less told v t v-in t-in =
    let here = is v v-in in
    let there = is t t-in in
    let tells = told v t v-in t-in in (
      λ walk walks.
          subst (λ (units : ℕ). bound_of unit units ≤ cost walk)
          (ap (λ (x : ℕ). cell t - x) (sym here) ∙ ap (λ (x : ℕ). x - same v) (sym there)) (tells.0 walk walks),
      λ twins walk walks.
          subst (λ (units : ℕ). bound_of unit units ≤ cost walk)
          (ap (λ (x : ℕ). cell v - x) (sym there) ∙ ap (λ (x : ℕ). x - same t) (sym here)) (tells.1 (less twins) walk walks),
    )

-- one landmark more, or other costs of one, if no arc is gone
pub landmarks-more : (seen : LandmarksSeen) (at : ℕ) (both : Bool) (cells labels : List ℕ) → AreLandmarks seen
    → seen.gone ≡ []
    → All (IsRelaxed (slice_index labels)) seen.graph.arcs
    → (both ≡ true → All (IsRelaxedBackward (slice_index labels)) seen.graph.arcs)
    → (both ≡ true → seen.is_two_way ≡ true)
    → length cells ≡ length seen.cells
    → ((v : ℕ) → v < seen.graph.n → IsCell seen.unit (column seen.count cells at v) (slice_index labels v))
    → ((i v : ℕ) → i < seen.count → i ≢ at → column seen.count cells i v ≡ column seen.count seen.cells i v)
    → AreLandmarks (record {
      graph = seen.graph;
      count = seen.count;
      cells = cells;
      unit = seen.unit;
      is_two_way = both;
      gone = seen.gone;
    })
landmarks-more seen at both cells labels are none relaxed backward less same put others = record {
  light = are.light;
  unit = are.unit;
  room = same ∙ are.room;
  fit = λ i v i-in v-in.
      elim (cases_eq i at) [
        | inl is ↦ subst (λ (k : ℕ). column seen.count cells k v ≤ 65535) (sym is) (cell-fits seen.unit _ _ (put v v-in))
        | inr differs ↦ omega (arith, others i v i-in differs, are.fit i v i-in v-in)
      ];
  told = λ i i-in.
      elim (cases_eq i at) [
        | inl is ↦
            subst (λ (k : ℕ). IsTold (graph_told seen) seen.unit both (column seen.count cells k)) (sym is)
            (subst (λ (arcs : List ArcRec). IsTold (record { n = seen.graph.n; arcs = arcs }) seen.unit both (column seen.count cells at))
            (sym (append-nil seen.graph.arcs) ∙ ap (λ (gone : List ArcRec). seen.graph.arcs ++ gone) (sym none))
            (labels-told seen.graph seen.unit both (column seen.count cells at) (slice_index labels) are.light are.unit relaxed
            backward put))
        | inr differs ↦
            told-same (graph_told seen) seen.unit seen.is_two_way both (column seen.count seen.cells i)
            (column seen.count cells i) (λ v v-in. others i v i-in differs) less (are.told i i-in)
      ];
}

-- the cells of landmarks, and the least and the greatest of some targets, are bounds of the way to these
pub landmarks-bound : (seen : LandmarksSeen) (bounds : Bounds) → AreLandmarks seen
    → All (λ t. t < seen.graph.n) bounds.targets.now
    → AreLowest seen bounds.targets.now bounds.low.now
    → AreHighest seen bounds.targets.now bounds.high.now
    → bounds.cells.now ≡ seen.cells
    → bounds.unit ≡ seen.unit
    → AreBounds seen.graph bounds
landmarks-bound seen bounds are within lowest highest cells units v i below here room =
    let count = length bounds.low.now in
    let low = slice_index bounds.low.now i in
    let high = slice_index bounds.high.now i in
    let i-in : i < seen.count = omega (arith, here, lowest.count) in
    let cell : ℕ → ℕ = column seen.count seen.cells i in
    let own : slice_index bounds.cells.now (v * count + i) ≡ cell v =
    ap (λ (cs : List ℕ). slice_index cs (v * count + i)) cells
    ∙ ap (λ (c : ℕ). slice_index seen.cells (v * c + i)) lowest.count in
    let told = told-graph seen i are i-in in (
      λ k d lt walk walks.
          let t = get_or bounds.targets.now k d in
          let more = bound-more seen.unit (low - cell v) (cell t - cell v) (omega (arith, lowest.each i i-in k d lt)) in
          subst (λ (x : ℕ). bound_of bounds.unit (low - x) ≤ cost walk) (sym own)
          (subst (λ (u : ℕ). bound_of u (low - cell v) ≤ cost walk) (sym units)
          (omega (arith, more, (told v t below (within k d lt)).0 walk walks))),
      λ k d lt walk walks.
          let t = get_or bounds.targets.now k d in
          subst (λ (x : ℕ). bound_of bounds.unit (x - high) ≤ cost walk) (sym own)
          (subst (λ (u : ℕ). bound_of u (cell v - high) ≤ cost walk) (sym units)
          (elim (cases_Bool seen.is_two_way) [
            | inl twins ↦
                let more = bound-more seen.unit (cell v - high) (cell v - cell t)
                (omega (arith, highest.each i i-in twins k d lt)) in
                omega (arith, more, (told v t below (within k d lt)).1 twins walk walks)
            | inr one ↦
                omega (
                  arith,
                  bound-none seen.unit (cell v - high)
                      (omega (arith, highest.none i i-in one, are.fit i v i-in below)),
                )
          ])),
    )
