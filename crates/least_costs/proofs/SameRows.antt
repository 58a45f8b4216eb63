-- Lists of arcs with the same rows, and what is left of them without some arcs.
use Rattle.std.proofs.Common.{◌≡◌, ◌∙◌, ℕ, zero, suc, ◌+◌, ◌<◌, ◌≤◌, Bool, true, false, List, [], ◌∷◌, ◌++◌, length, filter}
use Rattle.std.proofs.Common.{refl, sym, ap, ap₂, arith, subst}
use Rattle.std.specs.Prelude.{All, ◌==◌, ◌&&◌}
use Rattle.std.specs.List.{Contains}
use Rattle.std.proofs.lemmas.List.Elements.{All-append, All-cons, All-contains, All-contains_itself, All-filter, All-head}
use Rattle.std.proofs.lemmas.List.Elements.{All-nil, All-tail, All-weaker, filter-append, filter_passes}
use Rattle.route_walks.proofs.Facts.{same_arcs-sym}
use Rattle.csr_graph.specs.Graph.{HaveSameRows, first_place, row_of}
use Rattle.csr_graph.proofs.Facts.{first_place_all, first_place_next, first_place_zero}
use Rattle.route_walks.specs.declared.graph.ArcRec.{ArcRec}
use Rattle.route_walks.specs.Walk.{HaveSameArcs, IsArcBelow, IsGraph}
use Rattle.csr_graph.specs.Changes.{leads_between, without}
use Rattle.least_costs.specs.Network.{HasArcs, NetworkSeen}

both_step : {X : Type 0} (p q : X → Bool) (x : X) (xs : List X) (a : Bool) → p x ≡ a
    → filter q (filter p xs) ≡ filter (λ x. p x && q x) xs
    → filter q (filter p (x ∷ xs)) ≡ filter (λ x. p x && q x) (x ∷ xs)
both_step p q x xs true is same = grind (arith, is, same)
both_step p q x xs false is same = grind (arith, is, same)

row_step : (p : ArcRec → Bool) (u : ℕ) (arc : ArcRec) (arcs : List ArcRec) (a b : Bool) → p arc ≡ a
    → (arc.tail == u) ≡ b → row_of (filter p arcs) u ≡ filter p (row_of arcs u)
    → row_of (filter p (arc ∷ arcs)) u ≡ filter p (row_of (arc ∷ arcs) u)
row_step p u arc arcs true true a b same = grind (arith, a, b, same)
row_step p u arc arcs true false a b same = grind (arith, a, b, same)
row_step p u arc arcs false true a b same = grind (arith, a, b, same)
row_step p u arc arcs false false a b same = grind (arith, a, b, same)

-- the row of what passes a test is what passes it of the row
row_passes : (p : ArcRec → Bool) (arcs : List ArcRec) (u : ℕ) → row_of (filter p arcs) u ≡ filter p (row_of arcs u)
row_passes p [] u = refl
row_passes p (arc ∷ arcs) u = row_step p u arc arcs (p arc) (arc.tail == u) refl refl (row_passes p arcs u)

same_rows-filter : (p : ArcRec → Bool) (n : ℕ) (xs ys : List ArcRec) → HaveSameRows n xs ys
    → HaveSameRows n (filter p xs) (filter p ys)
same_rows-filter p n xs ys same u lt = row_passes p xs u ∙ ap (filter p) (same u lt) ∙ sym (row_passes p ys u)

same_rows-append : (n : ℕ) (xs ys more : List ArcRec) → HaveSameRows n xs ys → HaveSameRows n (xs ++ more) (ys ++ more)
same_rows-append n xs ys more same u lt =
    let leaves = λ (arc : ArcRec). arc.tail == u in
    filter-append leaves xs more
    ∙ ap (λ row. row ++ row_of more u) (same u lt)
    ∙ sym (filter-append leaves ys more)

-- rows that are the same begin at the same places
same_places : (n : ℕ) (xs ys : List ArcRec) → HaveSameRows n xs ys → (u : ℕ) → u ≤ n → first_place xs u ≡ first_place ys u
same_places n xs ys same zero le = first_place_zero xs ∙ sym (first_place_zero ys)
same_places n xs ys same (suc u) le =
    let next : u + 1 ≡ suc u = omega arith in
    subst (λ v. first_place xs v ≡ first_place ys v) next
    (first_place_next xs u
    ∙ ap₂ (λ place row. place + length row) (same_places n xs ys same u (omega arith)) (same u (omega arith))
    ∙ sym (first_place_next ys u))

-- so there are as many arcs
same_lengths : (n : ℕ) (xs ys : List ArcRec) → IsGraph n xs → IsGraph n ys → HaveSameRows n xs ys → length xs ≡ length ys
same_lengths n xs ys one other same =
    let tails = λ (arcs : List ArcRec) (graph : IsGraph n arcs).
    All-weaker (IsArcBelow n) (λ arc. arc.tail < n) (λ arc below. below.0) arcs graph in
    sym (first_place_all xs n (tails xs one)) ∙ same_places n xs ys same n (omega arith) ∙ first_place_all ys n (tails ys other)

filter_both : {X : Type 0} (p q : X → Bool) (xs : List X) → filter q (filter p xs) ≡ filter (λ x. p x && q x) xs
filter_both p q [] = refl
filter_both p q (x ∷ xs) = both_step p q x xs (p x) refl (filter_both p q xs)

-- the arcs between two vertices are those of a row that lead to the second
pub between_rows : (arcs : List ArcRec) (net : NetworkSeen) (tail head : ℕ) → HasArcs arcs net → tail < net.n
    → filter (λ arc. arc.head == head) (row_of net.arcs tail) ≡ filter (λ arc. leads_between arc (tail, head)) arcs
between_rows arcs net tail head has lt =
    ap (filter (λ (arc : ArcRec). arc.head == head)) (has.rows tail lt)
    ∙ filter_both (λ (arc : ArcRec). arc.tail == tail) (λ arc. arc.head == head) arcs

-- the arcs of a network from which some were removed, and to which others were added
pub changed_arcs : (arcs come : List ArcRec) (gone : List (ℕ × ℕ)) (net changed : NetworkSeen)
    → HasArcs arcs net → IsGraph net.n come → IsGraph net.n changed.arcs → changed.n ≡ net.n
    → HaveSameRows net.n changed.arcs (without gone net.arcs ++ come)
    → HasArcs (without gone arcs ++ come) changed
changed_arcs arcs come gone net changed has ends within vertices rows =
    let n = net.n in
    let left = without gone arcs ++ come in
    let graph = All-append (IsArcBelow n) (without gone arcs) come (All-filter _ (IsArcBelow n) arcs has.ends) ends in
    let same : HaveSameRows n changed.arcs left =
    λ u lt. rows u lt
    ∙ same_rows-append n (without gone net.arcs) (without gone arcs) come (same_rows-filter _ n net.arcs arcs has.rows) u lt in
    record {
      ends = rw vertices graph;
      rows = rw vertices same;
      count = same_lengths n changed.arcs left within graph same;
    }

-- ---- the same arcs, whatever their order

-- what is so of each arc that passes a test
filter_each : {X : Type 0} (P : X → Type 0) (p : X → Bool) (xs : List X) → All P (filter p xs)
    → All (λ x. p x ≡ true → P x) xs
filter_each P p [] holds = All-nil (λ x. p x ≡ true → P x)
filter_each P p (x ∷ xs) holds = by_test (p x) refl (λ rest. filter_each P p xs rest)
  where
    by_test : (b : Bool) → p x ≡ b → (All P (filter p xs) → All (λ x. p x ≡ true → P x) xs)
        → All (λ x. p x ≡ true → P x) (x ∷ xs)
    by_test true is rest =
        let both : All P (x ∷ filter p xs) = rw is at holds in
        All-cons (λ x. p x ≡ true → P x) x xs (λ _. All-head P x (filter p xs) both)
        (rest (All-tail P x (filter p xs) both))
    by_test false is rest =
        let later : All P (filter p xs) = rw is at holds in
        All-cons (λ x. p x ≡ true → P x) x xs (λ passes. absurd (cc)) (rest later)

filter_within : (p : ArcRec → Bool) (one other : List ArcRec) → HaveSameArcs one other → (arc : ArcRec)
    → Contains (filter p one) arc → Contains (filter p other) arc
filter_within p one other same arc here =
    let within = All-contains (Contains one) (filter p one) arc (All-filter p (Contains one) one (All-contains_itself one)) here in
    let passes = All-contains (λ x. p x ≡ true) (filter p one) arc (filter_passes p one) here in
    All-contains (λ x. p x ≡ true → Contains (filter p other) x) other arc
    (filter_each (Contains (filter p other)) p other (All-contains_itself (filter p other))) ((same arc).0 within) passes

pub same_arcs-filter : (p : ArcRec → Bool) (one other : List ArcRec) → HaveSameArcs one other
    → HaveSameArcs (filter p one) (filter p other)
same_arcs-filter p one other same arc = (
  filter_within p one other same arc,
  filter_within p other one (same_arcs-sym one other same) arc,
)
