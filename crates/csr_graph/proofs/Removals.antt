-- Keys of pairs of vertices, and the arcs that lead between none of the pairs.
use Rattle.std.proofs.Common.{◌≡◌, ◌≢◌, ◌∙◌, ℕ, suc, ◌+◌, ◌-◌, ◌^◌, ◌<◌, ◌≤◌, Bool, true, false, List, [], ◌∷◌, ◌++◌, length, map, get_or}
use Rattle.std.proofs.Common.{filter, take, drop, set, zero, append_assoc, length-set, get_or-set_same, get_or-set_other}
use Rattle.std.proofs.Common.{refl, sym, ap, ap₂, subst, arith, Result, Ok, Err, ◌⊎◌, inl, inr}
use Rattle.std.proofs.lemmas.List.{append-nil, get_or_append_left, get_or-append_right, get_or_default, length-append, length-map}
use Rattle.std.proofs.lemmas.List.{map-append, take_more}
use Rattle.std.proofs.Math.Seq.{drop-append_seam, take-append_seam}
use Rattle.std.proofs.lemmas.Bool.{cases_eq, cases_lt, eqb-true, ne_eqb}
use Rattle.std.specs.Prelude.{All, MatchResult, ◌==◌, ◌||◌, is_ok, not}
use Rattle.std.specs.List.{list_any}
use Rattle.std.specs.Ordering.{nat_cmp}
use Rattle.std.specs.List.Sorted.{IsBinarySearchResult, IsNonDecreasing}
use Rattle.std.proofs.lemmas.Bool.Decides.{eqb_tells}
use Rattle.std.proofs.lemmas.List.Elements.{All-append, All-cons, All-filter, All-head, All-nil, All-tail, filter-append}
use Rattle.std.proofs.lemmas.List.Elements.{filter_passes}
use Rattle.std.proofs.lemmas.List.Sums.{count_by-le-length, length-filter}
use Rattle.std.proofs.lemmas.List.Folds.{list_any_at, list_any_none}
use Rattle.std.proofs.lemmas.List.Sorted.{list_any-IsPermutation, searched}
use Rattle.route_walks.specs.declared.graph.ArcRec.{ArcRec}
use Rattle.csr_graph.specs.Changes.{leads_between, without}
use Rattle.csr_graph.specs.Graph.{Graph, IsInRows, arc_to, first_place, row_of, target_of, targets_of}
use Rattle.csr_graph.specs.Layout.{LiesIn, joined}
use Rattle.csr_graph.specs.Removal.{AreFirsts, AreJoined, AreKeysOf, AreTouched, HasMark, HaveRowsBetween}
use Rattle.csr_graph.specs.Removal.{has_key, key_of, rows_from, unkeyed}
use Rattle.csr_graph.specs.declared.target.Target.{Target}
use Rattle.csr_graph.proofs.Facts.{first_place_le, no_target, row_by_targets}
use Rattle.csr_graph.proofs.Filters.{filter-filter, filter_none}
use Rattle.csr_graph.proofs.Rows.{joined_length}
use Rattle.csr_graph.proofs.Sorting.{by_tail, by_tail_in_rows, by_tail_places, by_tail_rows, graph_of, joined_same, rows_joined}
use Rattle.route_walks.specs.Walk.{IsArcBelow, IsGraph}
use Rattle.route_walks.specs.declared.graph.TheConstants.{MAX_ARCS, MAX_VERTICES}

-- a pair is found by its key
key_tells : (arc : ArcRec) (pair : ℕ × ℕ) → arc.head < 2 ^ 32 → pair.1 < 2 ^ 32
    → leads_between arc pair ≡ (key_of pair == key_of (arc.tail, arc.head))
key_tells arc pair one other =
    grind (arith, eqb_tells arc.tail pair.0, eqb_tells arc.head pair.1, eqb_tells (key_of pair) (key_of (arc.tail, arc.head)))

-- among pairs, as among their keys
by_keys : (arc : ArcRec) (pairs : List (ℕ × ℕ)) → arc.head < 2 ^ 32 → All (λ pair. pair.1 < 2 ^ 32) pairs
    → list_any (leads_between arc) pairs ≡ has_key (map key_of pairs) arc
by_keys arc [] one all = refl
by_keys arc (pair ∷ pairs) one all =
    let P = λ (pair : ℕ × ℕ). pair.1 < 2 ^ 32 in
    ap₂ (λ a b. a || b) (key_tells arc pair one (All-head P pair pairs all))
    (by_keys arc pairs one (All-tail P pair pairs all))

-- a search of keys that rise finds the key exactly if it is there
pub search_tells : (keys : List ℕ) (key : ℕ) (r : Result ℕ ℕ) → IsNonDecreasing keys
    → IsBinarySearchResult (λ y. nat_cmp y key) keys r
    → list_any (λ k. k == key) keys ≡ is_ok r
search_tells keys key r rising is = by_result r (searched keys key r is (λ i j le lt. rising i j 0 le lt))
  where
    by_result : (r : Result ℕ ℕ)
        → MatchResult r (λ i. (i < length keys) × (get_or keys i 0 ≡ key))
        (λ i.
        (i ≤ length keys)
        × ((k : ℕ) → k < i → get_or keys k 0 < key)
        × ((k : ℕ) → i ≤ k → k < length keys → key < get_or keys k 0))
        → list_any (λ k. k == key) keys ≡ is_ok r
    by_result (Ok i) found =
        list_any_at (λ k. k == key) keys i 0 found.0 (grind (arith, eqb_tells (get_or keys i 0) key, found.1))
    by_result (Err i) none =
        list_any_none (λ k. k == key) keys
        (λ k d lt. by_side k d lt (cases_lt k i))
      where
        by_side : (k d : ℕ) → k < length keys → (k < i) ⊎ (i ≤ k) → (get_or keys k d == key) ≡ false
        by_side k d lt (inl before) =
            grind (arith, eqb_tells (get_or keys k d) key, get_or_default keys k d 0 lt, none.1 k before)
        by_side k d lt (inr from) =
            grind (arith, eqb_tells (get_or keys k d) key, get_or_default keys k d 0 lt, none.2 k from lt)

-- an arc whose key is there leads between one of the pairs
keyed_between : (arc : ArcRec) (pairs : List (ℕ × ℕ)) (keys : List ℕ) → arc.head < 2 ^ 32 → AreKeysOf pairs keys
    → list_any (leads_between arc) pairs ≡ has_key keys arc
keyed_between arc pairs keys head are =
    by_keys arc pairs head are.heads
    ∙ list_any-IsPermutation (λ k. k == key_of (arc.tail, arc.head)) (map key_of pairs) keys are.same

-- the same are left by keys
pub left_by_keys : (pairs : List (ℕ × ℕ)) (keys : List ℕ) (arcs : List ArcRec) → AreKeysOf pairs keys
    → All (λ arc. arc.head < 2 ^ 32) arcs
    → filter (λ arc. not (has_key keys arc)) arcs ≡ without pairs arcs
left_by_keys pairs keys [] are light = refl
left_by_keys pairs keys (arc ∷ arcs) are light =
    let H = λ (arc : ArcRec). arc.head < 2 ^ 32 in
    by_test (has_key keys arc) refl
    (keyed_between arc pairs keys (All-head H arc arcs light) are)
    (left_by_keys pairs keys arcs are (All-tail H arc arcs light))
  where
    by_test : (b : Bool) → has_key keys arc ≡ b → list_any (leads_between arc) pairs ≡ has_key keys arc
        → filter (λ arc. not (has_key keys arc)) arcs ≡ without pairs arcs
        → filter (λ arc. not (has_key keys arc)) (arc ∷ arcs) ≡ without pairs (arc ∷ arcs)
    by_test true is same rest = grind (arith, is, same, rest)
    by_test false is same rest = grind (arith, is, same, rest)

-- all are left if no pair begins at their tail
pub all_left : (pairs : List (ℕ × ℕ)) (u : ℕ) (arcs : List ArcRec) → All (λ pair. pair.0 ≡ u → ⊥) pairs
    → All (λ arc. arc.tail ≡ u) arcs → without pairs arcs ≡ arcs
all_left pairs u [] apart at = refl
all_left pairs u (arc ∷ arcs) apart at =
    let T = λ (arc : ArcRec). arc.tail ≡ u in
    let none : list_any (leads_between arc) pairs ≡ false =
    list_any_none (leads_between arc) pairs
    (λ k d lt. grind (
      arith,
      eqb_tells arc.tail (get_or pairs k d).0,
      eqb_tells arc.head (get_or pairs k d).1,
      All-head T arc arcs at,
      apart k d lt,
    )) in
    let rest = all_left pairs u arcs apart (All-tail T arc arcs at) in
    grind (arith, none, rest)

-- no more arcs are left than there were
pub fewer_left : (pairs : List (ℕ × ℕ)) (arcs : List ArcRec) → length (without pairs arcs) ≤ length arcs
fewer_left pairs arcs =
    subst (λ (count : ℕ). count ≤ length arcs) (sym (length-filter _ arcs)) (count_by-le-length _ arcs)

-- ---- marks

-- a mark more leaves all others
pub kept_marks : (marks : List Bool) (at : ℕ) → at < length marks → (u : ℕ) → get_or marks u false ≡ true
    → get_or (set marks at true) u false ≡ true
kept_marks marks at within u marked =
    elim (cases_eq at u) [
      | inl same ↦ rw (← same) (get_or-set_same marks at true false within)
      | inr other ↦
          let apart : u ≢ at = λ e. other (sym e) in
          rw get_or-set_other marked
    ]

-- one item more is marked
pub mark_one : {X : Type 0} (vertex : X → ℕ) (xs : List X) (marks : List Bool) (i at : ℕ) (none : X) → i < length xs
    → at ≡ vertex (get_or xs i none) → at < length marks → All (λ x. HasMark marks (vertex x)) (take i xs)
    → All (λ x. HasMark (set marks at true) (vertex x)) (take (i + 1) xs)
mark_one {X} vertex xs marks i at none lt is within was =
    let P = λ (x : X). HasMark (set marks at true) (vertex x) in
    rw (take_more xs i none lt)
    (All-append P (take i xs) _
    (λ k d less there. kept_marks marks at within _ (was k d less (rw length-set at there)))
    (All-cons P _ [] (λ there. rw (← is) (get_or-set_same marks at true false within)) (All-nil P)))

-- an item of no vertex needs no mark
pub skip_one : {X : Type 0} (vertex : X → ℕ) (xs : List X) (marks : List Bool) (i : ℕ) (none : X) → i < length xs
    → length marks ≤ vertex (get_or xs i none) → All (λ x. HasMark marks (vertex x)) (take i xs)
    → All (λ x. HasMark marks (vertex x)) (take (i + 1) xs)
skip_one {X} vertex xs marks i none lt past was =
    let P = λ (x : X). HasMark marks (vertex x) in
    rw (take_more xs i none lt)
    (All-append P (take i xs) _ was (All-cons P _ [] (λ there. absurd (omega (arith, past, there))) (All-nil P)))

-- no item is of a vertex without a mark
pub none_there : {X : Type 0} (vertex : X → ℕ) (xs : List X) (marks : List Bool) (u : ℕ) → u < length marks
    → get_or marks u false ≡ false → All (λ x. HasMark marks (vertex x)) xs → All (λ x. vertex x ≡ u → ⊥) xs
none_there {X} vertex xs marks u lt none marked k d less e =
    let is : get_or marks (vertex (get_or xs k d)) false ≡ true = marked k d less (omega (arith, e, lt)) in
    differ _ (rw e at is) none
  where
    differ : (b : Bool) → b ≡ true → b ≡ false → ⊥
    differ true is isn't = absurd (cc)
    differ false is isn't = absurd (cc)

-- ---- rows

pub one_left : (keys : List ℕ) (tail : ℕ) (row : List Target) (i : ℕ) → i < length row
    → has_key keys (arc_to tail (get_or row i no_target)) ≡ false
    → unkeyed keys tail (take (i + 1) row) ≡ unkeyed keys tail (take i row) ++ get_or row i no_target ∷ []
one_left keys tail row i lt is =
    let stays = λ (arc : ArcRec). not (has_key keys arc) in
    let before = map (arc_to tail) (take i row) in
    let last = arc_to tail (get_or row i no_target) in
    let one : filter stays (last ∷ []) ≡ last ∷ [] = grind (arith, is) in
    ap (unkeyed keys tail) (take_more row i no_target lt)
    ∙ ap (λ (arcs : List ArcRec). map target_of (filter stays arcs)) (map-append (arc_to tail) (take i row) _)
    ∙ ap (map target_of) (filter-append stays before (last ∷ []) ∙ ap (λ (arcs : List ArcRec). filter stays before ++ arcs) one)
    ∙ map-append target_of (filter stays before) (last ∷ [])

pub one_removed : (keys : List ℕ) (tail : ℕ) (row : List Target) (i : ℕ) → i < length row
    → has_key keys (arc_to tail (get_or row i no_target)) ≡ true
    → unkeyed keys tail (take (i + 1) row) ≡ unkeyed keys tail (take i row)
one_removed keys tail row i lt is =
    let stays = λ (arc : ArcRec). not (has_key keys arc) in
    let before = map (arc_to tail) (take i row) in
    let last = arc_to tail (get_or row i no_target) in
    let none : filter stays (last ∷ []) ≡ [] = grind (arith, is) in
    ap (unkeyed keys tail) (take_more row i no_target lt)
    ∙ ap (λ (arcs : List ArcRec). map target_of (filter stays arcs)) (map-append (arc_to tail) (take i row) _)
    ∙ ap (map target_of) (filter-append stays before (last ∷ []) ∙ ap (λ (arcs : List ArcRec). filter stays before ++ arcs) none ∙ append-nil (filter stays before))

-- what is left of a row by keys is the row of what is left
pub left_row : (pairs : List (ℕ × ℕ)) (keys : List ℕ) (graph : Graph) (u : ℕ) → IsInRows graph → AreKeysOf pairs keys
    → unkeyed keys u (targets_of graph.arcs u) ≡ targets_of (without pairs graph.arcs) u
left_row pairs keys graph u rows are =
    let leaves = λ (arc : ArcRec). arc.tail == u in
    let stays = λ (arc : ArcRec). not (list_any (leads_between arc) pairs) in
    let H = λ (arc : ArcRec). arc.head < 2 ^ 32 in
    let light : All H (row_of graph.arcs u) =
    All-filter leaves H graph.arcs (λ k d lt. omega (arith, (rows.ends k d lt).1, rows.vertices)) in
    ap (λ (arcs : List ArcRec). map target_of (filter (λ arc. not (has_key keys arc)) arcs)) (row_by_targets graph.arcs u)
    ∙ ap (map target_of) (left_by_keys pairs keys (row_of graph.arcs u) are light ∙ filter-filter stays leaves graph.arcs)

-- a row without a mark is left whole
pub untouched : (pairs : List (ℕ × ℕ)) (arcs added : List ArcRec) (keys : List ℕ) (marks : List Bool) (u : ℕ)
    → AreTouched pairs added keys marks → u < length marks → get_or marks u false ≡ false
    → row_of (without pairs arcs ++ added) u ≡ row_of arcs u
untouched pairs arcs added keys marks u touched lt none =
    let leaves = λ (arc : ArcRec). arc.tail == u in
    let stays = λ (arc : ArcRec). not (list_any (leads_between arc) pairs) in
    let T = λ (arc : ArcRec). arc.tail ≡ u in
    let at : All T (row_of arcs u) = λ k d less. eqb-true _ _ (filter_passes leaves arcs k d less) in
    let apart = none_there (λ (pair : ℕ × ℕ). pair.0) pairs marks u lt none touched.removed in
    let others = none_there (λ (arc : ArcRec). arc.tail) added marks u lt none touched.come in
    filter-append leaves (without pairs arcs) added
    ∙ ap₂ (λ (a b : List ArcRec). a ++ b)
    (filter-filter leaves stays arcs ∙ all_left pairs u (row_of arcs u) apart at)
    (filter_none leaves added (λ k d less. ne_eqb _ _ (others k d less)))
    ∙ append-nil (row_of arcs u)

-- ---- joined rows

-- rows that are joined are those before a vertex, and those from it on
joined_add : (row : ℕ → List ArcRec) (a b : ℕ) → joined row (a + b) ≡ joined row a ++ joined (λ j. row (a + j)) b
joined_add row a zero =
    let e : a + 0 ≡ a = omega arith in
    rw e (sym (append-nil (joined row a)))
joined_add row a (suc b) =
    let e : a + suc b ≡ suc (a + b) = omega arith in
    rw (e, joined_add row a b) (append_assoc (joined row a) (joined (λ j. row (a + j)) b) (row (a + b)))

-- where a later row begins
place_after : (arcs : List ArcRec) (from count : ℕ)
    → first_place arcs (from + count) ≡ first_place arcs from + length (rows_from arcs from count)
place_after arcs from count =
    sym (joined_length arcs (from + count))
    ∙ ap length (joined_add (row_of arcs) from count)
    ∙ length-append (joined (row_of arcs) from) (rows_from arcs from count)
    ∙ ap (λ (k : ℕ). k + length (rows_from arcs from count)) (joined_length arcs from)

same_between : (xs ys : List ArcRec) (from count : ℕ)
    → ((u : ℕ) → from ≤ u → u < from + count → row_of xs u ≡ row_of ys u) → rows_from xs from count ≡ rows_from ys from count
same_between xs ys from count same =
    joined_same _ _ count (λ j lt. same (from + j) (omega arith) (omega arith))

-- rows that are the same begin as far from the first of them
pub same_offset : (xs ys : List ArcRec) (from to u : ℕ) → HaveRowsBetween from to xs ys → from ≤ u → u ≤ to
    → first_place xs u ≡ first_place xs from + (first_place ys u - first_place ys from)
same_offset xs ys from to u same low high =
    let here : from + (u - from) ≡ u = omega arith in
    let rows = same_between xs ys from (u - from) (λ v le lt. same v le (omega arith)) in
    let one = place_after xs from (u - from) in
    let other = place_after ys from (u - from) in
    omega (arith, rw here at one, rw here at other, ap length rows)

-- the targets of some rows stand from the first one's place on
pub rows_stand : (graph : Graph) → IsInRows graph → (from to : ℕ) → from ≤ to → to ≤ graph.n
    → take (first_place graph.arcs to - first_place graph.arcs from)
    (drop (first_place graph.arcs from) (map target_of graph.arcs))
    ≡ map target_of (rows_from graph.arcs from (to - from))
rows_stand graph rows from to order within =
    let arcs = graph.arcs in
    let middle = rows_from arcs from (to - from) in
    let rest = rows_from arcs to (graph.n - to) in
    let front = joined (row_of arcs) from in
    let upto : from + (to - from) ≡ to = omega arith in
    let all : to + (graph.n - to) ≡ graph.n = omega arith in
    let whole : arcs ≡ front ++ (middle ++ rest) =
    rows_joined graph rows
    ∙ ap (joined (row_of arcs)) (sym all)
    ∙ joined_add (row_of arcs) to (graph.n - to)
    ∙ ap (λ (before : List ArcRec). before ++ rest)
    (ap (joined (row_of arcs)) (sym upto) ∙ joined_add (row_of arcs) from (to - from))
    ∙ append_assoc front middle rest in
    let after = place_after arcs from (to - from) in
    let long : first_place arcs to - first_place arcs from ≡ length (map target_of middle) =
    omega (arith, rw upto at after, length-map middle target_of) in
    let first : first_place arcs from ≡ length (map target_of front) =
    omega (arith, joined_length arcs from, length-map front target_of) in
    let targets : map target_of arcs ≡ map target_of front ++ (map target_of middle ++ map target_of rest) =
    ap (map target_of) whole
    ∙ map-append target_of front (middle ++ rest)
    ∙ ap (λ (ts : List Target). map target_of front ++ ts) (map-append target_of middle rest) in
    rw (targets, long, first, drop-append_seam (map target_of front) (map target_of middle ++ map target_of rest))
    (take-append_seam (map target_of middle) (map target_of rest))

-- one first more
pub firsts_more : (u place : ℕ) (arcs : List ArcRec) (firsts : List ℕ) → AreFirsts u arcs firsts
    → place ≡ first_place arcs u → AreFirsts (u + 1) arcs (firsts ++ place ∷ [])
firsts_more u place arcs firsts was is = record {
  rows = omega (arith, length-append firsts (place ∷ []), was.rows);
  begins = λ v lt.
      elim (cases_lt v u) [
        | inl less ↦ rw (get_or_append_left firsts (place ∷ []) 0 v (omega (arith, was.rows))) (was.begins v less)
        | inr more ↦
            let same : v ≡ u = omega arith in
            let none : v - u ≡ 0 = omega arith in
            let last : get_or (firsts ++ place ∷ []) v 0 ≡ place =
            get_or-append_right firsts (place ∷ []) u v 0 was.rows (omega arith)
            ∙ ap (λ (k : ℕ). get_or (place ∷ []) k 0) none in
            last ∙ is ∙ ap (first_place arcs) (sym same)
      ];
}

-- where the targets of joined rows end
pub targets_end : (count : ℕ) (arcs : List ArcRec) (firsts : List ℕ) (targets : List Target)
    → AreJoined count arcs firsts targets → length targets ≡ first_place arcs count
targets_end count arcs firsts targets are =
    ap length are.leads ∙ length-map (joined (row_of arcs) count) target_of ∙ joined_length arcs count

-- one row more
pub joined_more : (u last : ℕ) (arcs : List ArcRec) (firsts : List ℕ) (targets row more : List Target)
    → AreJoined u arcs firsts targets → last ≡ length targets → row ++ more ≡ targets_of arcs u
    → AreJoined (u + 1) arcs (firsts ++ last ∷ []) ((targets ++ row) ++ more)
joined_more u last arcs firsts targets row more was end is =
    let next : u + 1 ≡ suc u = omega arith in
    record {
      begin = firsts_more u last arcs firsts was.begin (end ∙ targets_end u arcs firsts targets was);
      leads =
          append_assoc targets row more
          ∙ ap₂ (λ (a b : List Target). a ++ b) was.leads is
          ∙ sym (map-append target_of (joined (row_of arcs) u) (row_of arcs u))
          ∙ ap (λ (v : ℕ). map target_of (joined (row_of arcs) v)) (sym next);
    }

-- some rows more, which are those of other arcs
pub joined_rows : (from to : ℕ) (arcs other : List ArcRec) (firsts : List ℕ) (targets : List Target) → from ≤ to
    → HaveRowsBetween from to arcs other → AreFirsts to arcs firsts
    → targets ≡ map target_of (joined (row_of arcs) from)
    → AreJoined to arcs firsts (targets ++ map target_of (rows_from other from (to - from)))
joined_rows from to arcs other firsts targets order same begin leads =
    let upto : from + (to - from) ≡ to = omega arith in
    let rows = same_between arcs other from (to - from) (λ v le lt. same v le (omega arith)) in
    record {
      begin = begin;
      leads =
          ap₂ (λ (a b : List Target). a ++ b) leads (ap (map target_of) (sym rows))
          ∙ sym (map-append target_of (joined (row_of arcs) from) (rows_from arcs from (to - from)))
          ∙ ap (map target_of) (sym (joined_add (row_of arcs) from (to - from)) ∙ ap (joined (row_of arcs)) upto);
    }

-- all rows lie in the lists
pub joined_lies : (n last : ℕ) (arcs : List ArcRec) (firsts : List ℕ) (targets : List Target) → IsGraph n arcs
    → n ≤ MAX_VERTICES → length arcs ≤ MAX_ARCS → last ≡ length targets → AreJoined n arcs firsts targets
    → LiesIn (firsts ++ last ∷ []) targets (graph_of n (by_tail arcs))
joined_lies n last arcs firsts targets graph vertices places end are =
    let rows = by_tail_in_rows n arcs graph vertices places in
    let whole : joined (row_of arcs) n ≡ by_tail arcs =
    joined_same _ _ n (λ u lt. sym (by_tail_rows arcs u)) ∙ sym (rows_joined (graph_of n (by_tail arcs)) rows) in
    let all = firsts_more n last arcs firsts are.begin (end ∙ targets_end n arcs firsts targets are) in
    record {
      in_rows = rows;
      rows = all.rows;
      begins = λ u le. all.begins u (omega arith) ∙ sym (by_tail_places arcs u);
      leads = are.leads ∙ ap (map target_of) whole;
    }

-- the rows from which some arcs were removed, and to which others were added, lie in the lists
pub changed_lies : (pairs : List (ℕ × ℕ)) (graph : Graph) (added : List ArcRec) (n last : ℕ) (firsts : List ℕ)
    (targets : List Target) → IsInRows graph → IsGraph graph.n added → length graph.arcs + length added ≤ MAX_ARCS
    → n ≡ graph.n → last ≡ length targets → AreJoined n (without pairs graph.arcs ++ added) firsts targets
    → LiesIn (firsts ++ last ∷ []) targets (graph_of graph.n (by_tail (without pairs graph.arcs ++ added)))
changed_lies pairs graph added n last firsts targets rows ends places all is joined =
    let left = without pairs graph.arcs in
    (joined_lies graph.n last (left ++ added) firsts targets
    (All-append (IsArcBelow graph.n) left added (All-filter _ (IsArcBelow graph.n) graph.arcs rows.ends) ends)
    rows.vertices (omega (arith, places, fewer_left pairs graph.arcs, length-append left added)) is
    (subst (λ (m : ℕ). AreJoined m (left ++ added) firsts targets) all joined))

-- no more targets are joined than a graph may have arcs
pub few_targets : (pairs : List (ℕ × ℕ)) (arcs added : List ArcRec) (count : ℕ) (firsts : List ℕ) (targets : List Target)
    → length arcs + length added ≤ MAX_ARCS → AreJoined count (without pairs arcs ++ added) firsts targets
    → length targets ≤ MAX_ARCS
few_targets pairs arcs added count firsts targets places are =
    let all = without pairs arcs ++ added in
    omega (
      arith,
      places,
      targets_end count all firsts targets are,
      first_place_le all count,
      fewer_left pairs arcs,
      length-append (without pairs arcs) added,
    )
