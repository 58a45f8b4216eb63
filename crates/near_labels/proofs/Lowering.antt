-- A search leaves a pause: labels are sound, the source is met, and each arc is relaxed or its tail is marked.
use Rattle.std.proofs.Common.{◌≡◌, ◌∙◌, sym, ap, refl, ℕ, ◌+◌, ◌<◌, ◌≤◌, Bool, true, false, List, [], length, get_or, set, take}
use Rattle.std.proofs.Common.{inl, inr, Some, subst, arith}
use Rattle.std.specs.Prelude.{min}
use Rattle.std.specs.Prelude.{All, Contains, slice_get, slice_index}
use Rattle.std.proofs.lemmas.List.{get_or-set_same, get_or-set_other, length-set}
use Rattle.std.proofs.lemmas.List.Elements.{All-cons, All-nil, All-more, All-contains}
use Rattle.std.proofs.lemmas.Bool.{cases_eq}
use Rattle.std.proofs.lemmas.Option.{get_or_from_slice_get, slice_get_within}
use Rattle.route_walks.specs.declared.graph.ArcRec.{ArcRec}
use Rattle.route_walks.specs.declared.graph.Seed.{Seed}
use Rattle.route_walks.specs.declared.graph.TheConstants.{INF}
use Rattle.route_walks.specs.Walk.{IsArcBelow, IsAttained}
use Rattle.route_walks.specs.Label.{IsMet, IsRelaxed}
use Rattle.route_walks.specs.Operators.{seeds_from}
use Rattle.route_walks.proofs.Facts.{attained-start, attained-along}
use Rattle.csr_graph.specs.Graph.{Graph, IsInRows, arc_to, targets_of}
use Rattle.csr_graph.specs.declared.target.Target.{Target}
use Rattle.csr_graph.proofs.Facts.{row_all}
use Rattle.relax_core.specs.State.{mark_of}
use Rattle.label_words.specs.Paused.{IsPause}
use Rattle.near_labels.specs.Noted.{IsBlank, rest_of}

-- what holds of each element by its place, and of x at v, holds of each once x is at v
each-put : {A : Type 0} (P : ℕ → A → Type 0) (none : A) (xs : List A) (v : ℕ) (x : A) → v < length xs
    → ((w : ℕ) → P w (get_or xs w none)) → P v x
    → (w : ℕ) → P w (get_or (set xs v x) w none)
each-put P none xs v x below each here w =
    elim (cases_eq w v) [
      | inl same ↦
          subst (λ (y : ℕ). P y (get_or (set xs v x) y none)) (sym same)
          (subst (P v) (sym (get_or-set_same xs v x none below)) here)
      | inr other ↦ subst (P w) (sym (get_or-set_other xs v w x none other)) (each w)
    ]

-- no label rises where one falls
pub falls-set : (labels : List ℕ) (v x : ℕ) → v < length labels → x ≤ get_or labels v 0
    → (w : ℕ) → get_or (set labels v x) w 0 ≤ get_or labels w 0
falls-set labels v x below less =
    each-put (λ (w d : ℕ). d ≤ get_or labels w 0) 0 labels v x below (λ w. omega arith) less

-- an arc stands in the list
arc-in : (arcs : List ArcRec) (k : ℕ) (arc : ArcRec) → slice_get arcs k ≡ Some arc → Contains arcs arc
arc-in arcs k arc is = (k, slice_get_within arcs k arc is, get_or_from_slice_get arcs k arc arc is)

-- a label that falls to what is attained there, and a mark with it, leave a pause
pub pause-lower : (graph : Graph) (seeds : List Seed) (labels : List ℕ) (marks : List Bool) (v x : ℕ)
    → IsPause graph seeds (rest_of labels marks) → v < graph.n → x < slice_index labels v
    → IsAttained graph.arcs seeds v x
    → IsPause graph seeds (rest_of (set labels v x) (set marks v true))
pause-lower graph seeds labels marks v x before below less attained =
    let inside : v < length labels = omega (arith, before.going.labels) in
    let falls = falls-set labels v x inside (omega arith) in
    let marked : mark_of (set marks v true) v ≡ true =
    get_or-set_same marks v true false (omega (arith, before.going.marks)) in
    record {
      going = record {
        labels = length-set labels v x ∙ before.going.labels;
        marks = length-set marks v true ∙ before.going.marks;
        waits = λ k arc is.
            elim (cases_eq arc.tail v) [
              | inl same ↦ inr (subst (λ (w : ℕ). mark_of (set marks v true) w ≡ true) (sym same) marked)
              | inr other ↦
                  elim (before.going.waits k arc is) [
                    | inl relaxed ↦
                        inl (omega (arith, relaxed, falls arc.head, get_or-set_other labels v arc.tail x 0 other))
                    | inr marked' ↦ inr (get_or-set_other marks v arc.tail true false other ∙ marked')
                  ]
            ];
      };
      capped =
          each-put (λ (w d : ℕ). w < graph.n → d ≤ INF) 0 labels v x inside before.capped
          (λ _. omega (arith, less, before.capped v below));
      sound =
          each-put (λ (w d : ℕ). w < graph.n → d < INF → IsAttained graph.arcs seeds w d) 0 labels v x inside before.sound
          (λ _ _. attained);
      met = λ k d lt. omega (arith, falls (get_or seeds k d).vertex, before.met k d lt);
    }

-- where the arcs that leave u are relaxed, its mark may go
pub pause-unmark : (graph : Graph) (seeds : List Seed) (labels : List ℕ) (marks : List Bool) (u : ℕ)
    → IsPause graph seeds (rest_of labels marks)
    → All (λ target. IsRelaxed (slice_index labels) (arc_to u target)) (targets_of graph.arcs u)
    → IsPause graph seeds (rest_of labels (set marks u false))
pause-unmark graph seeds labels marks u before relaxed = record {
  going = record {
    labels = before.going.labels;
    marks = length-set marks u false ∙ before.going.marks;
    waits = λ k arc is.
        elim (cases_eq arc.tail u) [
          | inl same ↦
              inl (row_all (IsRelaxed (slice_index labels)) graph.arcs u relaxed arc (arc-in graph.arcs k arc is) same)
          | inr other ↦
              elim (before.going.waits k arc is) [
                | inl relaxed' ↦ inl relaxed'
                | inr marked ↦ inr (get_or-set_other marks u arc.tail false false other ∙ marked)
              ]
        ];
  };
  capped = before.capped;
  sound = before.sound;
  met = before.met;
}

-- a source with the label 0 and a mark, where all others are blank, is a pause
pub pause-begin : (graph : Graph) (labels : List ℕ) (marks : List Bool) (s : ℕ) → IsInRows graph
    → length labels ≡ graph.n → IsBlank labels marks → s < graph.n
    → IsPause graph (seeds_from s) (rest_of (set labels s 0) (set marks s true))
pause-begin graph labels marks s rows count blank below =
    let inside : s < length labels = omega arith in
    let here : get_or (set labels s 0) s 0 ≡ 0 = get_or-set_same labels s 0 0 inside in
    let capped : (w : ℕ) → w < graph.n → get_or (set labels s 0) w 0 ≤ INF =
    each-put (λ (w d : ℕ). w < graph.n → d ≤ INF) 0 labels s 0 inside
    (λ w lt. omega (arith, (blank.blank w (omega arith)).0)) (λ _. omega arith) in
    record {
      going = record {
        labels = length-set labels s 0 ∙ count;
        marks = length-set marks s true ∙ blank.count ∙ count;
        waits = λ k arc is.
            let ends = All-contains (IsArcBelow graph.n) graph.arcs arc rows.ends (arc-in graph.arcs k arc is) in
            elim (cases_eq arc.tail s) [
              | inl same ↦
                  inr (subst (λ (w : ℕ). mark_of (set marks s true) w ≡ true) (sym same)
                  (get_or-set_same marks s true false (omega (arith, blank.count))))
              | inr other ↦
                  inl (omega (
                    arith,
                    get_or-set_other labels s arc.tail 0 0 other,
                    (blank.blank arc.tail (omega (arith, ends.0))).0,
                    capped arc.head ends.1,
                  ))
            ];
      };
      capped = capped;
      sound =
          each-put (λ (w d : ℕ). w < graph.n → d < INF → IsAttained graph.arcs (seeds_from s) w d) 0 labels s 0 inside
          (λ w lt some. absurd (omega (arith, some, (blank.blank w (omega arith)).0)))
          (λ _ _. attained-start graph.arcs (seeds_from s) (record { vertex = s; start = 0 }) (0, omega arith, refl));
      met = All-cons (IsMet (slice_index (set labels s 0))) (record { vertex = s; start = 0 }) [] (omega (arith, here)) (All-nil _);
    }

-- u is visited as far as the first targets of its row, which are relaxed from its label
pub record IsVisiting (graph : Graph) (seeds : List Seed) (labels : List ℕ) (marks : List Bool) (u d : ℕ)
    (row : List Target) (count : ℕ) : Type 0 where
  pub pause : IsPause graph seeds (rest_of labels marks)
  pub label : slice_index labels u ≡ d
  pub relaxed : All (λ target. IsRelaxed (slice_index labels) (arc_to u target)) (take count row)

-- what an arc offers is attained at its head
pub offer-attained : (graph : Graph) (seeds : List Seed) (labels : List ℕ) (marks : List Bool) (arc : ArcRec) (x : ℕ)
    → IsPause graph seeds (rest_of labels marks) → Contains graph.arcs arc → arc.tail < graph.n
    → x < INF → slice_index labels arc.tail + arc.weight ≡ x
    → IsAttained graph.arcs seeds arc.head x
offer-attained graph seeds labels marks arc x before within below less sum =
    subst (IsAttained graph.arcs seeds arc.head) sum
    (attained-along graph.arcs seeds arc (slice_index labels arc.tail) within
    (before.sound arc.tail below (omega (arith, sum, less))))

-- the next target's label falls to what the arc offers
pub visit-lower : (graph : Graph) (seeds : List Seed) (labels : List ℕ) (marks : List Bool) (u d x : ℕ)
    (row : List Target) (k : ℕ) (none : Target)
    → IsVisiting graph seeds labels marks u d row k → k < length row → u < graph.n
    → Contains graph.arcs (arc_to u (get_or row k none)) × ((get_or row k none).head < graph.n)
    → x ≡ min (d + (get_or row k none).weight) INF
    → x < slice_index labels (get_or row k none).head
    → IsVisiting graph seeds (set labels (get_or row k none).head x) (set marks (get_or row k none).head true) u d row (k + 1)
visit-lower graph seeds labels marks u d x row k none before here below at is less =
    let target = get_or row k none in
    let v = target.head in
    let inside : v < length labels = omega (arith, at.1, before.pause.going.labels) in
    let low : x < INF = omega (arith, less, before.pause.capped v at.1) in
    let sum : slice_index labels u + target.weight ≡ x = omega (arith, before.label, is, low) in
    let attained = offer-attained graph seeds labels marks (arc_to u target) x before.pause at.0 below low sum in
    let falls = falls-set labels v x inside (omega arith) in
    let apart : u ≡ v → ⊥ = λ same. absurd (omega (arith, less, is, before.label, ap (slice_index labels) same)) in
    let label : slice_index (set labels v x) u ≡ d = get_or-set_other labels v u x 0 apart ∙ before.label in
    let fell : slice_index (set labels v x) v ≡ x = get_or-set_same labels v x 0 inside in
    record {
      pause = pause-lower graph seeds labels marks v x before.pause at.1 less attained;
      label = label;
      relaxed =
          All-more (λ (t : Target). IsRelaxed (slice_index (set labels v x)) (arc_to u t)) row k none here
          (λ j e lt.
          omega (arith, before.relaxed j e lt, falls (get_or (take k row) j e).head, label, before.label))
          (omega (arith, fell, label, is));
    }

-- the next target's label is no higher than what the arc offers
pub visit-pass : (graph : Graph) (seeds : List Seed) (labels : List ℕ) (marks : List Bool) (u d x : ℕ)
    (row : List Target) (k : ℕ) (none : Target)
    → IsVisiting graph seeds labels marks u d row k → k < length row
    → x ≡ min (d + (get_or row k none).weight) INF
    → slice_index labels (get_or row k none).head ≤ x
    → IsVisiting graph seeds labels marks u d row (k + 1)
visit-pass graph seeds labels marks u d x row k none before here is low = record {
  pause = before.pause;
  label = before.label;
  relaxed =
      All-more (λ (t : Target). IsRelaxed (slice_index labels) (arc_to u t)) row k none here before.relaxed
      (omega (arith, low, is, before.label));
}
