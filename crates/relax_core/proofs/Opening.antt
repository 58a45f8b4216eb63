-- How a run begins: the loop over the seeds, and that the opening is lawful.
use Rattle.std.proofs.Common.{◌≡◌, ◌∙◌, sym, ap, refl, ℕ, zero, suc, ◌+◌, ◌<◌, ◌≤◌, min, Bool}
use Rattle.std.proofs.Common.{true, false, cond, List, ◌⊎◌, ◌≢◌, [], ◌∷◌, ◌++◌, inl, inr, length, get_or, set}
use Rattle.std.proofs.Common.{take, arith, length-set, get_or-set_same, get_or-set_other}
use Rattle.std.specs.Prelude.{All, Any, count_by, slice_index, sum_by}
use Rattle.std.proofs.lemmas.List.{take_all, with_items_is}
use Rattle.std.proofs.lemmas.List.Elements.{All-nil, All-cons, All-push}
use Rattle.std.proofs.lemmas.List.Quantifiers.{Any-push}
use Rattle.std.proofs.lemmas.List.Sums.{sum_by_more}
use Rattle.std.proofs.lemmas.Bool.{cases_eq, cases_Bool, cases_lt}
use Rattle.std.proofs.lemmas.Option.{get_or_from_slice_get, slice_get_within}
use Rattle.std.specs.declared.vec.Vec.{Vec}
use Rattle.std.specs.Vec.{with_items}
use Rattle.std.specs.declared.alloc.Global.{Global}
use Rattle.route_walks.specs.declared.graph.Seed.{Seed}
use Rattle.route_walks.specs.declared.graph.TheConstants.{INF}
use Rattle.route_walks.proofs.Facts.{attained-start}
use Rattle.csr_graph.specs.Graph.{Graph, IsInRows}
use Rattle.relax_core.specs.declared.views.Hand.TheVariants.{Idle}
use Rattle.relax_core.specs.declared.views.View.{View}
use Rattle.relax_core.specs.declared.views.TheConstants.{SHARES}
use Rattle.relax_core.specs.Views.{IsHand, HasCredits, idle_view}
use Rattle.relax_core.specs.Lawful.{marks_below}
use Rattle.relax_core.specs.State.{State, IsLawful, IsOpening, IsStarted, mark_of}
use Rattle.relax_core.proofs.Seats.{any_added}

-- the loop so far
pub record IsStarting (labels : List ℕ) (marks : List Bool) (seeds : List Seed) (n i : ℕ) : Type 0 where
  pub labels_length : length labels ≡ n
  pub marks_length : length marks ≡ n
  pub started : IsStarted labels marks (take i seeds)

-- with no seeds nothing is marked
pub started_none : (labels : List ℕ) (marks : List Bool)
    → All (λ label. label ≡ INF) labels → All (λ mark. mark ≡ false) marks
    → length labels ≡ length marks → IsStarted labels marks []
started_none labels marks none unmarked same = record {
  least = All-nil (λ (seed : Seed). slice_index labels seed.vertex ≤ seed.start);
  starts = λ u lt marked.
      let both = sym marked ∙ unmarked u false (omega arith) in
      cc;
  seeded = All-nil (λ (seed : Seed). mark_of marks seed.vertex ≡ true);
  others = λ u lt _. none u 0 lt;
  capped = λ u lt. omega (arith, none u 0 lt);
}

-- one more seed
pub started_more : (labels : List ℕ) (marks : List Bool) (seeds : List Seed) (seed : Seed)
    → length labels ≡ length marks → seed.vertex < length labels → seed.start ≤ INF
    → IsStarted labels marks seeds
    → IsStarted (set labels seed.vertex (min (slice_index labels seed.vertex) seed.start))
    (set marks seed.vertex true) (seeds ++ seed ∷ [])
started_more labels marks seeds seed same within fits was =
    let v = seed.vertex in
    let x = min (slice_index labels v) seed.start in
    let label : ℕ → ℕ = slice_index (set labels v x) in
    let mark : ℕ → Bool = mark_of (set marks v true) in
    let long = length-set labels v x in
    let marked_here : mark v ≡ true = get_or-set_same marks v true false (omega arith) in
    -- a vertex has what it had, or it is the seed's
    let at : (u : ℕ) → ((label u ≡ slice_index labels u) × (mark u ≡ mark_of marks u))
    ⊎ ((v ≡ u) × (label u ≡ min (slice_index labels u) seed.start) × (mark u ≡ true)) = λ u.
    elim (cases_eq v u) [
      | inl is ↦ inr (is, rw (← is) (get_or-set_same labels v x 0 within), rw (← is) marked_here)
      | inr other ↦
          let back : u ≢ v = λ e. other (sym e) in
          inl (get_or-set_other labels v u x 0 back, get_or-set_other marks v u true false back)
    ] in
    let falls : (u : ℕ) → label u ≤ slice_index labels u = λ u.
    elim (at u) [
      | inl kept ↦ omega (arith, kept.0)
      | inr new ↦ omega (arith, new.1)
    ] in
    record {
      least =
          All-push (λ (s : Seed). label s.vertex ≤ s.start) seeds seed
          (λ k d lt. omega (arith, falls (get_or seeds k d).vertex, was.least k d lt))
          (omega (arith, get_or-set_same labels v x 0 within));
      starts = λ u lt marked.
          let lt' : u < length labels = omega arith in
          let Starts = λ (l : ℕ) (s : Seed). (s.vertex ≡ u) × (s.start ≡ l) in
          let old : label u ≡ slice_index labels u → mark_of marks u ≡ true
          → Any (Starts (label u)) (seeds ++ seed ∷ []) =
          λ kept before. any_added (Starts (slice_index labels u)) (Starts (label u)) seeds seed
          (λ s both. (both.0, both.1 ∙ sym kept)) (was.starts u lt' before) in
          elim (at u) [
            | inl kept ↦ old kept.0 (sym kept.1 ∙ marked)
            | inr new ↦
                let mine : seed.start ≡ label u → Any (Starts (label u)) (seeds ++ seed ∷ []) =
                λ e. Any-push (Starts (label u)) seeds seed (new.0, e) in
                elim (cases_Bool (mark_of marks u)) [
                  | inr first ↦ mine (omega (arith, new.1, was.others u lt' first))
                  | inl before ↦
                      elim (cases_lt seed.start (slice_index labels u)) [
                        | inl lower ↦ mine (omega (arith, new.1))
                        | inr higher ↦ old (omega (arith, new.1)) before
                      ]
                ]
          ];
      seeded =
          All-push (λ (s : Seed). mark s.vertex ≡ true) seeds seed
          (λ k d lt. elim (at (get_or seeds k d).vertex) [
            | inl kept ↦ kept.1 ∙ was.seeded k d lt
            | inr new ↦ new.2
          ])
          marked_here;
      others = λ u lt unmarked.
          elim (at u) [
            | inl kept ↦ kept.0 ∙ was.others u (omega arith) (sym kept.1 ∙ unmarked)
            | inr new ↦
                let both = sym new.2 ∙ unmarked in
                cc
          ];
      capped = λ u lt. omega (arith, falls u, was.capped u (omega arith));
    }

-- the count of marks
count_front : (marks : List Bool) (n : ℕ)
    → n ≤ length marks
    → marks_below (mark_of marks) n ≡ count_by (λ mark. mark) (take n marks)
count_front marks zero le = refl
count_front marks (suc n) le =
    let more = sum_by_more (λ (mark : Bool). cond mark 1 0) marks n false (omega arith) in
    let ih = count_front marks n (omega arith) in
    let one : n + 1 ≡ suc n = omega arith in
    rw (← one) (omega arith)

-- an opening is lawful
pub opening_lawful : (graph : Graph) (seeds : List Seed) (state : State)
    → IsInRows graph → IsOpening graph seeds state
    → IsLawful graph seeds state
opening_lawful graph seeds state rows opens =
    let one : (P : View → Type 0) → P (idle_view SHARES) → All P state.views = λ P p.
    rw opens.views (All-cons P (idle_view SHARES) [] p (All-nil P)) in
    let sums : (f : View → ℕ) → sum_by f state.views ≡ sum_by f (idle_view SHARES ∷ []) =
    λ f. ap (sum_by f) opens.views in
    record {
      rows = rows;
      labels = opens.labels;
      marks = opens.marks;
      covers = record {
        sound = λ u lt below.
            let within : u < length state.labels = omega (arith, opens.labels) in
            elim (cases_Bool (mark_of state.marks u)) [
              | inl marked ↦
                  let any = opens.started.starts u within marked in
                  rw (any.4.0, any.4.1) at (attained-start graph.arcs seeds any.1 (any.0, any.2, any.3))
              | inr unmarked ↦ absurd (omega (arith, opens.started.others u within unmarked))
            ];
        met = opens.started.least;
        covered = λ k arc is.
            let ends = rw (get_or_from_slice_get graph.arcs k arc arc is) at
            (rows.ends k arc (slice_get_within graph.arcs k arc is)) in
            elim (cases_Bool (mark_of state.marks arc.tail)) [
              | inl marked ↦ inr (inl marked)
              | inr unmarked ↦
                  inl (omega (
                    arith,
                    opens.started.others arc.tail (omega (arith, opens.labels)) unmarked,
                    opens.started.capped arc.head (omega (arith, opens.labels)),
                  ))
            ];
        hands = one (λ (view : View). IsHand graph seeds (slice_index state.labels) view.hand) tt;
        shares = sums (λ (view : View). view.share);
        spent = one (λ (view : View). view.share ≡ 0 → view.hand ≡ Idle) (λ none. refl);
      };
      account = record {
        balance = opens.total ∙ omega (arith, sums (λ (view : View). view.credits));
        credits = one (λ (view : View). HasCredits view.hand view.credits) refl;
        saw = one (λ (view : View). view.saw ≡ true → state.total ≡ 0) (λ saw. cc);
        spent = one (λ (view : View). view.share ≡ 0 → view.saw ≡ false) (λ none. refl);
      };
    }

-- the opening that three vectors and the count of marks make
pub opening_of : (graph : Graph) (seeds : List Seed) (labels : List ℕ) (marks : List Bool) (total : ℕ)
    (views : List View) (v : Vec ℕ Global) (w : Vec Bool Global)
    → length labels ≡ graph.n → length marks ≡ graph.n → length labels ≡ v.len → length marks ≡ w.len
    → IsStarted labels marks seeds → total ≡ count_by (λ mark. mark) marks → views ≡ idle_view SHARES ∷ []
    → IsOpening graph seeds (record {
      labels = (with_items v labels).items;
      marks = (with_items w marks).items;
      total = total;
      views = views;
    })
opening_of graph seeds labels marks total views v w long long' back back' started count single =
    let front = count_front marks graph.n (omega arith) in
    rw (with_items_is v labels back, with_items_is w marks back') (record {
      labels = long;
      marks = long';
      started = started;
      total = count ∙ sym (rw (take_all graph.n marks (omega arith)) at front);
      views = single;
    })
