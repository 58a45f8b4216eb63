-- The words that a run begins with keep the rule.
use Rattle.std.proofs.Common.{◌≡◌, ◌∙◌, sym, ap, refl, ℕ, zero, suc, ◌+◌, ◌<◌, ◌≤◌, List, []}
use Rattle.std.proofs.Common.{◌∷◌, ◌++◌, Bool, false, true, cond, min, length, set, arith, length-set}
use Rattle.std.proofs.Common.{get_or, get_or-set_same, get_or-set_other, below_more, inl, inr, length-append, ◌*◌}
use Rattle.std.specs.Prelude.{nat_lt, slice_index}
use Rattle.std.proofs.Math.Seq.{get_or-append_seam}
use Rattle.std.proofs.lemmas.Bool.{cases_eq, cases_lt}
use Rattle.std.proofs.Math.ListN.{replicate}
use Rattle.std.proofs.lemmas.List.{get_or-replicate, get_or_append_left, get_or_past, length-replicate}
use Rattle.std.proofs.lemmas.List.Elements.{All-nil}
use mathlib.Core.Option.{some, some-injective, some-ne-none}
use lib.ListN.{get_elem?}
use Rattle.route_walks.specs.declared.graph.Seed.{Seed}
use Rattle.route_walks.specs.declared.graph.TheConstants.{INF, MAX_VERTICES}
use Rattle.csr_graph.specs.Graph.{Graph, IsInRows}
use Rattle.relax_core.specs.declared.views.TheConstants.{SHARES}
use Rattle.relax_core.specs.Lawful.{marks_below}
use Rattle.relax_core.specs.Views.{idle_view}
use Rattle.relax_core.specs.State.{mark_of as is_marked}
use Rattle.relax_core.proofs.Facts.{marks_but, opening_lawful, started_none, started_more}
use Rattle.label_words.specs.declared.known.Known.{Known}
use Rattle.label_words.specs.Layout.{label_word, mark_word, word_count, label_of, mark_of, total_of}
use Rattle.label_words.specs.Rule.{Knows, AreLawful}
use Rattle.label_words.specs.Known.{first_known}
use Rattle.label_words.specs.Sown.{IsSown}
use Rattle.label_words.proofs.Steps.{laid_mark, laid_label, laid_total}

-- the first seat knows the graph and the seeds
pub first_knows : (graph : Graph) (seeds : List Seed) (label : ℕ → ℕ) (s : ℕ) (seat : Known)
    → get_elem? (first_known graph seeds ∷ []) s ≡ some seat → Knows graph seeds label seat
first_knows graph seeds label zero seat at =
    rw (← some-injective (first_known graph seeds) seat at)
    record { graph_is = refl; seeds_are = refl; above = All-nil (λ (entry : ℕ × ℕ). label entry.0 ≤ entry.1) }
first_knows graph seeds label (suc s) seat at = absurd (some-ne-none seat (sym at))

-- sown words keep the rule with the first seat
pub sown_lawful : (graph : Graph) (seeds : List Seed) (words : List ℕ) → IsInRows graph → IsSown graph.n seeds words
    → AreLawful graph seeds words (first_known graph seeds ∷ [])
sown_lawful graph seeds words rows sown = record {
  state = sown.state;
  lawful =
      opening_lawful graph seeds sown.state rows
      record {
        labels = sown.labels;
        marks = sown.marks;
        started = sown.started;
        total = sown.total;
        views =
            sown.views;
      };
  laid = sown.laid;
  views_are = sown.views;
  knows = λ s seat at live. first_knows graph seeds (label_of words) s seat at;
}

-- ---- laying

none_below : (mark : ℕ → Bool) (n : ℕ) → ((v : ℕ) → v < n → mark v ≡ false) → marks_below mark n ≡ 0
none_below mark zero none = refl
none_below mark (suc n) none =
    omega (arith, ap (λ b. cond {A = ℕ} b 1 0) (none n (omega arith)), none_below mark n (λ v lt. none v (omega arith)))

-- the labels of the first i vertices are INF, and all other words are 0
pub record AreCleared (words : List ℕ) (n i : ℕ) : Type 0 where
  pub count : length words ≡ word_count n
  pub total : total_of words ≡ 0
  pub labels : (v : ℕ) → v < i → label_of words v ≡ INF
  pub marks : (v : ℕ) → mark_of words v ≡ false

-- before the vertices there are eight words of 0
pub cleared_none : AreCleared (replicate 8 0) 0 0
cleared_none = record {
  count = refl;
  total = refl;
  labels = λ v lt. absurd (omega arith);
  marks = λ v. ap (nat_lt 0) (get_or_past (replicate 8 0) (mark_word v) 0 (omega arith));
}

-- a vertex more has the label INF and no mark
pub cleared_more : (words : List ℕ) (i : ℕ) → AreCleared words i i
    → AreCleared ((words ++ INF ∷ []) ++ 0 ∷ []) (i + 1) (i + 1)
cleared_more words i was =
    let one = words ++ INF ∷ [] in
    let long : length one ≡ 2 * i + 9 = omega (arith, was.count, length-append words (INF ∷ [])) in
    let first = λ (k : ℕ) (lt : k < length words). get_or_append_left one (0 ∷ []) 0 k (omega arith)
    ∙ get_or_append_left words (INF ∷ []) 0 k lt in
    record {
      count = omega (arith, long, length-append one (0 ∷ []));
      total = first 0 (omega (arith, was.count)) ∙ was.total;
      labels = below_more (λ v. label_of (one ++ 0 ∷ []) v ≡ INF) i
          (λ v lt. first (label_word v) (omega (arith, was.count)) ∙ was.labels v lt)
          (get_or_append_left one (0 ∷ []) 0 (label_word i) (omega arith)
          ∙ (ap (λ k. get_or one k 0) (sym was.count) ∙ get_or-append_seam words INF [] 0));
      marks = λ v.
          elim (cases_lt v i) [
            | inl less ↦ ap (nat_lt 0) (first (mark_word v) (omega (arith, was.count))) ∙ was.marks v
            | inr more ↦
                elim (cases_eq v i) [
                  | inl same ↦
                      ap (nat_lt 0)
                      (ap (λ k. get_or (one ++ 0 ∷ []) k 0) (omega (arith, same, long))
                      ∙ get_or-append_seam one 0 [] 0)
                  | inr other ↦
                      ap (nat_lt 0)
                      (get_or_past (one ++ 0 ∷ []) (mark_word v) 0
                      (omega (arith, long, length-append one (0 ∷ []))))
                ]
          ];
    }

-- they hold the opening without seeds
pub cleared_sown : (words : List ℕ) (n : ℕ) → n ≤ MAX_VERTICES → AreCleared words n n → IsSown n [] words
cleared_sown words n within was =
    let labels = replicate n INF in
    let marks = replicate n false in
    let unmarked : (v : ℕ) → v < n → is_marked marks v ≡ false = λ v lt. get_or-replicate n v false false lt in
    record {
      state = record { labels = labels; marks = marks; total = 0; views = idle_view SHARES ∷ [] };
      laid = record {
        count = was.count;
        total = was.total;
        labels = λ v lt. was.labels v lt ∙ sym (get_or-replicate n v INF 0 lt);
        marks = λ v lt. was.marks v ∙ sym (unmarked v lt);
      };
      vertices = within;
      labels = length-replicate n INF;
      marks = length-replicate n false;
      started =
          started_none labels marks (λ v d lt. get_or-replicate n v INF d (omega (arith, length-replicate n INF)))
          (λ v d lt. get_or-replicate n v false d (omega (arith, length-replicate n false)))
          (length-replicate n INF ∙ sym (length-replicate n false));
      total = sym (none_below (is_marked marks) n unmarked);
      views = refl;
    }

-- one more seed, whose vertex gets a mark where it has none
pub sown_more : (n : ℕ) (seeds : List Seed) (seed : Seed) (words : List ℕ) (x new : ℕ)
    → seed.vertex < n → seed.start ≤ INF → IsSown n seeds words
    → x ≡ min (label_of words seed.vertex) seed.start → new + cond {A = ℕ} (mark_of words seed.vertex) 1 0 ≡ 1
    → IsSown n (seeds ++ seed ∷ []) (set (set (set words (label_word seed.vertex) x) 0
    (total_of (set words (label_word seed.vertex) x) + new)) (mark_word seed.vertex) 1)
sown_more n seeds seed words x new lt fits was least one =
    let v = seed.vertex in
    let state = was.state in
    let marked = is_marked (set state.marks v true) in
    let lowered = laid_label v x state.views was.laid was.labels lt in
    let raised = laid_total _ (state.total + new) state.views lowered (ap (λ t. t + new) lowered.total) in
    let label : x ≡ min (slice_index state.labels v) seed.start = rw (← was.laid.labels v lt) least in
    let set' : cond {A = ℕ} (marked v) 1 0 ≡ 1 =
    ap (λ b. cond {A = ℕ} b 1 0) (get_or-set_same state.marks v true false (omega (arith, was.marks))) in
    let before : cond {A = ℕ} (mark_of words v) 1 0 ≡ cond {A = ℕ} (is_marked state.marks v) 1 0 =
    ap (λ b. cond {A = ℕ} b 1 0) (was.laid.marks v lt) in
    let count = marks_but (is_marked state.marks) marked n v lt
    (λ u other. get_or-set_other state.marks v u true false other) in
    record {
      state = record state { labels = set state.labels v x; marks = set state.marks v true; total = state.total + new };
      laid = laid_mark v 1 true state.views raised was.marks lt refl;
      vertices = was.vertices;
      labels = length-set state.labels v x ∙ was.labels;
      marks = length-set state.marks v true ∙ was.marks;
      started =
          rw label (started_more state.labels state.marks seeds seed (was.labels ∙ sym was.marks)
          (omega (arith, was.labels)) fits was.started);
      total = omega (arith, count, was.total);
      views = was.views;
    }
