-- Each turn at a marked vertex appends the rows before it and its own, and all rows lie in the two lists.
use Rattle.std.proofs.Common.{◌≡◌, ◌∙◌, ◌++◌, ◌<◌, ◌≤◌, ℕ, [], ◌∷◌, ap, ap₂, map, refl, sym, arith, length, get_or, false}
use Rattle.std.proofs.Common.{inl, inr}
use Rattle.std.specs.Prelude.{◌==◌}
use Rattle.std.proofs.lemmas.Bool.{cases_lt}
use Rattle.std.proofs.lemmas.List.{map-append}
use Rattle.std.proofs.lemmas.List.Elements.{filter-append}
use Rattle.csr_graph.specs.Changes.{without}
use Rattle.csr_graph.specs.Graph.{row_of, target_of, targets_of}
use Rattle.csr_graph.specs.Layout.{LiesIn}
use Rattle.csr_graph.specs.Removal.{AreJoined}
use Rattle.csr_graph.proofs.Removals.{changed_lies, few_targets, joined_more, untouched}
use Rattle.csr_graph.proofs.Sorting.{by_tail, by_tail_arcs, by_tail_rows, graph_of}
use Rattle.csr_graph.proofs.Weights.{lies_is}
use Rattle.csr_graph.proofs.csr.Csr.changed.Goals.{then-index+in_ok-put_rows+in_ok-push+in_ok-put_left+in_ok-extend_from_slice}
use Rattle.csr_graph.proofs.csr.Csr.changed.Goals.{else-index, After-push-2}
use Rattle.csr_graph.proofs.csr.Csr.changed.Goals as goal

pub put_rows-requires-clause-few : goal.put_rows-requires-clause-few
put_rows-requires-clause-few c =
    few_targets c.args.removed.now c.args.self.now.arcs c.args.added.now c.loop-tail.from c.loop-tail.firsts.items
    c.loop-tail.targets.items c.requires.places c.loop-tail.invariant.joined

pub put_rows-requires-2-clause-few : goal.put_rows-requires-2-clause-few
put_rows-requires-2-clause-few c =
    few_targets c.args.removed.now c.args.self.now.arcs c.args.added.now c.loop-tail.from c.loop-tail.firsts.items
    c.loop-tail.targets.items c.requires.places c.loop-tail.invariant.joined

pub loop-tail-preserved : goal.loop-tail-preserved
loop-tail-preserved c =
    let pairs = c.args.removed.now in
    let arcs = c.args.self.now.arcs in
    let added = c.args.added.now in
    let keys = c.in_ok-touched.touched.keys.items in
    let marks = c.in_ok-touched.touched.marks.items in
    let tail = c.loop-tail.tail in
    let all = without pairs arcs ++ added in
    let was = c.loop-tail.invariant in
    let touched = c.in_ok-touched.ensures.touched in
    let in_graph = c.n-n.ensures.vertices in
    let marked = c.in_ok-touched.ensures.vertices in
    let here = c.loop-tail-test.true in
    let same = λ (u : ℕ) (low : c.loop-tail.from ≤ u) (lt : u < tail).
    untouched pairs arcs added keys marks u touched (omega (arith, lt, here, marked)) (was.unmarked u low lt) in
    elim c.if-index.branch [
      | then-index+in_ok-put_rows+in_ok-push+in_ok-put_left+in_ok-extend_from_slice w ↦
          let before = w.in_ok-put_rows.ensures all same was.joined in
          let targets = w.put_rows.new.targets.items in
          let row = targets_of (without pairs arcs) tail in
          let more = targets_of added tail in
          let long : w.len.result ≡ length targets = omega (arith, w.len.ensures) in
          let left = rw w.deref.ensures.value at w.in_ok-put_left.ensures in
          let others : w.row.result.now ≡ more =
          w.row.ensures.targets
          ∙ ap (λ arcs. map target_of arcs) (c.in_ok-others.ensures.rows tail (omega (arith, here))) in
          let put : w.extend_from_slice.new.self.items ≡ (targets ++ row) ++ more =
          w.in_ok-extend_from_slice.ensures.items
          ∙ ap₂ (λ a b. a ++ b) (left pairs touched.keys_are) others in
          rw (w.from-is, w.firsts-is, w.targets-is, w.in_ok-push.ensures.items, put)
          (record {
            before = omega arith;
            joined =
                joined_more tail w.len.result all w.put_rows.new.firsts.items targets row more before long
                (sym
                (ap (map target_of) (filter-append (λ arc. arc.tail == tail) (without pairs arcs) added)
                ∙ map-append target_of (row_of (without pairs arcs) tail) (row_of added tail)));
            unmarked = λ u low lt. absurd (omega (arith, low, lt));
          })
      | else-index w ↦
          let none : get_or marks tail false ≡ false = grind (arith, c.index.ensures, w.if-index.false) in
          rw (w.from-is, w.firsts-is, w.targets-is)
          (record {
            before = omega (arith, was.before);
            joined = was.joined;
            unmarked = λ u low lt.
                elim (cases_lt u tail) [
                  | inl less ↦ was.unmarked u low less
                  | inr more ↦
                      let at : u ≡ tail = omega arith in
                      ap (λ (v : ℕ). get_or marks v false) at ∙ none
                ];
          })
    ]

lies : (c : After-push-2) → c.push-2.new.self.items ≡ c.put_rows-2.new.firsts.items ++ c.len-2.result ∷ []
    → AreJoined c.n-n.result (without c.args.removed.now c.args.self.now.arcs ++ c.args.added.now)
    c.put_rows-2.new.firsts.items c.put_rows-2.new.targets.items
    → LiesIn c.push-2.new.self.items c.put_rows-2.new.targets.items
    (graph_of c.args.self.now.n (by_tail (without c.args.removed.now c.args.self.now.arcs ++ c.args.added.now)))
lies c pushed joined =
    let targets = c.put_rows-2.new.targets.items in
    let long : c.len-2.result ≡ length targets = omega (arith, c.len-2.ensures) in
    rw pushed
    (changed_lies c.args.removed.now c.args.self.now c.args.added.now c.n-n.result c.len-2.result
    c.put_rows-2.new.firsts.items targets c.n-n.ensures.in_rows c.requires.ends c.requires.places c.n-n.ensures.vertices
    long joined)

-- no row from the last marked one on is changed
same_to_the_end : (c : After-push-2) → (u : ℕ) → c.loop-tail.from ≤ u → u < c.n-n.result
    → row_of (without c.args.removed.now c.args.self.now.arcs ++ c.args.added.now) u ≡ row_of c.args.self.now.arcs u
same_to_the_end c u low lt =
    let marks = c.in_ok-touched.touched.marks.items in
    untouched c.args.removed.now c.args.self.now.arcs c.args.added.now c.in_ok-touched.touched.keys.items marks u
    c.in_ok-touched.ensures.touched (omega (arith, lt, c.in_ok-touched.ensures.vertices))
    (c.loop-tail.invariant.unmarked u low (omega (arith, lt, c.loop-tail-test.false)))

pub of_lists-requires : goal.of_lists-requires
of_lists-requires c =
    let after = (goal.at.of_lists-requires c).After-push-2 in
    let lie = lies after c.in_ok-push-2.ensures.items
    (c.in_ok-put_rows-2.ensures _ (same_to_the_end after) c.loop-tail.invariant.joined) in
    rw (lies_is _ _ _ lie) lie

pub returns-clause-vertices : goal.returns-clause-vertices
returns-clause-vertices c =
    let after = (goal.at.returns-clause-vertices c).After-push-2 in
    let lie = lies after c.in_ok-push-2.ensures.items
    (c.in_ok-put_rows-2.ensures _ (same_to_the_end after) c.loop-tail.invariant.joined) in
    rw (c.of_lists.ensures, lies_is _ _ _ lie) refl

pub returns-clause-rows : goal.returns-clause-rows
returns-clause-rows c =
    let after = (goal.at.returns-clause-rows c).After-push-2 in
    let lie = lies after c.in_ok-push-2.ensures.items
    (c.in_ok-put_rows-2.ensures _ (same_to_the_end after) c.loop-tail.invariant.joined) in
    rw (c.of_lists.ensures, lies_is _ _ _ lie)
    (λ u lt. by_tail_rows (without c.args.removed.now c.args.self.now.arcs ++ c.args.added.now) u)

pub returns-clause-arcs : goal.returns-clause-arcs
returns-clause-arcs c =
    let after = (goal.at.returns-clause-arcs c).After-push-2 in
    let lie = lies after c.in_ok-push-2.ensures.items
    (c.in_ok-put_rows-2.ensures _ (same_to_the_end after) c.loop-tail.invariant.joined) in
    rw (c.of_lists.ensures, lies_is _ _ _ lie)
    (by_tail_arcs (without c.args.removed.now c.args.self.now.arcs ++ c.args.added.now))
