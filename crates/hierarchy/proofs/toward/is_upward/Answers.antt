use Rattle.std.proofs.Common.{◌≡◌, ◌∙◌, ◌<◌, ℕ, true, false, length-set, refl, sym, subst, inl, inr, arith}
use Rattle.std.specs.Prelude.{All, slice_index, slice_index_or}
use Rattle.std.proofs.lemmas.Bool.{cases_eq, cases_lt}
use Rattle.std.proofs.lemmas.List.{get_or-set_other, take_all}
use Rattle.std.proofs.lemmas.List.Elements.{All-more}
use Rattle.route_walks.specs.declared.graph.ArcRec.{ArcRec}
use Rattle.csr_graph.specs.Graph.{targets_of}
use Rattle.csr_graph.specs.declared.target.Target.{Target}
use Rattle.csr_graph.proofs.Facts.{row_all}
use Rattle.hierarchy.proofs.toward.is_upward.Goals as goal

pub loop-v-preserved : goal.loop-v-preserved
loop-v-preserved c =
    let down = c.args.down.now in
    let order = c.args.order.now in
    let k = c.loop-v.v-index in
    let p = slice_index order k in
    let seen = c.loop-v.seen in
    let before = c.loop-v.invariant in
    let below : p < down.n = omega (arith, c.if-v-n.false, c.n.ensures.vertices) in
    let heads : All (λ (t : Target). slice_index_or seen t.head false ≡ true) (targets_of down.arcs p) =
    rw c.row.ensures.targets at (c.is_row_seen.ensures c.if-not-is_row_seen.false) in
    record {
      count = length-set seen p true ∙ before.count;
      seen = λ v is.
          elim (cases_eq v p) [
            | inl same ↦ (k, omega arith, sym same)
            | inr other ↦
                let old = before.seen v (sym (get_or-set_other seen p v true false other) ∙ is) in
                (old.0, omega (arith, old.1), old.2)
          ];
      order = All-more (λ (v : ℕ). v < down.n) order k 0 c.loop-v-test.true before.order below;
      upward = λ i lt arc within leaves.
          elim (cases_lt i k) [
            | inl earlier ↦ before.upward i earlier arc within leaves
            | inr last ↦
                let same : i ≡ k = omega (arith, lt, last) in
                let leaves' : arc.tail ≡ p = leaves ∙ subst (λ (x : ℕ). slice_index order i ≡ slice_index order x) same refl in
                let is =
                row_all (λ (a : ArcRec). slice_index_or seen a.head false ≡ true) down.arcs p heads arc within leaves' in
                let at = before.seen arc.head is in
                (at.0, omega (arith, at.1, same), at.2)
          ];
    }

pub returns-clause-order : goal.returns-clause-order
returns-clause-order c =
    λ _.
    subst (All (λ (v : ℕ). v < c.args.down.now.n))
    (take_all c.loop-v.v-index c.args.order.now c.loop-v-test.false) c.loop-v.invariant.order
