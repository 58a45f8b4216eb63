-- One label more.
use Rattle.std.proofs.Common.{◌<◌, ◌≤◌, ℕ, arith, get_or, subst}
use Rattle.std.specs.Prelude.{All}
use Rattle.std.proofs.lemmas.List.{take_all}
use Rattle.std.proofs.lemmas.List.Elements.{All-more}
use Rattle.route_walks.specs.declared.graph.TheConstants.{INF}
use Rattle.least_costs.proofs.preparing.choosing.greatest.Goals as goal
use Rattle.least_costs.proofs.preparing.choosing.greatest.Goals.{then-label-lt-INF, else-label-lt-INF}

pub loop-label-preserved : goal.loop-label-preserved
loop-label-preserved c =
    let labels = c.args.labels.now in
    let i = c.loop-label.label-index in
    let most = c.if-label-lt-INF.most in
    let rises : c.loop-label.most ≤ most =
    elim c.if-label-lt-INF.branch [
      | then-label-lt-INF w ↦ omega (arith, w.most-is, w.max-most.ensures)
      | else-label-lt-INF w ↦ omega (arith, w.most-is)
    ] in
    let here : get_or labels i 0 < INF → get_or labels i 0 ≤ most =
    elim c.if-label-lt-INF.branch [
      | then-label-lt-INF w ↦ λ found. omega (arith, w.most-is, w.max-most.ensures)
      | else-label-lt-INF w ↦ λ found. omega (arith, found, w.if-label-lt-INF.false)
    ] in
    All-more (λ (label : ℕ). label < INF → label ≤ most) labels i 0 c.loop-label-test.true
    (λ k d lt found. omega (arith, rises, c.loop-label.invariant k d lt found)) here

pub returns : goal.returns
returns c =
    let labels = c.args.labels.now in
    subst (All (λ (label : ℕ). label < INF → label ≤ c.loop-label.most))
    (take_all c.loop-label.label-index labels c.loop-label-test.false) c.loop-label.invariant
