-- Least labels follow the arcs.
use Rattle.std.proofs.Common.{◌++◌, subst, ℕ}
use Rattle.std.proofs.lemmas.Result.{IfOk-weaker}
use Rattle.std.specs.declared.vec.Vec.{Vec}
use Rattle.std.specs.declared.alloc.Global.{Global}
use Rattle.route_walks.specs.Label.{AreLeastLabels}
use Rattle.engine_tests.proofs.runs.growths.grown_labels.Goals as goal

pub returns : goal.returns
returns g c =
    let csr = c.args.csr.now in
    let seeds = c.args.seeds.now in
    let whole = csr.arcs ++ c.args.added.now in
    let grown = c.in_ok-grown.grown in
    IfOk-weaker c.settle.result
    (λ (labels : Vec ℕ Global). AreLeastLabels grown.n grown.arcs seeds labels.items)
    (λ (labels : Vec ℕ Global). AreLeastLabels csr.n whole seeds labels.items)
    (λ labels least.
    c.least_labels_follow_the_arcs.ensures csr.n grown.arcs whole seeds labels.items c.in_ok-grown.ensures.arcs
    (subst (λ (n : ℕ). AreLeastLabels n grown.arcs seeds labels.items) c.in_ok-grown.ensures.vertices least))
    c.settle.ensures
