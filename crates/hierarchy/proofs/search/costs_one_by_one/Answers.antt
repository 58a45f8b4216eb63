use Rattle.std.proofs.Common.{◌∙◌, ◌∷◌, ◌++◌, [], List, ℕ, subst, sym, take}
use Rattle.std.specs.Prelude.{slice_index}
use Rattle.std.proofs.lemmas.List.{take_all, take_more}
use Rattle.route_walks.specs.Operators.{seeds_from}
use Rattle.near_labels.specs.Noted.{AreLeastOf}
use Rattle.hierarchy.proofs.Listed.{least-more}
use Rattle.hierarchy.proofs.search.costs_one_by_one.Goals as goal

pub loop-target-preserved : goal.loop-target-preserved
loop-target-preserved c =
    let arcs = c.args.hierarchy.now.graph.arcs in
    let seeds = seeds_from c.args.source in
    let targets = c.args.targets.now in
    let i = c.loop-target.target-index in
    let v = slice_index targets i in
    let cost = c.in-Some.cost in
    record {
      forward = c.cost_between.ensures.vertices ∙ c.loop-target.invariant.forward;
      backward = c.cost_between.ensures.vertices_backward ∙ c.loop-target.invariant.backward;
      found = rw c.in-Ok.ensures.items
          (subst (λ (xs : List ℕ). AreLeastOf arcs seeds xs (c.loop-target.costs.items ++ cost ∷ []))
          (sym (take_more targets i 0 c.loop-target-test.true))
          (least-more arcs seeds (take i targets) c.loop-target.costs.items v cost c.loop-target.invariant.found
          c.in-Some.ensures.least));
    }

pub returns-clause-least : goal.returns-clause-least
returns-clause-least c =
    let targets = c.args.targets.now in
    subst (λ (xs : List ℕ). AreLeastOf c.args.hierarchy.now.graph.arcs (seeds_from c.args.source) xs c.loop-target.costs.items)
    (take_all c.loop-target.target-index targets c.loop-target-test.false) c.loop-target.invariant.found
