use Rattle.std.proofs.Common.{◌∙◌, ◌++◌, [], ◌∷◌, ap, filter, map, take, get_or, arith}
use Rattle.std.specs.Prelude.{◌==◌}
use Rattle.std.proofs.lemmas.List.{map-append, take_all, take_more}
use Rattle.std.proofs.lemmas.List.Elements.{filter-append}
use Rattle.csr_graph.specs.Graph.{arc_to}
use Rattle.csr_graph.proofs.Facts.{no_target, row_by_targets}
use Rattle.route_walks.specs.declared.graph.ArcRec.{ArcRec}
use Rattle.least_costs.proofs.BetweenLemmas.{passed_one, taken_one}
use Rattle.least_costs.proofs.network.between.list_between.Goals.{then-target-head+in_ok-push, else-target-head}
use Rattle.least_costs.proofs.network.between.list_between.Goals as goal

pub loop-target-preserved : goal.loop-target-preserved
loop-target-preserved c =
    let row = c.row-target-items.result.now in
    let i = c.loop-target.target-index in
    let target = get_or row i no_target in
    let leads = λ (arc : ArcRec). arc.head == c.args.head in
    rw (take_more row i no_target c.loop-target-test.true, map-append (arc_to c.args.tail) (take i row) (get_or row i no_target ∷ []), filter-append leads (map (arc_to c.args.tail) (take i row)) (arc_to c.args.tail (get_or row i no_target) ∷ []))
    (elim c.if-target-head.branch [
      | then-target-head+in_ok-push w ↦
          ap (λ found. found.items) w.found-is
          ∙ w.in_ok-push.ensures.items
          ∙ ap (λ front. front ++ record { tail = c.args.tail; head = c.args.head; weight = target.weight } ∷ [])
          c.loop-target.invariant
          ∙ taken_one (filter leads (map (arc_to c.args.tail) (take i row))) c.args.tail c.args.head target
          w.if-target-head.true
      | else-target-head w ↦
          ap (λ found. found.items) w.found-is
          ∙ c.loop-target.invariant
          ∙ passed_one (filter leads (map (arc_to c.args.tail) (take i row))) c.args.tail c.args.head target
          w.if-target-head.false
    ])

pub returns : goal.returns
returns c =
    let row = c.row-target-items.result.now in
    c.loop-target.invariant
    ∙ ap (λ targets. filter (λ (arc : ArcRec). arc.head == c.args.head) (map (arc_to c.args.tail) targets))
    (take_all c.loop-target.target-index row (omega (arith, c.loop-target-test.false)) ∙ c.row-target-items.ensures.targets)
    ∙ ap (filter (λ (arc : ArcRec). arc.head == c.args.head)) (row_by_targets c.args.rows.now.arcs c.args.tail)
