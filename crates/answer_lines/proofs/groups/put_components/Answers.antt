use Rattle.std.proofs.Common.{◌≡◌, ◌<◌, List, ℕ, ◌++◌, length, sym, ap, ap₂, ◌∙◌, length-append, arith}
use Rattle.std.proofs.lemmas.List.{take-append-drop}
use Rattle.route_walks.specs.declared.graph.TheConstants.{INF}
use Rattle.answer_lines.specs.Lines.{component_lines}
use Rattle.answer_lines.proofs.Making.{accepted, group_put}
use Rattle.answer_lines.proofs.Facts.{component_lines-append, All-rest}
use Rattle.answer_lines.proofs.groups.put_components.Goals as goal

pub loop-rest-preserved : goal.loop-rest-preserved
loop-rest-preserved c =
    let inv = c.loop-rest.invariant in
    let v = c.loop-rest.v in
    let group = c.split_at.result.0.now in
    let rest = c.split_at.result.1.now in
    let parts : c.loop-rest.rest.now ≡ group ++ rest =
    sym (ap₂ (λ (xs ys : List ℕ). xs ++ ys) c.split_at.ensures.front c.split_at.ensures.back
    ∙ take-append-drop c.group_len.result c.loop-rest.rest.now) in
    let put : c.put_component_group.new.out.items ≡ c.loop-rest.out.items ++ component_lines v group =
    accepted c.put_component_group.result
    (sym c.is_err.ensures.value ∙ c.if-is_err.false) c.put_component_group.ensures.ok in
    record {
      count = omega (arith, inv.count, ap length parts, length-append group rest);
      finite = All-rest (λ label. label < INF) group rest parts inv.finite;
      whole = group_put component_lines component_lines-append v _ group rest put parts inv.whole;
      longer = omega (arith, inv.longer, ap length put, length-append c.loop-rest.out.items (component_lines v group));
      before = inv.before;
      room = c.put_component_group.ensures.room;
    }
