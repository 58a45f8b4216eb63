use Rattle.std.proofs.Common.{◌≡◌, ◌<◌, ◌∙◌, [], length, length-append, ap, arith, refl, rules}
use Rattle.std.specs.Slice.Iter.{chunks_rest}
use Rattle.route_walks.specs.declared.graph.TheConstants.{INF}
use Rattle.answer_lines.specs.Lines.{component_lines}
use Rattle.answer_lines.proofs.Facts.{component_lines-append, All-rest}
use Rattle.job_answer.proofs.Sinks.{lacks-more, puts-line, puts-nothing}
use Rattle.job_answer.proofs.output.lines.put_component_lines.Goals as goal

pub loop-group-init : goal.loop-group-init
loop-group-init g c =
    let all : chunks_rest c.into_iter-group-iterator.result ≡ c.args.labels.now = search rules in
    record {
      can_next = search rules;
      is_finite = tt;
      count = omega (arith, ap length all);
      finite = rw all c.requires.finite;
      put = record { text = []; is = ap (component_lines 0) all; put = puts-nothing g.W.Write.contents c.args.sink.now };
    }

pub loop-group-preserved : goal.loop-group-preserved
loop-group-preserved g c =
    let inv = c.loop-group.invariant in
    let v = c.loop-group.v in
    let group = c.in-Some.group.now in
    let rest = c.next.new.self.rest.now in
    let steps = c.in-Some.ensures.steps in
    let lines = ap (component_lines v) steps.1.0 ∙ component_lines-append v group rest in
    record {
      can_next = omega (arith, steps.0, inv.can_next);
      is_finite = tt;
      count = omega (arith, inv.count, ap length steps.1.0, length-append group rest);
      finite = All-rest (λ label. label < INF) group rest steps.1.0 inv.finite;
      put =
          lacks-more g.W.Write.contents (rw lines at inv.put)
          (puts-line g.W.Write.contents c.loop-group.sink _ _ c.put_components-put.result c.put_components-put.ensures.ok refl
          refl refl refl c.end.ensures);
    }
