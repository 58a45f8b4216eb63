use Rattle.std.proofs.Common.{◌≡◌, ◌∙◌, ◌++◌, ap, arith, refl, rules}
use Rattle.std.specs.Slice.Iter.{chunks_rest}
use Rattle.answer_lines.specs.Lines.{source_text}
use Rattle.answer_lines.specs.Raw.{raw_labels}
use Rattle.answer_lines.proofs.Facts.{raw_labels-append}
use Rattle.job_answer.proofs.Sinks.{lacks-more, puts-line}
use Rattle.job_answer.proofs.output.lines.put_raw_block.Goals as goal

pub loop-group-init : goal.loop-group-init
loop-group-init g c =
    let all : chunks_rest c.into_iter-group-iterator.result ≡ c.args.labels.now = search rules in
    record {
      can_next = search rules;
      is_finite = tt;
      put = record {
        text = source_text c.args.source;
        is = ap (λ xs. source_text c.args.source ++ raw_labels xs) all;
        put = c.put_first.ensures;
      };
    }

pub loop-group-preserved : goal.loop-group-preserved
loop-group-preserved g c =
    let inv = c.loop-group.invariant in
    let group = c.in-Some.group.now in
    let rest = c.next.new.self.rest.now in
    let steps = c.in-Some.ensures.steps in
    let lines = ap raw_labels steps.1.0 ∙ raw_labels-append group rest in
    record {
      can_next = omega (arith, steps.0, inv.can_next);
      is_finite = tt;
      put =
          lacks-more g.W.Write.contents (rw lines at inv.put)
          (puts-line g.W.Write.contents c.loop-group.sink _ _ c.put_raw-put.result c.put_raw-put.ensures.ok refl refl refl refl
          c.end.ensures);
    }
