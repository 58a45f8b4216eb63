use Rattle.std.proofs.Common.{◌≡◌, ◌≤◌, ◌+◌, ◌-◌, ◌++◌, ℕ, List, length, take, drop, arith, ap, subst, sym, ◌∙◌, append_assoc, append-nil, length-drop}
use Rattle.std.proofs.Math.Seq.{take-add}
use Rattle.std.proofs.lemmas.List.{length-take-le}
use Rattle.dimacs_text.specs.GraphTexts.{HasNoGraphInside}
use Rattle.dimacs_text.specs.Lines.{lines}
use Rattle.std.proofs.lemmas.List.{take_all}
use Rattle.dimacs_text.specs.Reading.{HasRead, Reads}
use Rattle.dimacs_text.proofs.ReaderLemmas.{reads_to}
use Rattle.dimacs_text.proofs.reader.JobReader.feed_graph.Goals as goal

pub loop-at-preserved : goal.loop-at-preserved
loop-at-preserved c =
    let bytes = c.args.bytes.now in
    let at = c.loop-at.at in
    let part = c.split_at.result.0.now in
    let next = at + length part in
    let is : part ≡ take (next - at) (drop at bytes) =
    c.split_at.ensures.front
    ∙ ap (λ l. take c.graph_part.result l)
    (take_all (length bytes - at) (drop at bytes) (omega (arith, length-drop at bytes)))
    ∙ ap (λ n. take n (drop at bytes)) (omega (arith, c.split_at.ensures.front_len)) in
    record {
      inside =
          omega (
            arith,
            c.split_at.ensures.front_len,
            c.graph_part.ensures.place,
            c.loop-at.invariant.inside,
            length-drop at bytes,
          );
      reads =
          reads_to c.args.self.now c.loop-at.self c.feed.new.self bytes at next (omega arith)
          c.loop-at.invariant.reads
          (subst (λ b. Reads c.loop-at.self c.feed.new.self b) is c.in_ok-feed.ensures.reads);
      short = c.missing_lines-missing-in-loop-at.ensures.inside;
      none = λ text r few none.
          let fed = take at bytes in
          let come = length-take-le at bytes c.loop-at.invariant.inside in
          subst (λ (b : List ℕ). HasNoGraphInside b)
          (append_assoc text fed part ∙ ap (λ b. text ++ b) (ap (λ b. fed ++ b) is ∙ sym (take-add at (next - at) bytes) ∙ ap (λ n. take n bytes) (omega arith)))
          (c.loop-at.invariant.short (text ++ fed) part
          (c.loop-at.invariant.reads text r (omega (arith, few, come, c.loop-at.invariant.inside)))
          c.if-missing-gt0.true (omega (arith, c.split_at.ensures.front_len, c.graph_part.ensures.some))
          (subst (λ (b : List ℕ). length (lines b) ≤ c.loop-at.missing) (sym c.split_at.ensures.front) c.graph_part.ensures.few));
    }

pub loop-at-init : goal.loop-at-init
loop-at-init c = record {
  inside = omega arith;
  reads = λ text r few. subst (λ (b : List ℕ). HasRead c.args.self.now b) (sym (append-nil text)) r;
  short = c.missing_lines-missing.ensures.inside;
  none = λ text r few none. subst (λ (b : List ℕ). HasNoGraphInside b) (sym (append-nil text)) none;
}
