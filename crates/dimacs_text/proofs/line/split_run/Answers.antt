use Rattle.std.proofs.Common.{◌≡◌, false, length, sym, subst, ◌∙◌, arith, drop, take, take_all}
use Rattle.dimacs_text.specs.reader.Pieces.{SplitsRun}
use Rattle.std.proofs.lemmas.List.{take_rest}
use Rattle.dimacs_text.proofs.LineLemmas.{splits}
use Rattle.dimacs_text.proofs.line.split_run.Goals as goal

pub returns-then-is_blank_byte : goal.returns-then-is_blank_byte
returns-then-is_blank_byte c =
    rw take_rest (splits false c.args.bytes.now c.loop-i.i (omega arith) c.loop-i.invariant
    (λ _. sym c.is_blank_byte.ensures ∙ c.if-is_blank_byte.true))

pub returns : goal.returns
returns c =
    let bs = c.args.bytes.now in
    let at_end : c.loop-i.i ≡ length bs = omega arith in
    let all = splits false bs c.loop-i.i (omega arith) c.loop-i.invariant (λ more. absurd (omega arith)) in
    let whole = subst (λ k. SplitsRun bs (take k bs) (drop k bs)) at_end all in
    rw take_rest (subst (λ l. SplitsRun bs l (drop (length bs) bs)) (take_all (length bs) bs (omega arith)) whole)
