use Rattle.std.proofs.Common.{◌≡◌, true, length, drop, sym, subst, ◌∙◌, arith}
use Rattle.dimacs_text.specs.reader.Pieces.{SkipsBlanks}
use Rattle.std.proofs.lemmas.List.{take_rest}
use Rattle.dimacs_text.proofs.LineLemmas.{splits}
use Rattle.dimacs_text.proofs.line.skip_blanks.Goals as goal

pub returns-then-not-is_blank_byte : goal.returns-then-not-is_blank_byte
returns-then-not-is_blank_byte c =
    rw take_rest (
      _,
      splits true c.args.bytes.now c.loop-i.i (omega arith) c.loop-i.invariant
          (λ _. sym c.is_blank_byte.ensures ∙ c.if-not-is_blank_byte.true),
    )

pub returns : goal.returns
returns c =
    let bs = c.args.bytes.now in
    let at_end : c.loop-i.i ≡ length bs = omega arith in
    let all = splits true bs c.loop-i.i (omega arith) c.loop-i.invariant (λ more. absurd (omega arith)) in
    rw take_rest (subst (λ k. SkipsBlanks bs (drop k bs)) at_end (_, all))
