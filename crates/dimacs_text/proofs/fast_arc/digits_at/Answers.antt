use Rattle.std.proofs.Common.{◌≡◌, ◌+◌, ◌-◌, ◌*◌, ◌<◌, true, length, get_or, arith, sym, subst, ◌∙◌}
use Rattle.std.specs.Char.{is_ascii_digit}
use Rattle.std.proofs.lemmas.Bool.Decides.{nat_tests}
use Rattle.dimacs_text.specs.reader.FastArc.{AreDigits}
use Rattle.dimacs_text.proofs.FastArcLemmas.{digits_more, few_digits, not_last}
use Rattle.dimacs_text.proofs.fast_arc.digits_at.Goals as goal

pub overflow_mul-value : goal.overflow_mul-value
overflow_mul-value c =
    let few = few_digits c.args.bytes.now c.args.start (c.args.start + c.loop-count.count) c.loop-count.value
    (omega (arith, c.loop-count-test.true)) c.loop-count.invariant.led in
    omega (arith, few)

pub overflow_add-value : goal.overflow_add-value
overflow_add-value c =
    let few = few_digits c.args.bytes.now c.args.start (c.args.start + c.loop-count.count) c.loop-count.value
    (omega (arith, c.loop-count-test.true)) c.loop-count.invariant.led in
    let byte = c.type_inv.bytes (c.args.start + c.loop-count.count) in
    omega (arith, few, byte, c.from.ensures)

pub loop-count-preserved : goal.loop-count-preserved
loop-count-preserved c =
    let bytes = c.args.bytes.now in
    let start = c.args.start in
    let at = start + c.loop-count.count in
    let here = c.loop-count.invariant in
    let is_digit : is_ascii_digit (get_or bytes at 0) ≡ true =
    sym c.is_ascii_digit.ensures.value ∙ c.if-not-is_ascii_digit.false in
    let large : 47 < get_or bytes at 0 = grind (arith, nat_tests, is_digit) in
    let next : at + 1 < length bytes =
    not_last bytes at c.requires.ended here.inside (λ feed. omega (arith, large, feed)) in
    record {
      inside = omega (arith, next);
      led =
          rw c.from.ensures
          (subst (λ end. AreDigits bytes start end (c.loop-count.value * 10 + (get_or bytes at 0 - 48)))
          (omega arith) (digits_more bytes start at c.loop-count.value here.inside here.led is_digit));
    }
