use Rattle.std.proofs.Common.{◌/◌, ℕ, List, ◌++◌, drop, sym, ap, ◌∙◌, arith, append_assoc}
use Rattle.std.specs.Fmt.{decimal}
use Rattle.std.proofs.lemmas.Fmt.{decimal_step_wide}
use Rattle.itoa.proofs.Decimal.{length_wide, length_step_wide}
use Rattle.answer_lines.proofs.totals.put_sum.Goals as goal

pub put_byte-at-requires : goal.put_byte-at-requires
put_byte-at-requires c =
    let l = c.loop-left in
    let long = length_wide c.args.number c.ranges.number.fits in
    let step = length_step_wide l.left (omega arith) l.auto.left-fits.fits in
    (omega arith, omega arith)

pub loop-left-preserved : goal.loop-left-preserved
loop-left-preserved c =
    let l = c.loop-left in
    let step = length_step_wide l.left (omega arith) l.auto.left-fits.fits in
    record {
      place = omega arith;
      room = omega arith;
      digits = omega arith;
      put =
          ap (λ (end : List ℕ). decimal (l.left / 10) ++ end) c.put_byte-at.ensures.put
          ∙ sym (append_assoc (decimal (l.left / 10)) _ _)
          ∙ ap (λ (digits : List ℕ). digits ++ drop l.at l.line)
          (sym (decimal_step_wide l.left (omega arith) (omega (arith, l.auto.left-fits.fits))))
          ∙ l.invariant.put;
    }

pub write_digits-start-requires : goal.write_digits-start-requires
write_digits-start-requires c =
    let long = length_wide c.args.number c.ranges.number.fits in
    (omega arith, omega arith)

pub put_byte-requires : goal.put_byte-requires
put_byte-requires c =
    let long = length_wide c.args.number c.ranges.number.fits in
    let start = c.write_digits-start.ensures.start in
    (omega arith, omega arith)

pub returns-clause-place : goal.returns-clause-place
returns-clause-place c =
    let long = length_wide c.args.number c.ranges.number.fits in
    let start = c.write_digits-start.ensures.start in
    (omega arith, omega arith)
