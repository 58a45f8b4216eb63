use Rattle.std.proofs.Common.{◌∷◌, Some, get_or, sym, ap, ◌∙◌, arith}
use Rattle.dimacs_text.proofs.LineLemmas.{drop_next}
use Rattle.dimacs_text.proofs.FastArcLemmas.{number_of_digits}
use Rattle.dimacs_text.proofs.fast_arc.spaced_at.Goals as goal

pub returns-clause-number : goal.returns-clause-number
returns-clause-number c =
    let bytes = c.args.bytes.now in
    let start = c.args.start in
    let place = c.digits_at-value.ensures.place in
    let some = c.if-end-start.false in
    let number = c.digits_at-value.ensures.led in
    let count = number.count in
    record {
      blank = get_or bytes start 0;
      digits = number.digits;
      joined = drop_next bytes start c.requires.inside ∙ ap (λ l. get_or bytes start 0 ∷ l) number.joined;
      spaced = sym c.is_blank_byte.ensures ∙ c.if-not-is_blank_byte.false;
      filled = omega arith;
      all = number.all;
      worth = number_of_digits number.digits (omega arith) number.all ∙ ap (λ v. Some v) number.worth;
    }
