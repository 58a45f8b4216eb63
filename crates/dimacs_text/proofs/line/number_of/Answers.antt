use Rattle.std.proofs.Common.{◌+◌, ◌-◌, ◌*◌, ◌≡◌, refl, sym, ap, ◌∙◌, arith, get_or, drop}
use Rattle.std.proofs.lemmas.Bool.{eqb-false}
use Rattle.std.proofs.lemmas.List.{at_drop_more, at_drop_all}
use Rattle.dimacs_text.specs.Lines.{number}
use Rattle.dimacs_text.specs.reader.Pieces.{capped}
use Rattle.dimacs_text.proofs.LineLemmas.{worth, worth_start, empty_length}
use Rattle.dimacs_text.proofs.line.number_of.Goals as goal

pub returns-then-is_empty : goal.returns-then-is_empty
unfolding number
returns-then-is_empty c = rw (empty_length c.args.field.now (sym c.is_empty.ensures ∙ c.if-is_empty.true)) refl

pub loop-byte-init : goal.loop-byte-init
loop-byte-init c = worth_start c.args.field.now (eqb-false _ _ (sym c.is_empty.ensures ∙ c.if-is_empty.false))

pub loop-byte-preserved : goal.loop-byte-preserved
loop-byte-preserved c =
    let field = c.args.field.now in
    let i = c.loop-byte.byte-index in
    let digit = sym c.is_ascii_digit.ensures.value ∙ c.if-not-is_ascii_digit.false in
    let value :
    c.saturating_add-value.result ≡ capped (capped (c.loop-byte.value * 10) + (get_or field i 0 - 48)) =
    rw (c.saturating_add-value.ensures, c.saturating_mul.ensures, c.from.ensures) refl in
    c.loop-byte.invariant
    ∙ at_drop_more (λ l. worth c.loop-byte.value l) field i 0 c.loop-byte-test.true
    ∙ rw digit (ap (λ v. worth v (drop (i + 1) field)) (sym value))

pub returns-then-not-is_ascii_digit : goal.returns-then-not-is_ascii_digit
returns-then-not-is_ascii_digit c =
    let digit = sym c.is_ascii_digit.ensures.value ∙ c.if-not-is_ascii_digit.true in
    sym (c.loop-byte.invariant
    ∙ at_drop_more (λ l. worth c.loop-byte.value l) c.args.field.now c.loop-byte.byte-index 0
    c.loop-byte-test.true
    ∙ rw digit refl)

pub returns : goal.returns
returns c =
    sym (c.loop-byte.invariant
    ∙ at_drop_all (λ l. worth c.loop-byte.value l) c.args.field.now c.loop-byte.byte-index (omega arith))
