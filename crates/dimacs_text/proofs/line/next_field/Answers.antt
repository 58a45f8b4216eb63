use Rattle.std.proofs.Common.{sym, ◌∙◌}
use Rattle.std.proofs.lemmas.Bool.{eqb-false}
use Rattle.dimacs_text.proofs.LineLemmas.{next_none, next_some, empty_length}
use Rattle.dimacs_text.proofs.line.next_field.Goals as goal

pub returns-then-is_empty-clause-fields : goal.returns-then-is_empty-clause-fields
returns-then-is_empty-clause-fields c =
    next_none c.args.line.now c.skip_blanks-rest.result.now c.skip_blanks-rest.ensures
    (empty_length c.skip_blanks-rest.result.now (sym c.is_empty.ensures ∙ c.if-is_empty.true))

pub returns : goal.returns
returns c =
    let both =
    next_some c.args.line.now c.skip_blanks-rest.result.now c.split_run.result.0.now
    c.split_run.result.1.now c.skip_blanks-rest.ensures c.split_run.ensures
    (eqb-false _ _ (sym c.is_empty.ensures ∙ c.if-is_empty.false)) in
    record { fields = both.0; filled = both.1 }
