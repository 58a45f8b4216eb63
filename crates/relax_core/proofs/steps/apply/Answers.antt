-- A step that was done leads from a lawful core to a lawful core.
use Rattle.std.proofs.lemmas.Bool.{MatchBool-at_true}
use Rattle.relax_core.proofs.Running.{event_keeps_lawful}
use Rattle.relax_core.proofs.steps.apply.Goals as goal

pub returns-in-Ok-true-clause-lawful : goal.returns-in-Ok-true-clause-lawful
returns-in-Ok-true-clause-lawful c seeds lawful =
    event_keeps_lawful c.args.csr.now seeds c.args.core.now c.step.new.self c.args.event lawful
    (MatchBool-at_true _ _ c.in-Ok-true.field-0-test c.in-Ok-true.ensures.step)

pub returns-in-Ok-true-clause-belongs : goal.returns-in-Ok-true-clause-belongs
returns-in-Ok-true-clause-belongs c =
    (c.requires.0, returns-in-Ok-true-clause-lawful c c.requires.0 c.requires.1)
