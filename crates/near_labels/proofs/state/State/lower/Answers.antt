use Rattle.near_labels.proofs.Noting.{noted-write}
use Rattle.near_labels.proofs.state.State.lower.Goals as goal

pub returns-clause-noted : goal.returns-clause-noted
returns-clause-noted c =
    noted-write _ _ _ _ _ _ c.note.ensures.noted (c.note.ensures.within c.if-not-note.false)
