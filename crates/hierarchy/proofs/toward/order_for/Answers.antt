use Rattle.hierarchy.proofs.toward.order_for.Goals as goal

pub returns-clause-upward : goal.returns-clause-upward
returns-clause-upward c = rw c.deref.ensures.value at (c.is_upward.ensures.upward c.if-not-is_upward.false)

pub returns-clause-within : goal.returns-clause-within
returns-clause-within c = rw c.deref-else-not-is_upward-2.ensures.value at (c.are_seen.ensures c.if-not-are_seen.false)
