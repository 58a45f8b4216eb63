-- The lists that are kept from one question to the next. No promise to callers.
use Rattle.std.specs.Prelude.{◌≡◌, ℕ, ◌<◌, [], All, replicate}
use Rattle.walk_report.specs.declared.hop.TheConstants.{NONE}
use Rattle.walk_report.specs.declared.lists.Lists.{Lists}
use Rattle.walk_report.specs.Search.{AreQueued}

-- of n vertices only those in the queue may have a hop or a parent
pub record AreKept (n : ℕ) (lists : Lists) : Type 0 where
  pub hops : AreQueued n lists.hops.items lists.queue.items
  pub parents : AreQueued n lists.parents.items lists.queue.items
  pub within : All (λ v. v < n) lists.queue.items

-- none of n vertices has a hop or a parent, and the queue is empty
pub record AreBlank (n : ℕ) (lists : Lists) : Type 0 where
  pub hops : lists.hops.items ≡ replicate n NONE
  pub parents : lists.parents.items ≡ replicate n NONE
  pub queue : lists.queue.items ≡ []
