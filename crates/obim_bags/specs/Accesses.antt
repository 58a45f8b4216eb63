-- What a mirror keeps of the log.
use Rattle.std.specs.Prelude.{◌≡◌, ℕ, List, ◌++◌, All}
use Rattle.obim_bags.specs.Logs.{AccessSeen, IsNew}

-- its accesses, and the metrics that its index has
pub record AccessesSeen : Type 0 where
  pub list : List AccessSeen
  pub index : List ℕ

-- the accesses that were there are as before, and new ones follow
pub record AreGained (old new : List AccessSeen) : Type 0 where
  pub more : List AccessSeen
  pub kept : new ≡ old ++ more
  pub gained : All IsNew more
