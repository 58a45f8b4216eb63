-- What is so of every mirror between two calls. No promise to callers.
use Rattle.std.specs.Prelude.{◌≡◌, false, []}
use mathlib.Core.List.{IsPrefix}
use Rattle.atomic_table.specs.Table.{Me}
use Rattle.obim_bags.specs.declared.log_rule.LogKnown.{LogKnown}
use Rattle.obim_bags.specs.Indexes.{AreDistinct}
use Rattle.obim_bags.specs.Logs.{bags_in, metrics_of}
use Rattle.obim_bags.specs.Entries.{EntriesSeen}
use Rattle.obim_bags.specs.Accesses.{AccessesSeen}

-- its seat doesn't hold the slot, what it keeps is no longer than the list that its seat saw, where no metric is twice
pub record IsTied (me : Me EntriesSeen LogKnown) (accesses : AccessesSeen) : Type 0 where
  pub slots : me.1 ≡ []
  pub holds : me.0.holds ≡ false
  pub list : IsPrefix (bags_in accesses.list) me.0.list
  pub index : IsPrefix accesses.index (metrics_of me.0.list)
  pub distinct : AreDistinct (metrics_of me.0.list)
