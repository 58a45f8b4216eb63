use Rattle.std.proofs.Common.{ℕ}
use Rattle.std.proofs.lemmas.List.Sorted.{IsNonDecreasingBy-from_sort}
use Rattle.near_labels.proofs.state.State.sort_noted.Goals as goal

pub returns-in-Ok-clause-rising : goal.returns-in-Ok-clause-rising
returns-in-Ok-clause-rising c =
    λ _. IsNonDecreasingBy-from_sort (λ (x : ℕ). x) c.sort.new.self.items c.in-Ok.ensures.sorted
