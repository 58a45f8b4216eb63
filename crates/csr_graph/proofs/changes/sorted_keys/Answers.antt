use Rattle.std.proofs.Common.{subst}
use Rattle.std.proofs.lemmas.List.Sorted.{IsNonDecreasingBy-from_sort}
use Rattle.std.specs.List.Sorted.{IsPermutation}
use Rattle.csr_graph.proofs.changes.sorted_keys.Goals as goal

pub returns : goal.returns
returns c = record {
  heads = c.in_ok-keys.ensures.heads;
  same = subst (λ keys. IsPermutation keys c.sort_unstable.new.self.items) c.in_ok-keys.ensures.keys c.sort_unstable.ensures.permutation;
  rising = IsNonDecreasingBy-from_sort (λ x. x) _ c.sort_unstable.ensures.sorted;
}
