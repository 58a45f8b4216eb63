-- The source and the targets of a solve's queries, and the costs of pairs after the network grew.
use Rattle.std.proofs.Common.{◌≡◌, ◌∙◌, ℕ, ◌+◌, ◌-◌, ◌<◌, ◌≤◌, List, Option, Some, None, ap, arith, length, slice_index, subst}
use Rattle.std.specs.List.{All}
use Rattle.std.proofs.lemmas.List.Elements.{All-from_get_or, All-get_or}
use Rattle.dimacs_text.specs.Jobs.{IsPairWithin}
use Rattle.least_costs.specs.Pairs.{pair_at}
use Rattle.job_answer.specs.declared.question.graphs.GrownNetwork.{GrownNetwork}
use Rattle.job_answer.specs.declared.solving.solves.Solve.{Solve}
use Rattle.job_answer.specs.Solves.{AreCostsAfter, AreEachTold, AreTargetsOf, HasCostAfter, IsForQueries}

-- a place of a pair is one of its cost in the grown network
pub has_cost_after : (grown : Option GrownNetwork) (pairs : List (ℕ × ℕ)) (costs : List (Option ℕ)) (k : ℕ)
    → AreCostsAfter grown pairs costs → k < length pairs
    → HasCostAfter grown k costs
has_cost_after None pairs costs k are here = tt
has_cost_after (Some grown) pairs costs k are here = omega (arith, are.places, here)

-- the queries of a solve have one source
pub one_source : (queries : List (ℕ × ℕ)) (solve : Solve) (k : ℕ)
    → IsForQueries queries solve → solve.first ≤ k → k < solve.end
    → (pair_at queries solve.first).0 ≡ (pair_at queries k).0
one_source queries solve k is from below =
    let first = is.alike solve.first (omega arith) is.some in
    let here = is.alike k from below in cc

-- the targets of pairs of vertices are vertices
pub targets-within : (n : ℕ) (pairs : List (ℕ × ℕ)) (first end : ℕ) (targets : List ℕ)
    → All (IsPairWithin n) pairs → AreTargetsOf pairs first end targets → end ≤ length pairs
    → All (λ t. t < n) targets
targets-within n pairs first end targets within aims inside =
    All-from_get_or (λ t. t < n) targets 0
    (λ k below.
    let pair = All-get_or (IsPairWithin n) pairs (first + k) (0, 0) (omega (arith, below, aims.count, inside)) within in
    omega (arith, aims.each k below, pair.1))

-- what is so of the source with each target is so of each query of the solve
pub each-told : (IsTold : ℕ × ℕ → Type 0) (queries : List (ℕ × ℕ)) (solve : Solve) (targets : List ℕ)
    → IsForQueries queries solve → AreTargetsOf queries solve.first solve.end targets
    → All (λ t. IsTold ((pair_at queries solve.first).0, t)) targets
    → AreEachTold IsTold queries solve.first solve.end
each-told IsTold queries solve targets is aims told k from below =
    let j = k - solve.first in
    let place : solve.first + j ≡ k = omega (arith, from) in
    let here : j < length targets = omega (arith, place, below, aims.count) in
    let target : slice_index targets j ≡ (pair_at queries k).1 =
    aims.each j here ∙ ap (λ (i : ℕ). (pair_at queries i).1) place in
    subst (λ (s : ℕ). IsTold (s, (pair_at queries k).1)) (one_source queries solve k is from below)
    (subst (λ (t : ℕ). IsTold ((pair_at queries solve.first).0, t)) target
    (All-get_or (λ t. IsTold ((pair_at queries solve.first).0, t)) targets j 0 here told))
