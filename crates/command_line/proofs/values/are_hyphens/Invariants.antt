use Rattle.std.proofs.Common.{◌≡◌, ℕ, ◌<◌, List, codes, Bor, slice_index_or}
use Rattle.command_line.proofs.values.are_hyphens.Given as goal

-- each operand so far is a hyphen
abbrev pub invariant-loop-operand : goal.invariant-loop-operand
invariant-loop-operand l = (k : ℕ) (other : Bor (List ℕ)) → k < l.operand-index
    → (slice_index_or l.operands k other).now ≡ codes "-"
