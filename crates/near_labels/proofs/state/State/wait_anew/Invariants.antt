use Rattle.std.proofs.Common.{◌≡◌}
use Rattle.near_labels.proofs.state.State.wait_anew.Given as goal

abbrev pub invariant-loop-place : goal.invariant-loop-place
invariant-loop-place l = record {
  labels : l.self.labels ≡ l.fn.self.labels;
  marks : l.self.marks ≡ l.fn.self.marks;
  noted : l.self.noted ≡ l.fn.self.noted;
}
