use Rattle.std.proofs.Common.{◌≡◌, ℕ, ◌<◌, ◌≤◌, length}
use Rattle.std.specs.Slots.{slots_items}
use Rattle.relax_core.specs.State.{mark_of}
use Rattle.label_words.specs.Closed.{AreLabelsOf}
use Rattle.label_words.specs.Layout.{mark_of as marks_of}
use Rattle.label_words.proofs.closed.read_words.Given as goal

abbrev pub invariant-loop-v : goal.invariant-loop-v
invariant-loop-v l =
    (length l.labels.items ≡ l.v)
    × (length l.marks ≤ l.labels.cap)
    × AreLabelsOf (slots_items l.last.words) l.labels.items
    × ((v : ℕ) → v < l.v → mark_of l.marks v ≡ marks_of (slots_items l.last.words) v)
