use Rattle.std.proofs.Common.{◌≡◌, ◌≤◌, length}
use Rattle.std.specs.Slots.{slots_items}
use Rattle.label_words.specs.Closed.{AreLabelsOf}
use Rattle.label_words.proofs.closed.read_labels.Given as goal

abbrev pub invariant-loop-v : goal.invariant-loop-v
invariant-loop-v l =
    (length l.labels.items ≡ l.v)
    × (l.n ≤ l.labels.cap)
    × AreLabelsOf (slots_items l.last.words) l.labels.items
