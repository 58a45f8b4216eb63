-- The text of a source whose labels stand as bytes.
use Rattle.std.specs.Prelude.{ℕ, List, [], ◌∷◌, ◌++◌}
use Rattle.std.specs.Int.{w64, to_le_bytes}
use Rattle.answer_lines.specs.Lines.{source_text}

-- a label as 8 bytes, its little end first. That of `INF` is eight bytes 255
abbrev pub raw_label : ℕ → List ℕ
raw_label label = to_le_bytes w64 label

-- labels, one after the other
abbrev pub raw_labels : List ℕ → List ℕ
raw_labels [] = []
raw_labels (label ∷ labels) = raw_label label ++ raw_labels labels

-- the line of a source, and then the labels from it
abbrev pub raw_text : ℕ → List ℕ → List ℕ
raw_text s labels = source_text s ++ raw_labels labels
