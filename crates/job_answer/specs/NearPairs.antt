-- The lines of pairs whose walks were found without workers.
use Rattle.std.specs.Prelude.{ℕ, List, [], ◌∷◌, ◌++◌}
use Rattle.answer_lines.specs.Lines.{pair_text, walk_text}

-- the line of a walk, if it has vertices
abbrev pub walk_part : ℕ → List ℕ → List ℕ
walk_part label [] = []
walk_part label (v ∷ walk) = walk_text label (v ∷ walk)

-- the lines of a pair, by the label of its target and the walk there
abbrev pub found_text : ℕ → ℕ → ℕ → List ℕ → List ℕ
found_text source target label walk = pair_text source target label ++ walk_part label walk
