-- The text of a graph alone, and when a reader has come to its end.
use Rattle.std.specs.Prelude.{◌≡◌, ◌⊎◌, ℕ, true, false, is_some, List, [], ◌∷◌, ◌++◌, None}
use Rattle.dimacs_text.specs.declared.form.Section.TheVariants.{Problem}
use Rattle.dimacs_text.specs.declared.reader.JobReader.{JobReader}
use Rattle.dimacs_text.specs.declared.stage.Stage.TheVariants.{Within}
use Rattle.dimacs_text.specs.Jobs.{Content, absent, IsJobText}
use Rattle.dimacs_text.specs.Lines.{line_feed}

-- the text of a job without sections: it is its graph
pub record IsGraphText (text : List ℕ) (graph : Content) : Type 0 where
  pub is_job : IsJobText text graph
  pub unasked : graph.question ≡ absent
  pub unadded : graph.added ≡ None

-- No line feed in the text, but its last byte, ends the text of a graph. So if the text is that of a graph, its last line
-- is that of the last arc, or the problem line if there are no arcs.
abbrev pub HasNoGraphInside : List ℕ → Type 0
HasNoGraphInside text =
    (front rest : List ℕ) (graph : Content)
    → text ≡ front ++ line_feed ∷ rest
    → IsGraphText front graph
    → rest ≡ []

-- no line that was read is wrong, all arcs came and no section, and no other line was begun
pub record HasGraph (reader : JobReader) : Type 0 where
  pub right : reader.lines.fault ≡ None
  pub complete : reader.lines.draft.stage ≡ Within Problem 0
  pub kept : reader.unfinished.items ≡ []
  pub outside : reader.in_comment ≡ false

-- a line that was read is wrong
abbrev pub HasFault : JobReader → Type 0
HasFault reader = is_some reader.lines.fault ≡ true

-- no more bytes are read of the graph: it is whole, or a line is wrong
abbrev pub IsGraphOver : JobReader → Type 0
IsGraphOver reader = HasFault reader ⊎ HasGraph reader
