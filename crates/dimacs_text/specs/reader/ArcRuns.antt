-- What a run of arcs says of the text that it was read in. Not part of what a caller is promised.
use Rattle.std.specs.Prelude.{ℕ, ◌+◌, ◌-◌, ◌≤◌, List, length, drop, take}
use Rattle.dimacs_text.specs.declared.arc_runs.ArcRun.{ArcRun}
use Rattle.dimacs_text.specs.reader.Drafts.{AreArcLines}

-- the arcs' lines stand from the start to the place after them
pub record IsArcRun (bytes : List ℕ) (run : ArcRun) : Type 0 where
  pub inside : run.start + length run.arcs.items ≤ run.after
  pub ends : run.after ≤ length bytes
  pub lines : AreArcLines run.vertices (take (run.after - run.start) (drop run.start bytes)) run.arcs.items

-- such a run, which begins at a place or after it
pub record IsRunFrom (bytes : List ℕ) (from : ℕ) (run : ArcRun) : Type 0 where
  pub is_run : IsArcRun bytes run
  pub begins : from ≤ run.start
