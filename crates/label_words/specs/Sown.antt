-- What the words hold while seeds are sown, and where a run goes on. No promise to callers.
use Rattle.std.specs.Prelude.{◌≡◌, ℕ, ◌≤◌, List, [], ◌∷◌, length}
use Rattle.route_walks.specs.declared.graph.Seed.{Seed}
use Rattle.route_walks.specs.declared.graph.TheConstants.{MAX_VERTICES}
use Rattle.relax_core.specs.declared.views.TheConstants.{SHARES}
use Rattle.relax_core.specs.Lawful.{marks_below}
use Rattle.relax_core.specs.State.{State, IsStarted, mark_of}
use Rattle.relax_core.specs.Views.{idle_view}
use Rattle.label_words.specs.Paused.{Rest}
use Rattle.label_words.specs.Rule.{IsLaid}

-- the words hold the opening of n vertices and these seeds
pub record IsSown (n : ℕ) (seeds : List Seed) (words : List ℕ) : Type 0 where
  pub state : State
  pub laid : IsLaid state n words
  pub vertices : n ≤ MAX_VERTICES
  pub labels : length state.labels ≡ n
  pub marks : length state.marks ≡ n
  pub started : IsStarted state.labels state.marks seeds
  pub total : state.total ≡ marks_below (mark_of state.marks) n
  pub views : state.views ≡ idle_view SHARES ∷ []

-- the state that a run goes on with: labels and marks as they were left, their number as total, and one idle view with
-- all shares
abbrev pub state_of : Rest → State
state_of rest = record {
  labels = rest.labels;
  marks = rest.marks;
  total = marks_below (mark_of rest.marks) (length rest.labels);
  views = idle_view SHARES ∷ [];
}
