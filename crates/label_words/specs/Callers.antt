-- What a caller that goes along rows keeps true of its seat.
use Rattle.std.specs.Prelude.{◌≡◌, ℕ, ◌≤◌}
use Rattle.relax_core.specs.declared.views.View.{View}
use Rattle.relax_core.specs.Views.{IsOpen, vertex_of}
use Rattle.label_words.specs.Known.{Held}

-- the seat is still of its words, their graph and their seeds, and has its share
pub record Stays (old new : Held) : Type 0 where
  pub words : new.words ≡ old.words
  pub graph : new.known.graph ≡ old.known.graph
  pub seeds : new.known.seeds ≡ old.known.seeds
  pub share : new.known.view.share ≡ old.known.view.share

-- the row of u is open, and the seat has credits
pub record HasRowOpen (u : ℕ) (view : View) : Type 0 where
  pub hand : IsOpen view.hand
  pub vertex : vertex_of view.hand ≡ u
  pub credits : 1 ≤ view.credits
