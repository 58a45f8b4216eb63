-- What the fast way through the lines of arcs reads. Not part of what a caller is promised.
use Rattle.std.specs.Prelude.{◌≡◌, ℕ, ◌+◌, ◌-◌, ◌^◌, ◌<◌, ◌≤◌, true, List, ◌∷◌, ◌++◌, length, drop}
use Rattle.std.specs.Prelude.{slice_index, Some, Ok}
use Rattle.std.specs.Str.{all_ascii_digits}
use Rattle.std.specs.Str.Parse.{digits_value}
use Rattle.route_walks.specs.declared.graph.ArcRec.{ArcRec}
use Rattle.dimacs_text.specs.Lines.{lines, without_cr, is_blank, number}
use Rattle.dimacs_text.specs.Forms.{reading}
use Rattle.dimacs_text.specs.Jobs.{arc_record}

-- nothing, or the last byte is a line feed
abbrev pub EndsWithFeed : List ℕ → Type 0
EndsWithFeed bytes = 0 < length bytes → slice_index bytes (length bytes - 1) ≡ 10

-- none of the bytes from one place to another is a line feed
abbrev pub HasNoFeed : List ℕ → ℕ → ℕ → Type 0
HasNoFeed bytes from to = (k : ℕ) → from ≤ k → k < to → slice_index bytes k ≡ 10 → ⊥

-- the bytes from one place to another are digits, and this is what they are worth
pub record AreDigits (bytes : List ℕ) (start end value : ℕ) : Type 0 where
  pub digits : List ℕ
  pub joined : drop start bytes ≡ digits ++ drop end bytes
  pub count : length digits + start ≡ end
  pub all : all_ascii_digits digits ≡ true
  pub worth : digits_value 10 digits ≡ value
  pub small : value < 10 ^ length digits

-- a number after one blank
pub record LeadsSpaced (bytes : List ℕ) (value : ℕ) (rest : List ℕ) : Type 0 where
  pub blank : ℕ
  pub digits : List ℕ
  pub joined : bytes ≡ blank ∷ (digits ++ rest)
  pub spaced : is_blank blank ≡ true
  pub filled : 0 < length digits
  pub all : all_ascii_digits digits ≡ true
  pub worth : number digits ≡ Some value

-- the bytes begin with a line of this text, of which the end is part, whatever comes after it
pub record EndsLine (bytes text after : List ℕ) : Type 0 where
  pub whole : List ℕ
  pub joined : bytes ≡ whole ++ after
  pub line : List ℕ
  pub split : (more : List ℕ) → lines (whole ++ more) ≡ line ∷ lines more
  pub trimmed : without_cr line ≡ text

-- the rest begins with the line of the arc, of which the end is part, whatever comes after it
pub record IsArcLine (vertices : ℕ) (rest : List ℕ) (arc : ArcRec) (after : List ℕ) : Type 0 where
  pub whole : List ℕ
  pub joined : rest ≡ whole ++ after
  pub line : List ℕ
  pub split : (more : List ℕ) → lines (whole ++ more) ≡ line ∷ lines more
  pub reads : reading vertices line ≡ Ok (Some (arc_record arc))
