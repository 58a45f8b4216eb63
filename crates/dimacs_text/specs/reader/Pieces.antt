-- What the reader takes off the front of a line. Not part of what a caller is promised.
use Rattle.std.specs.Prelude.{◌≡◌, ℕ, ◌-◌, ◌^◌, min, Bool, not, true, false, List, [], ◌∷◌, ◌++◌}
use Rattle.dimacs_text.specs.Lines.{is_blank}

-- the list is empty, or its first byte is a blank, or isn't one
abbrev pub Begins : Bool → List ℕ → Type 0
Begins answer [] = Unit {0}
Begins answer (b ∷ bs) = is_blank b ≡ answer

-- each byte is a blank, or none is
abbrev pub AreBlank : Bool → List ℕ → Type 0
AreBlank answer [] = Unit {0}
AreBlank answer (b ∷ bs) = (is_blank b ≡ answer) × AreBlank answer bs

-- the run ends at the first byte that is of the other kind
pub record SplitsAfter (answer : Bool) (bytes run rest : List ℕ) : Type 0 where
  pub joined : bytes ≡ run ++ rest
  pub alike : AreBlank answer run
  pub ended : Begins (not answer) rest

-- the rest is what comes after the blanks at the start
abbrev pub SkipsBlanks : List ℕ → List ℕ → Type 0
SkipsBlanks bytes rest = (blanks : List ℕ) × SplitsAfter true bytes blanks rest

-- the run ends at the first blank
abbrev pub SplitsRun : List ℕ → List ℕ → List ℕ → Type 0
SplitsRun bytes run rest = SplitsAfter false bytes run rest

-- a number that is too large for 64 bits counts as the largest
abbrev pub capped : ℕ → ℕ
capped n = min n (2 ^ 64 - 1)
