-- The bytes that were taken from a reader, where its type tells them.
use Rattle.std.specs.Prelude.{◌≡◌, ℕ, ◌+◌, ◌≤◌, List, length, Option}
use Rattle.std.specs.Io.KnownBytes.{Consumes, IsAtEnd}

-- at most `limit` bytes were taken
pub record TakesAtMost (limit : ℕ) (before after : Option (List ℕ)) : Type 0 where
  pub bytes : List ℕ
  pub taken : Consumes before after bytes
  pub few : length bytes ≤ limit

-- one byte more than the limit was taken
pub record TakesOneMore (limit : ℕ) (before after : Option (List ℕ)) : Type 0 where
  pub bytes : List ℕ
  pub taken : Consumes before after bytes
  pub count : length bytes ≡ limit + 1

-- the text was taken, and nothing was left after it
pub record TakesWhole (before after : Option (List ℕ)) (text : List ℕ) : Type 0 where
  pub taken : Consumes before after text
  pub ended : IsAtEnd after
