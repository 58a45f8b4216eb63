-- The bytes that were given to a writer, where its type tells them.
use Rattle.std.specs.Prelude.{◌≡◌, ℕ, List, ◌++◌, Option}
use Rattle.std.specs.Io.KnownBytes.{Appends}

-- some bytes begin a text
abbrev pub IsPrefix : List ℕ → List ℕ → Type 0
IsPrefix bytes text = (left : List ℕ) × (text ≡ bytes ++ left)

-- a prefix of the bytes was given
pub record GivesPrefix (before after : Option (List ℕ)) (bytes : List ℕ) : Type 0 where
  pub given : List ℕ
  pub is_prefix : IsPrefix given bytes
  pub appended : Appends before after given

-- a text of this kind was given, and nothing else
pub record Writes (IsText : List ℕ → Type 0) (before after : Option (List ℕ)) : Type 0 where
  pub text : List ℕ
  pub is_text : IsText text
  pub appended : Appends before after text

-- a prefix of any text of this kind was given, and nothing else
pub record WritesPrefix (IsText : List ℕ → Type 0) (before after : Option (List ℕ)) : Type 0 where
  pub given : List ℕ
  pub is_prefix : (text : List ℕ) → IsText text → IsPrefix given text
  pub appended : Appends before after given
