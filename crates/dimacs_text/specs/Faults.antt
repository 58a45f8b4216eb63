-- The first fault of a text.
use Rattle.std.specs.Prelude.{◌≡◌, ℕ, ◌+◌, List, ◌∷◌, ◌++◌, length, map, codes, Option, Some, Ok, Err}
use Rattle.route_walks.specs.declared.graph.TheConstants.{MAX_VERTICES}
use Rattle.dimacs_text.specs.declared.fault.LineKind.{LineKind}
use Rattle.dimacs_text.specs.declared.fault.LineKind.TheVariants.{Unknown, Fields, Number, Range, Misplaced}
use Rattle.dimacs_text.specs.declared.fault.LineKind.TheVariants.{TooMany, TooFew, NoProblem}
use Rattle.dimacs_text.specs.declared.fault.TextFault.{TextFault}
use Rattle.dimacs_text.specs.declared.fault.TextFault.TheVariants.{Memory, Line}
use Rattle.dimacs_text.specs.Lines.{lines}
use Rattle.dimacs_text.specs.Forms.{Record, Reading, readings}
use Rattle.dimacs_text.specs.Grammar.{Token, token_of, IsLegal, BeginsLegal, IsMisfit, lack_of}
use Rattle.dimacs_text.specs.Jobs.{records_among}

-- the shape of what lines said
abbrev pub tokens_among : List (Option Record) → List Token
tokens_among said = map (λ (r : Record). token_of r.form r.numbers) (records_among said)

-- The lines before say nothing or records with which a legal list begins. The line after them is the
-- first that is wrong:
pub data IsFirstAmong (rs : List Reading) (line : ℕ) (kind : LineKind) : Type 0 where
  -- it is no record within its limits,
  unread : (said : List (Option Record)) (after : List Reading)
      → rs ≡ map (λ s. Ok s) said ++ Err kind ∷ after
      → BeginsLegal (tokens_among said)
      → line ≡ length said + 1
      → IsFirstAmong rs line kind
  -- or a record with which no legal list begins,
  misfit : (said : List (Option Record)) (r : Record) (after : List Reading)
      → rs ≡ map (λ s. Ok s) said ++ Ok (Some r) ∷ after
      → BeginsLegal (tokens_among said)
      → IsMisfit (tokens_among said) (token_of r.form r.numbers) kind
      → line ≡ length said + 1
      → IsFirstAmong rs line kind
  -- or the text ends there, and more had to come.
  unfinished : (said : List (Option Record))
      → rs ≡ map (λ s. Ok s) said
      → BeginsLegal (tokens_among said)
      → (IsLegal (tokens_among said) → ⊥)
      → kind ≡ lack_of (tokens_among said)
      → line ≡ length said + 1
      → IsFirstAmong rs line kind

-- the first line of a text that is wrong, counted from 1, and the first kind that fits there
unfoldable pub IsFirstFault : List ℕ → ℕ → LineKind → Type 0
IsFirstFault text line kind = IsFirstAmong (readings MAX_VERTICES (lines text)) line kind

-- a text is refused for want of memory, or at its first fault
abbrev pub IsFaultOf : List ℕ → TextFault → Type 0
IsFaultOf text Memory = Unit {0}
IsFaultOf text (Line line kind) = IsFirstFault text line kind

-- what is wrong with a line, in words
abbrev pub words_of : LineKind → List ℕ
words_of Unknown = codes "unknown line"
words_of Fields = codes "wrong number of fields"
words_of Number = codes "not a number"
words_of Range = codes "out of range"
words_of Misplaced = codes "misplaced line"
words_of TooMany = codes "too many lines"
words_of TooFew = codes "too few lines"
words_of NoProblem = codes "no problem line"
