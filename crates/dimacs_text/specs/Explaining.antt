-- What an explanation says of the line that is wrong. What it expects there is words for people, and no contract's.
use Rattle.std.specs.Prelude.{◌≡◌, ℕ, ◌-◌, List, [], ◌∷◌, take, drop, length, min, Option, Some, None}
use Rattle.dimacs_text.specs.declared.explanation.TheConstants.{MAX_KEPT_BYTES}
use Rattle.dimacs_text.specs.declared.explanation.Beginning.{Beginning}
use Rattle.dimacs_text.specs.declared.explanation.Explanation.{Explanation}
use Rattle.dimacs_text.specs.declared.fault.LineKind.{LineKind}
use Rattle.dimacs_text.specs.declared.fault.TextFault.{TextFault}
use Rattle.dimacs_text.specs.declared.fault.TextFault.TheVariants.{Memory, Line}
use Rattle.dimacs_text.specs.Lines.{lines}

-- the first bytes of a line, as many as it has and at most those that are kept
abbrev pub kept_of : Beginning → List ℕ
kept_of beginning = take (min MAX_KEPT_BYTES beginning.length) beginning.bytes

-- the line is shown: its first bytes, and how many it has
abbrev pub IsShown : List ℕ → Option Beginning → Type 0
IsShown line None = ⊥
IsShown line (Some beginning) = (kept_of beginning ≡ take MAX_KEPT_BYTES line) × (beginning.length ≡ length line)

-- the first of the lines is shown, and where there is none, none is
abbrev pub IsFirstShown : List (List ℕ) → Option Beginning → Type 0
IsFirstShown [] shown = shown ≡ None
IsFirstShown (line ∷ lines) shown = IsShown line shown

-- it is of the line of this number and kind, and shows of it what the text has there
pub record IsExplanationOf (text : List ℕ) (line : ℕ) (kind : LineKind) (explanation : Explanation) : Type 0 where
  pub line_is : explanation.line ≡ line
  pub kind_is : explanation.kind ≡ kind
  pub shown : IsFirstShown (drop (line - 1) (lines text)) explanation.text

-- a fault of a line has an explanation
unfoldable pub Explains : List ℕ → TextFault → Option Explanation → Type 0
Explains text Memory explanation = Unit {0}
Explains text (Line line kind) None = ⊥
Explains text (Line line kind) (Some explanation) = IsExplanationOf text line kind explanation
