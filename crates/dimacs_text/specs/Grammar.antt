-- The shape of a text: heads with their counts, and items. Which lists of them are legal, and what is
-- wrong with a line that no legal list has there.
use Rattle.std.specs.Prelude.{◌≡◌, ◌⊎◌, ℕ, ◌-◌, Bool, nat_lt, List, [], ◌∷◌, ◌++◌, length}
use Rattle.std.specs.Prelude.{map, flat_map, replicate, slice_index, IsTrue}
use Rattle.dimacs_text.specs.declared.form.Section.{Section}
use Rattle.dimacs_text.specs.declared.form.Section.TheVariants.{Problem, Sources, Pairs, Added}
use Rattle.dimacs_text.specs.declared.form.Item.{Item}
use Rattle.dimacs_text.specs.declared.form.Item.TheVariants.{Arc, Source, Pair}
use Rattle.dimacs_text.specs.declared.fault.LineKind.{LineKind}
use Rattle.dimacs_text.specs.declared.fault.LineKind.TheVariants.{Misplaced, TooMany, TooFew, NoProblem}
use Rattle.dimacs_text.specs.declared.form.Form.{Form}
use Rattle.dimacs_text.specs.declared.form.Form.TheVariants.{Head, Counted}

-- the items that a head counts
abbrev pub item_of : Section → Item
item_of Problem = Arc
item_of Sources = Source
item_of Pairs = Pair
item_of Added = Arc

-- the place of a section in a text
abbrev pub place : Section → ℕ
place Problem = 0
place Sources = 1
place Pairs = 1
place Added = 2

-- a section may follow one at an earlier place
abbrev pub may_follow : Section → Section → Bool
may_follow section next = nat_lt (place section) (place next)

-- a record without its vertices and weights
pub data Token : Type 0 where
  opens : Section → ℕ → Token
  adds : Item → Token

-- the last number of a head is its count
abbrev pub token_of : Form → List ℕ → Token
token_of (Head section) numbers = opens section (slice_index numbers (length numbers - 1))
token_of (Counted item) numbers = adds item

abbrev pub form_of_token : Token → Form
form_of_token (opens section count) = Head section
form_of_token (adds item) = Counted item

-- a section with its count
pub record Part : Type 0 where
  pub section : Section
  pub count : ℕ

-- a head, and as many items as it counts
abbrev pub tokens_of : Part → List Token
tokens_of part = opens part.section part.count ∷ replicate part.count (adds (item_of part.section))

-- each part may follow the one before
abbrev pub AreInTurn : Section → List Part → Type 0
AreInTurn section [] = Unit {0}
AreInTurn section (part ∷ parts) =
    IsTrue (may_follow section part.section)
    × AreInTurn part.section parts

-- the section at place 0 comes first
abbrev pub AreOfAJob : List Part → Type 0
AreOfAJob [] = ⊥
AreOfAJob (part ∷ parts) =
    (place part.section ≡ 0)
    × AreInTurn part.section parts

-- a legal list is that of the parts of a job
unfoldable pub IsLegal : List Token → Type 0
IsLegal tokens =
    (parts : List Part)
    × AreOfAJob parts
    × (tokens ≡ flat_map tokens_of parts)

-- some legal list begins so
unfoldable pub BeginsLegal : List Token → Type 0
BeginsLegal tokens =
    (more : List Token)
    × IsLegal (tokens ++ more)

-- with other counts some legal list begins so
unfoldable pub FitsSomeCounts : List Token → Type 0
FitsSomeCounts tokens =
    (others : List Token)
    × (map form_of_token others ≡ map form_of_token tokens)
    × BeginsLegal others

-- what is wrong with a token that fits with other counts: a head comes early, and an item is one too many
abbrev pub excess : Token → LineKind
excess (opens section count) = TooFew
excess (adds item) = TooMany

-- a token that fits with no counts is misplaced
abbrev pub MisfitKind : List Token → Token → LineKind → Type 0
MisfitKind before token kind =
    ((kind ≡ Misplaced) × (FitsSomeCounts (before ++ token ∷ []) → ⊥))
    ⊎ ((kind ≡ excess token) × FitsSomeCounts (before ++ token ∷ []))

-- no legal list begins with what was before and this token
unfoldable pub IsMisfit : List Token → Token → LineKind → Type 0
IsMisfit before token kind =
    (BeginsLegal (before ++ token ∷ []) → ⊥)
    × MisfitKind before token kind

-- what a text that ends too early lacks
abbrev pub lack_of : List Token → LineKind
lack_of [] = NoProblem
lack_of (token ∷ tokens) = TooFew
