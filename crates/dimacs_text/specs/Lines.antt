-- Lines, fields and numbers of a text, as the format page of the 9th DIMACS Implementation Challenge
-- (Shortest Paths, files .gr and .ss) has them; line ends and blanks are this project's profile.
use Rattle.std.specs.Prelude.{ℕ, ◌-◌, ◌==◌, ◌||◌, Bool, not, true, false, List, [], ◌∷◌, length}
use Rattle.std.specs.Prelude.{take, Option, Some, None, filter, if◌then◌else◌, slice_index}
use Rattle.std.specs.List.{onto_first, slice_split}
use Rattle.std.specs.Str.{all_ascii_digits}
use Rattle.std.specs.Str.Parse.{digits_value}

-- the bytes that have a meaning of their own
abbrev pub line_feed : ℕ
line_feed = 10

abbrev pub carriage_return : ℕ
carriage_return = 13

abbrev pub space : ℕ
space = 32

abbrev pub tab : ℕ
tab = 9

-- what a comment begins with
abbrev pub letter_c : ℕ
letter_c = 99

-- a text, cut after each line feed; after a last line feed no line follows
abbrev pub lines : List ℕ → List (List ℕ)
lines [] = []
lines (b ∷ bs) = if b == line_feed then [] ∷ lines bs else onto_first b (lines bs)

-- a line without the one carriage return at its end
abbrev pub without_cr : List ℕ → List ℕ
without_cr line =
    if slice_index line (length line - 1) == carriage_return
    then take (length line - 1) line
    else line

-- a space or a tab
abbrev pub is_blank : ℕ → Bool
is_blank b = (b == space) || (b == tab)

abbrev pub is_empty : List ℕ → Bool
is_empty [] = true
is_empty (b ∷ bs) = false

-- the runs of bytes between blanks
unfoldable pub fields : List ℕ → List (List ℕ)
fields line = filter (λ run. not (is_empty run)) (slice_split is_blank line)

-- the first byte that is no blank begins a comment, whatever comes after these bytes on their line
abbrev pub begins_comment : List ℕ → Bool
begins_comment [] = false
begins_comment (b ∷ bs) = if is_blank b then begins_comment bs else (b == letter_c)

-- one or more decimal digits are a number, however many
unfoldable pub number : List ℕ → Option ℕ
number [] = None
number (b ∷ bs) = if all_ascii_digits (b ∷ bs) then Some (digits_value 10 (b ∷ bs)) else None
