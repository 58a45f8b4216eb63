-- The table of the forms of a line, and what one line says.
use Rattle.std.specs.Prelude.{ℕ, ◌-◌, ◌^◌, ◌==◌, ◌&&◌, nat_le, Bool, true, false, List, [], ◌∷◌}
use Rattle.std.specs.Prelude.{length, drop, Option, Some, None, Result, Ok, Err, option_map}
use Rattle.std.specs.Prelude.{option_and_then, find, codes, bytes_eq, if◌then◌else◌, slice_index}
use Rattle.route_walks.specs.declared.graph.TheConstants.{MAX_VERTICES}
use Rattle.dimacs_text.specs.declared.form.Section.TheVariants.{Problem, Sources, Pairs, Added}
use Rattle.dimacs_text.specs.declared.form.Item.TheVariants.{Arc, Source, Pair}
use Rattle.dimacs_text.specs.declared.form.Form.{Form}
use Rattle.dimacs_text.specs.declared.form.Form.TheVariants.{Head, Counted}
use Rattle.dimacs_text.specs.declared.form.Limit.{Limit}
use Rattle.dimacs_text.specs.declared.fault.LineKind.{LineKind}
use Rattle.dimacs_text.specs.declared.fault.LineKind.TheVariants.{Unknown, Fields, Number, Range}
use Rattle.dimacs_text.specs.declared.form.TheConstants.{MAX_TEXT_ARCS, MAX_QUERIES, MAX_ADDED}
use Rattle.dimacs_text.specs.Lines.{letter_c, fields, number, without_cr}

-- the forms, in the order in which a line is compared with them
abbrev pub forms : List Form
forms =
    Head Problem
    ∷ Head Sources
    ∷ Head Pairs
    ∷ Head Added
    ∷ Counted Arc
    ∷ Counted Source
    ∷ Counted Pair
    ∷ []

-- the fields by which a form is known
abbrev pub leading : Form → List (List ℕ)
leading (Head Problem) = codes "p" ∷ codes "sp" ∷ []
leading (Head Sources) = codes "p" ∷ codes "aux" ∷ codes "sp" ∷ codes "ss" ∷ []
leading (Head Pairs) = codes "p" ∷ codes "aux" ∷ codes "sp" ∷ codes "p2p" ∷ []
leading (Head Added) = codes "p" ∷ codes "aux" ∷ codes "sp" ∷ codes "add" ∷ []
leading (Counted Arc) = codes "a" ∷ []
leading (Counted Source) = codes "s" ∷ []
leading (Counted Pair) = codes "q" ∷ []

-- a vertex is a number from 1 to the number of vertices
abbrev pub vertex_limit : ℕ → Limit
vertex_limit vertices = record { least = 1; most = vertices }

abbrev pub up_to : ℕ → Limit
up_to most = record { least = 0; most = most }

-- the limits of the numbers after them, where vertices are counted to the number given
abbrev pub limits : ℕ → Form → List Limit
limits vertices (Head Problem) = up_to MAX_VERTICES ∷ up_to MAX_TEXT_ARCS ∷ []
limits vertices (Head Sources) = up_to MAX_QUERIES ∷ []
limits vertices (Head Pairs) = up_to MAX_QUERIES ∷ []
limits vertices (Head Added) = up_to MAX_ADDED ∷ []
limits vertices (Counted Arc) = vertex_limit vertices ∷ vertex_limit vertices ∷ up_to (2 ^ 32 - 1) ∷ []
limits vertices (Counted Source) = vertex_limit vertices ∷ []
limits vertices (Counted Pair) = vertex_limit vertices ∷ vertex_limit vertices ∷ []

-- a line of a form, with its numbers as they stand in the text
pub record Record : Type 0 where
  pub form : Form
  pub numbers : List ℕ

-- the fields begin with those that lead a form
abbrev pub begins_with : List (List ℕ) → List (List ℕ) → Bool
begins_with [] fs = true
begins_with (w ∷ ws) [] = false
begins_with (w ∷ ws) (f ∷ fs) = bytes_eq f w && begins_with ws fs

-- the first form whose leading fields the fields begin with
abbrev pub form_of : List (List ℕ) → Option Form
form_of fs = find (λ form. begins_with (leading form) fs) forms

-- the numbers of the fields, where each is one
abbrev pub numbers : List (List ℕ) → Option (List ℕ)
numbers [] = Some []
numbers (f ∷ fs) = option_and_then (λ v. option_map (λ vs. v ∷ vs) (numbers fs)) (number f)

-- each number is within the limit at its place
abbrev pub in_limits : List Limit → List ℕ → Bool
in_limits [] [] = true
in_limits [] (v ∷ vs) = false
in_limits (l ∷ ls) [] = false
in_limits (l ∷ ls) (v ∷ vs) = nat_le l.least v && nat_le v l.most && in_limits ls vs

-- numbers where there are some, and then their limits
abbrev pub checked : List Limit → Option (List ℕ) → Result (List ℕ) LineKind
checked ls None = Err Number
checked ls (Some vs) = if in_limits ls vs then Ok vs else Err Range

-- the numbers of the fields, or the first kind that is wrong with them
unfoldable pub numbers_within : List Limit → List (List ℕ) → Result (List ℕ) LineKind
numbers_within ls fs = if length fs == length ls then checked ls (numbers fs) else Err Fields

-- what a line can say: nothing, a record, or what is wrong with it
abbrev pub Reading : Type 0
Reading = Result (Option Record) LineKind

abbrev pub in_form : Form → Result (List ℕ) LineKind → Reading
in_form form (Ok vs) = Ok (Some (record { form = form; numbers = vs }))
in_form form (Err kind) = Err kind

abbrev pub record_reading : ℕ → Option Form → List (List ℕ) → Reading
record_reading vertices None fs = Err Unknown
record_reading vertices (Some form) fs =
    in_form form (numbers_within (limits vertices form) (drop (length (leading form)) fs))

-- no field is a blank line, and a first field that begins with 'c' a comment
unfoldable pub fields_reading : ℕ → List (List ℕ) → Reading
fields_reading vertices [] = Ok None
fields_reading vertices (f ∷ fs) =
    if slice_index f 0 == letter_c
    then Ok None
    else record_reading vertices (form_of (f ∷ fs)) (f ∷ fs)

-- what a line says, where vertices are counted to the number given
unfoldable pub reading : ℕ → List ℕ → Reading
reading vertices line = fields_reading vertices (fields (without_cr line))

-- N after a problem line
abbrev pub vertices_next : ℕ → Form → ℕ → ℕ
vertices_next vertices (Head Problem) first = first
vertices_next vertices (Head Sources) first = vertices
vertices_next vertices (Head Pairs) first = vertices
vertices_next vertices (Head Added) first = vertices
vertices_next vertices (Counted item) first = vertices

-- vertices are counted to N after the problem line
abbrev pub vertices_after : ℕ → Reading → ℕ
vertices_after vertices (Ok (Some r)) = vertices_next vertices r.form (slice_index r.numbers 0)
vertices_after vertices (Ok None) = vertices
vertices_after vertices (Err kind) = vertices

-- what each line says, one after the other
unfoldable pub readings : ℕ → List (List ℕ) → List Reading
readings vertices [] = []
readings vertices (l ∷ ls) =
    reading vertices l ∷ readings (vertices_after vertices (reading vertices l)) ls
