-- The heads of the sections that can follow a graph: 'p aux sp', words, a form, and numbers.
use Rattle.std.specs.Prelude.{ℕ, Bool, true, false, ◌&&◌, List, [], ◌∷◌, length, drop}
use Rattle.std.specs.Prelude.{Option, Some, None, codes, bytes_eq, if◌then◌else◌}
use Rattle.dimacs_text.specs.declared.form.Section.{Section}
use Rattle.dimacs_text.specs.declared.form.Section.TheVariants as section
use Rattle.dimacs_text.specs.declared.head.HeadForm.{HeadForm}
use Rattle.dimacs_text.specs.declared.head.HeadForm.TheVariants.{Sources, Within, Pairs, Walk, Added, Removed, Replaced, Listed}
use Rattle.dimacs_text.specs.declared.head.HeadKind.{HeadKind}
use Rattle.dimacs_text.specs.declared.head.HeadKind.TheVariants.{Distances, Levels, Components}
use Rattle.dimacs_text.specs.declared.head.HeadLines.{HeadLines}
use Rattle.dimacs_text.specs.declared.head.HeadLines.TheVariants.{Each, Walks, Raw, Totals}
use Rattle.dimacs_text.specs.declared.head.SectionHead.{SectionHead}
use Rattle.dimacs_text.specs.Lines.{fields, without_cr}
use Rattle.dimacs_text.specs.Forms.{begins_with}

-- the fields with which each of them begins
abbrev pub front : List (List ℕ)
front = codes "p" ∷ codes "aux" ∷ codes "sp" ∷ []

-- a section line, whatever else is in it
unfoldable pub begins_section : List ℕ → Bool
begins_section line = begins_with front (fields (without_cr line))

-- the fields after the first three
abbrev pub after_front : List ℕ → List (List ℕ)
after_front line = drop (length front) (fields (without_cr line))

-- ---- words

abbrev pub kind_word : List ℕ → Option HeadKind
kind_word f =
    if bytes_eq f (codes "distances")
    then Some Distances
    else if bytes_eq f (codes "levels")
    then Some Levels
    else if bytes_eq f (codes "components")
    then Some Components
    else None

abbrev pub lines_word : List ℕ → Option HeadLines
lines_word f =
    if bytes_eq f (codes "each")
    then Some Each
    else if bytes_eq f (codes "walks")
    then Some Walks
    else if bytes_eq f (codes "raw")
    then Some Raw
    else if bytes_eq f (codes "totals")
    then Some Totals
    else None

abbrev pub form_word : List ℕ → Option HeadForm
form_word f =
    if bytes_eq f (codes "ss")
    then Some Sources
    else if bytes_eq f (codes "within")
    then Some Within
    else if bytes_eq f (codes "p2p")
    then Some Pairs
    else if bytes_eq f (codes "walk")
    then Some Walk
    else if bytes_eq f (codes "add")
    then Some Added
    else if bytes_eq f (codes "cut")
    then Some Removed
    else if bytes_eq f (codes "set")
    then Some Replaced
    else if bytes_eq f (codes "arcs")
    then Some Listed
    else None

-- the word that a first field is, and the fields after it; or all of them
abbrev pub taken : {W : Type 0} → Option W → List ℕ → List (List ℕ) → Option W × List (List ℕ)
taken None f fs = (None, f ∷ fs)
taken (Some word) f fs = (Some word, fs)

abbrev pub word_in : {W : Type 0} → (List ℕ → Option W) → List (List ℕ) → Option W × List (List ℕ)
word_in table [] = (None, [])
word_in table (f ∷ fs) = taken (table f) f fs

-- ---- which words go with which form

-- costs and levels have the same heads; components have one block, whatever is asked of them
abbrev pub takes_kind : HeadForm → Option HeadKind → Option HeadLines → Bool
takes_kind form None lines = true
takes_kind Added (Some kind) lines = false
takes_kind Removed (Some kind) lines = false
takes_kind Replaced (Some kind) lines = false
takes_kind Listed (Some kind) lines = false
takes_kind Sources (Some Components) None = true
takes_kind Sources (Some Components) (Some word) = false
takes_kind Pairs (Some Components) None = true
takes_kind Pairs (Some Components) (Some word) = false
takes_kind Within (Some Components) lines = false
takes_kind Walk (Some Components) lines = false
takes_kind Sources (Some Distances) lines = true
takes_kind Sources (Some Levels) lines = true
takes_kind Pairs (Some Distances) lines = true
takes_kind Pairs (Some Levels) lines = true
takes_kind Within (Some Distances) lines = true
takes_kind Within (Some Levels) lines = true
takes_kind Walk (Some Distances) lines = true
takes_kind Walk (Some Levels) lines = true

abbrev pub takes_lines : HeadForm → Option HeadLines → Bool
takes_lines form None = true
takes_lines Sources (Some word) = true
takes_lines Within (Some Each) = true
takes_lines Within (Some Walks) = true
takes_lines Within (Some Raw) = false
takes_lines Within (Some Totals) = false
takes_lines Pairs (Some Each) = true
takes_lines Pairs (Some Walks) = true
takes_lines Pairs (Some Raw) = true
takes_lines Pairs (Some Totals) = false
takes_lines Walk (Some word) = false
takes_lines Added (Some word) = false
takes_lines Removed (Some word) = false
takes_lines Replaced (Some word) = false
takes_lines Listed (Some word) = false

abbrev pub fits : Option HeadKind → Option HeadLines → HeadForm → Bool
fits kind lines form = takes_kind form kind lines && takes_lines form lines

-- ---- the head that fields name, and the fields after its form

abbrev pub head_if : Bool → SectionHead → List (List ℕ) → Option (SectionHead × List (List ℕ))
head_if true head fs = Some (head, fs)
head_if false head fs = None

abbrev pub head_with : Option HeadKind → Option HeadLines → Option HeadForm → List (List ℕ)
    → Option (SectionHead × List (List ℕ))
head_with kind lines None fs = None
head_with kind lines (Some form) fs =
    head_if (fits kind lines form) (record { kind = kind; lines = lines; form = form; bound = None }) fs

abbrev pub head_after : Option HeadKind → Option HeadLines × List (List ℕ) → Option (SectionHead × List (List ℕ))
head_after kind lines = head_with kind lines.0 (word_in form_word lines.1).0 (word_in form_word lines.1).1

-- its words in this order, each of which can be left out, and its form
abbrev pub head_by : Option HeadKind × List (List ℕ) → Option (SectionHead × List (List ℕ))
head_by kind = head_after kind.0 (word_in lines_word kind.1)

unfoldable pub head_in : List (List ℕ) → Option (SectionHead × List (List ℕ))
head_in fs = head_by (word_in kind_word fs)

-- the section of a job as which one of a form is read
abbrev pub section_of : HeadForm → Section
section_of Sources = section.Sources
section_of Within = section.Sources
section_of Pairs = section.Pairs
section_of Walk = section.Pairs
section_of Added = section.Added
section_of Removed = section.Pairs
section_of Replaced = section.Added
section_of Listed = section.Pairs
