-- What the reader keeps of a line, as the record that the line is.
use Rattle.std.specs.Prelude.{◌≡◌, slice_index, slice_index_or, true, map, drop, length, ℕ, ◌<◌, ◌≤◌}
use Rattle.std.specs.Prelude.{List, [], ◌∷◌, Option, Some, None, Result, Ok, Err}
use Rattle.std.specs.Borrow.{Bor}
use Rattle.dimacs_text.specs.declared.form.Entry.{Entry}
use Rattle.dimacs_text.specs.declared.form.Limit.{Limit}
use Rattle.dimacs_text.specs.declared.fault.LineKind.{LineKind}
use Rattle.dimacs_text.specs.Forms.{Record, Reading, begins_with}
use Rattle.dimacs_text.specs.Jobs.{arc_record, source_record, pair_record}
use Rattle.dimacs_text.specs.Jobs.{problem_record, sources_record, pairs_record, added_record}
use Rattle.dimacs_text.specs.declared.form.Entry.TheVariants as entry

abbrev pub record_of : Entry → Record
record_of (entry.Problem vertices arcs) = problem_record vertices arcs
record_of (entry.Arc arc) = arc_record arc
record_of (entry.Sources count) = sources_record count
record_of (entry.Source vertex) = source_record vertex
record_of (entry.Pairs count) = pairs_record count
record_of (entry.Pair source target) = pair_record (source, target)
record_of (entry.Added count) = added_record count

-- what was read of a line, as what the line says
abbrev pub said_by : Result (Option Entry) LineKind → Reading
said_by (Ok (Some e)) = Ok (Some (record_of e))
said_by (Ok None) = Ok None
said_by (Err kind) = Err kind

abbrev pub entry_said : Result Entry LineKind → Reading
entry_said (Ok e) = Ok (Some (record_of e))
entry_said (Err kind) = Err kind

-- two numbers that were read, as the numbers of a line
abbrev pub two_said : Result (ℕ × ℕ) LineKind → Result (List ℕ) LineKind
two_said (Ok two) = Ok (two.0 ∷ two.1 ∷ [])
two_said (Err kind) = Err kind

abbrev pub IsWithin : Limit → ℕ → Type 0
IsWithin limit n = (limit.least ≤ n) × (n ≤ limit.most)

-- what slices hold
abbrev pub fields_of : List (Bor (List ℕ)) → List (List ℕ)
fields_of slices = map (λ slice. slice.now) slices

-- the fields begin with those that lead a form, and the rest is what follows
abbrev pub FollowsLeading : List (List ℕ) → List (List ℕ) → List (List ℕ) → Type 0
FollowsLeading lead fs rest =
    (begins_with lead fs ≡ true)
    × (rest ≡ drop (length lead) fs)

-- each number is within the limit at its place
abbrev pub AreWithin : List Limit → List ℕ → Type 0
AreWithin ls vs =
    (k : ℕ)
    → k < length ls
    → IsWithin (slice_index_or ls k (record { least = 0; most = 0 })) (slice_index vs k)
