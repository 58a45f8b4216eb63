-- The lines that follow a graph: what each says, and when they are a whole request.
use Rattle.std.specs.Prelude.{◌≡◌, ◌<◌, ℕ, ◌+◌, ◌-◌, Bool, true, false, List, [], ◌∷◌, ◌++◌, length, map}
use Rattle.std.specs.Prelude.{Option, Some, None, Result, Ok, Err, if◌then◌else◌, slice_index, IfSome}
use Rattle.std.specs.List.{AllByRecursion}
use Rattle.std.specs.Option.{option_or}
use Rattle.route_walks.specs.declared.graph.ArcRec.{ArcRec}
use Rattle.route_walks.specs.declared.graph.TheConstants.{INF}
use Rattle.dimacs_text.specs.declared.form.Form.{Form}
use Rattle.dimacs_text.specs.declared.form.Form.TheVariants.{Head, Counted}
use Rattle.dimacs_text.specs.declared.form.Section.TheVariants.{Problem, Sources, Pairs, Added}
use Rattle.dimacs_text.specs.declared.form.Limit.{Limit}
use Rattle.dimacs_text.specs.declared.form.TheConstants.{MAX_QUERIES}
use Rattle.dimacs_text.specs.declared.fault.LineKind.{LineKind}
use Rattle.dimacs_text.specs.declared.fault.LineKind.TheVariants.{Unknown}
use Rattle.dimacs_text.specs.declared.fault.TextFault.{TextFault}
use Rattle.dimacs_text.specs.declared.fault.TextFault.TheVariants.{Memory, Line}
use Rattle.dimacs_text.specs.declared.head.HeadForm.{HeadForm}
use Rattle.dimacs_text.specs.declared.head.HeadForm.TheVariants as form
use Rattle.dimacs_text.specs.declared.head.SectionHead.{SectionHead}
use Rattle.dimacs_text.specs.Lines.{fields, without_cr}
use Rattle.dimacs_text.specs.Forms.{Record, Reading, fields_reading, in_form, limits, numbers_within, up_to}
use Rattle.dimacs_text.specs.Heads.{after_front, begins_section, head_in}
use Rattle.dimacs_text.specs.Faults.{IsFirstAmong}
use Rattle.dimacs_text.specs.Jobs.{Content, Question, absent, from_sources, of_pairs, problem_record}
use Rattle.dimacs_text.specs.Jobs.{records_of, records_among, sources_record}

-- the forms of a section that can come after a graph
abbrev pub is_later : Option Form → Bool
is_later None = false
is_later (Some (Head Problem)) = false
is_later (Some (Head Sources)) = true
is_later (Some (Head Pairs)) = true
is_later (Some (Head Added)) = true
is_later (Some (Counted item)) = false

-- ---- what a line says

-- the numbers of a section within a bound: a cost, and how many sources there are
abbrev pub within_limits : List Limit
within_limits = up_to (INF - 1) ∷ up_to MAX_QUERIES ∷ []

-- it is read as the head of a section of sources
abbrev pub sources_reading : Result (List ℕ) LineKind → Reading
sources_reading (Ok vs) = Ok (Some (sources_record (slice_index vs 1)))
sources_reading (Err kind) = Err kind

-- what the fields after a form say: what those of its section do
abbrev pub head_reading : ℕ → HeadForm → List (List ℕ) → Reading
head_reading n form.Within fs = sources_reading (numbers_within within_limits fs)
head_reading n form.Sources fs = in_form (Head Sources) (numbers_within (limits n (Head Sources)) fs)
head_reading n form.Pairs fs = in_form (Head Pairs) (numbers_within (limits n (Head Pairs)) fs)
head_reading n form.Walk fs = in_form (Head Pairs) (numbers_within (limits n (Head Pairs)) fs)
head_reading n form.Added fs = in_form (Head Added) (numbers_within (limits n (Head Added)) fs)
head_reading n form.Removed fs = in_form (Head Pairs) (numbers_within (limits n (Head Pairs)) fs)
head_reading n form.Replaced fs = in_form (Head Added) (numbers_within (limits n (Head Added)) fs)
head_reading n form.Listed fs = in_form (Head Pairs) (numbers_within (limits n (Head Pairs)) fs)

-- what a section line says. One that has no head is unknown
abbrev pub section_reading : ℕ → Option (SectionHead × List (List ℕ)) → Reading
section_reading n None = Err Unknown
section_reading n (Some head) = head_reading n head.0.form head.1

-- what a line says after a graph of n vertices. One that is no section line says what it says in a job
unfoldable pub reading_after : ℕ → List ℕ → Reading
reading_after n line =
    if begins_section line
    then section_reading n (head_in (after_front line))
    else fields_reading n (fields (without_cr line))

-- ---- how it asks

abbrev pub first_number : Result (List ℕ) LineKind → Option ℕ
first_number (Ok vs) = Some (slice_index vs 0)
first_number (Err kind) = None

-- the bound of a section within one
abbrev pub bound_of : HeadForm → List (List ℕ) → Option ℕ
bound_of form.Within fs = first_number (numbers_within within_limits fs)
bound_of form.Sources fs = None
bound_of form.Pairs fs = None
bound_of form.Walk fs = None
bound_of form.Added fs = None
bound_of form.Removed fs = None
bound_of form.Replaced fs = None
bound_of form.Listed fs = None

abbrev pub with_bound : Option (SectionHead × List (List ℕ)) → Option SectionHead
with_bound None = None
with_bound (Some head) = Some (record head.0 { bound = bound_of head.0.form head.1 })

-- the head that a line is
unfoldable pub head_of : List ℕ → Option SectionHead
head_of line = if begins_section line then with_bound (head_in (after_front line)) else None

-- the first of those that lines are
abbrev pub head_among : List (List ℕ) → Option SectionHead
head_among [] = None
head_among (l ∷ ls) = option_or (head_of l) (head_among ls)

-- the head of a request, which has one
abbrev pub head_or_plain : Option SectionHead → SectionHead
head_or_plain None = record { kind = None; lines = None; form = form.Sources; bound = None }
head_or_plain (Some head) = head

-- it has no words and no bound
abbrev pub IsPlain : SectionHead → Type 0
IsPlain head = (head.kind ≡ None) × (head.lines ≡ None) × (head.bound ≡ None)

-- a bound is a cost
abbrev pub IsHeadWithin : SectionHead → Type 0
IsHeadWithin head = IfSome head.bound (λ bound. bound < INF)

-- ---- lines

-- What lines say that follow a graph of n vertices. How many arcs it has matters to none of them: they are read
-- as after the problem line of a graph without arcs.
abbrev pub after_graph : ℕ → List (List ℕ) → List Reading
after_graph n ls = Ok (Some (problem_record n 0)) ∷ map (λ l. reading_after n l) ls

-- each says nothing or a record, and the records are those of the job
abbrev pub IsJobAmong : List Reading → Content → Type 0
IsJobAmong rs job =
    (said : List (Option Record))
    × (rs ≡ map (λ s. Ok s) said)
    × (records_among said ≡ records_of job)

abbrev pub has_question : Question → Bool
has_question absent = false
has_question (from_sources sources) = true
has_question (of_pairs pairs) = true

-- a job has a section after its graph
abbrev pub asks : Question → Option (List ArcRec) → Bool
asks question None = has_question question
asks question (Some arcs) = true

-- the lines are a whole request: a job whose graph has no arcs, and which has a section after it
pub record IsWhole (n : ℕ) (ls : List (List ℕ)) (job : Content) : Type 0 where
  pub is_job : IsJobAmong (after_graph n ls) job
  pub asked : asks job.question job.added ≡ true

-- a job's graph by itself, and what it asks by itself
abbrev pub graph_of : Content → Content
graph_of job = record { n = job.n; arcs = job.arcs; question = absent; added = None }

abbrev pub asked_of : Content → Content
asked_of job = record { n = job.n; arcs = []; question = job.question; added = None }

-- each of the lines says nothing
abbrev pub AreSilent : ℕ → List (List ℕ) → Type 0
AreSilent n ls = AllByRecursion (λ l. reading_after n l ≡ Ok None) ls

-- the line after these is the first that is wrong, whatever comes after it; it has this number
abbrev pub IsFaultAfter : ℕ → List (List ℕ) → List ℕ → ℕ → TextFault → Type 0
IsFaultAfter n ls line number Memory = Unit {0}
IsFaultAfter n ls line number (Line at kind) =
    (at ≡ number)
    × ((more : List (List ℕ)) → IsFirstAmong (after_graph n (ls ++ line ∷ more)) (length ls + 2) kind)
