-- How a request changes the graph: arcs between some pairs of vertices are removed, and then arcs are added.
use Rattle.std.specs.Prelude.{ℕ, ◌-◌, List, [], ◌++◌, length, map, option_map, Option, Some, None}
use Rattle.route_walks.specs.declared.graph.ArcRec.{ArcRec}
use Rattle.answer_lines.specs.Lines.{grown_text, removed_text}
use Rattle.dimacs_text.specs.declared.head.HeadForm.{HeadForm}
use Rattle.dimacs_text.specs.declared.head.HeadForm.TheVariants as form
use Rattle.dimacs_text.specs.Jobs.{Content, Question, absent, added_of, from_sources, of_pairs}
use Rattle.csr_graph.specs.Changes.{without}
use Rattle.session_answer.specs.declared.change.Change.{Change}

-- the pairs between which arcs are removed, if some are, and the arcs that are then added, if some are
pub record ChangeSeen : Type 0 where
  pub removed : Option (List (ℕ × ℕ))
  pub added : Option (List ArcRec)

-- the arcs without those that are removed
abbrev pub arcs_left : Option (List (ℕ × ℕ)) → List ArcRec → List ArcRec
arcs_left None arcs = arcs
arcs_left (Some pairs) arcs = without pairs arcs

-- the arcs of a graph, and those that are added
abbrev pub with_added : List ArcRec → Option (List ArcRec) → List ArcRec
with_added arcs None = arcs
with_added arcs (Some more) = arcs ++ more

-- the graph after a change
abbrev pub changed_by : Content → ChangeSeen → Content
changed_by graph change = record graph { arcs = with_added (arcs_left change.removed graph.arcs) change.added }

-- 'x K', if arcs are removed
abbrev pub removed_line : Option (List (ℕ × ℕ)) → List ArcRec → List ℕ
removed_line None arcs = []
removed_line (Some pairs) arcs = removed_text (length arcs - length (without pairs arcs))

-- 'g K', if arcs are added
abbrev pub added_line : Option (List ArcRec) → List ℕ
added_line None = []
added_line (Some arcs) = grown_text (length arcs)

-- the lines that say how a change changes these arcs
abbrev pub change_text : ChangeSeen → List ArcRec → List ℕ
change_text change arcs = removed_line change.removed arcs ++ added_line change.added

-- the pairs of a question
abbrev pub pairs_of : Question → List (ℕ × ℕ)
pairs_of absent = []
pairs_of (from_sources sources) = []
pairs_of (of_pairs pairs) = pairs

-- the ends of each arc
abbrev pub ends_of : Option (List ArcRec) → List (ℕ × ℕ)
ends_of None = []
ends_of (Some arcs) = map (λ arc. (arc.tail, arc.head)) arcs

-- the change that a request asks for: it adds its arcs, or first removes those between its pairs or its arcs' ends
abbrev pub change_by : HeadForm → Content → ChangeSeen
change_by form.Sources job = record { removed = None; added = job.added }
change_by form.Within job = record { removed = None; added = job.added }
change_by form.Pairs job = record { removed = None; added = job.added }
change_by form.Walk job = record { removed = None; added = job.added }
change_by form.Added job = record { removed = None; added = job.added }
change_by form.Removed job = record { removed = Some (pairs_of job.question); added = job.added }
change_by form.Replaced job = record { removed = Some (ends_of job.added); added = job.added }
change_by form.Listed job = record { removed = None; added = None }

-- what a request asks for. The pairs between which it removes or lists arcs are no question
abbrev pub question_by : HeadForm → Question → Question
question_by form.Sources question = question
question_by form.Within question = question
question_by form.Pairs question = question
question_by form.Walk question = question
question_by form.Added question = question
question_by form.Removed question = absent
question_by form.Replaced question = question
question_by form.Listed question = absent

-- a change in memory
abbrev pub change_seen : Change → ChangeSeen
change_seen change =
    record {
      removed = option_map (λ pairs. pairs.items) change.removed;
      added = added_of change.added;
    }
