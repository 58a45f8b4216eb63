-- The terms of a request: the kind of labels and the lines of its answer, by its head and by the session.
use Rattle.std.specs.Prelude.{ℕ, false, true, Option, Some, None}
use Rattle.dimacs_text.specs.declared.head.HeadForm.{HeadForm}
use Rattle.dimacs_text.specs.declared.head.HeadForm.TheVariants as form
use Rattle.dimacs_text.specs.declared.head.HeadKind.{HeadKind}
use Rattle.dimacs_text.specs.declared.head.HeadKind.TheVariants as kind_word
use Rattle.dimacs_text.specs.declared.head.HeadLines.{HeadLines}
use Rattle.dimacs_text.specs.declared.head.HeadLines.TheVariants as word
use Rattle.dimacs_text.specs.declared.head.SectionHead.{SectionHead}
use Rattle.dimacs_text.specs.Jobs.{Question, absent, from_sources, of_pairs}
use Rattle.job_answer.specs.declared.question.asked.Answer.{Answer}
use Rattle.job_answer.specs.declared.question.asked.Answer.TheVariants as answer
use Rattle.job_answer.specs.declared.question.asked.Asked.{Asked}
use Rattle.job_answer.specs.declared.question.asked.Lines.{Lines}
use Rattle.job_answer.specs.declared.question.asked.Lines.TheVariants as by
use Rattle.job_answer.specs.LineWalks.{has_walks}

-- the kind of labels, and the lines of the block of a source
pub record Terms : Type 0 where
  pub kind : Answer
  pub lines : Lines

-- those of a session
abbrev pub terms_of : Asked → Terms
terms_of asked = record { kind = asked.answer; lines = asked.lines }

-- the kind that a head names, or that of the session
abbrev pub kind_by : Option HeadKind → Answer → Answer
kind_by None kind = kind
kind_by (Some kind_word.Distances) kind = answer.Distances
kind_by (Some kind_word.Levels) kind = answer.Levels
kind_by (Some kind_word.Components) kind = answer.Components

-- the word for lines of a head. A section of walks needs none
abbrev pub word_for : HeadForm → Option HeadLines → Option HeadLines
word_for form.Sources lines = lines
word_for form.Within lines = lines
word_for form.Pairs lines = lines
word_for form.Walk lines = Some word.Walks
word_for form.Added lines = lines
word_for form.Removed lines = lines
word_for form.Replaced lines = lines
word_for form.Listed lines = lines

-- The lines that a word names, within the bound of the head if it has one. Without a word they are those of the session,
-- whose own bound gives way to that of the head.
abbrev pub lines_by : Option HeadLines → Option ℕ → Lines → Lines
lines_by None None lines = lines
lines_by None (Some bound) lines = by.Within (has_walks lines) bound
lines_by (Some word.Each) None lines = by.Each false
lines_by (Some word.Each) (Some bound) lines = by.Within false bound
lines_by (Some word.Walks) None lines = by.Each true
lines_by (Some word.Walks) (Some bound) lines = by.Within true bound
lines_by (Some word.Raw) bound lines = by.Raw true
lines_by (Some word.Totals) bound lines = by.Totals

-- components have one block, whatever lines are asked for
abbrev pub lines_of_kind : Answer → Lines → Lines
lines_of_kind answer.Distances lines = lines
lines_of_kind answer.Levels lines = lines
lines_of_kind answer.Components lines = by.Each false

-- those of a request
abbrev pub terms_by : SectionHead → Terms → Terms
terms_by head terms =
    record {
      kind = kind_by head.kind terms.kind;
      lines =
          lines_of_kind (kind_by head.kind terms.kind)
          (lines_by (word_for head.form head.lines) head.bound terms.lines);
    }

-- the lines of pairs: each has its line, and its walk if they have walks. By the word for them each has its label as bytes
abbrev pub lines_for_pairs : Lines → Lines
lines_for_pairs (by.Each walks) = by.Each walks
lines_for_pairs (by.Within walks bound) = by.Each walks
lines_for_pairs (by.Raw false) = by.Each false
lines_for_pairs (by.Raw true) = by.Raw true
lines_for_pairs by.Totals = by.Each false

-- The lines of an answer: those that are asked for where sources are, and those of pairs where pairs are.
abbrev pub lines_for : Lines → Question → Lines
lines_for lines absent = by.Each false
lines_for lines (from_sources sources) = lines
lines_for lines (of_pairs pairs) = lines_for_pairs lines
