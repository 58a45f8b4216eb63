-- Blocks in short have the least labels of the blocks of lines.
use Rattle.std.proofs.Common.{ap, ◌∙◌, ℕ, List, slice_index}
use Rattle.route_walks.specs.Label.{LeastLabelsAreUnique}
use Rattle.route_walks.specs.Operators.{seeds_from}
use Rattle.answer_lines.specs.Raw.{raw_label, raw_text}
use Rattle.answer_lines.specs.Totals.{totals_text}
use Rattle.job_answer.specs.Short.{RawLabelsSayTheSame, RawPairsSayTheSame, TotalsAddUp}
use Rattle.job_answer.proofs.Uniqueness.{labels-same}

pub raw_labels_say_the_same : LeastLabelsAreUnique → RawLabelsSayTheSame
raw_labels_say_the_same law n arcs source raw text one two = (
  two.labels,
  two.least,
  one.written
      ∙ ap (raw_text source) (labels-same law n arcs (seeds_from source) one.labels two.labels one.least two.least),
  two.written,
)

pub raw_pairs_say_the_same : LeastLabelsAreUnique → RawPairsSayTheSame
raw_pairs_say_the_same law n arcs pair raw text one two = (
  two.labels,
  two.least,
  one.written
      ∙ ap (λ (labels : List ℕ). raw_label (slice_index labels pair.1))
      (labels-same law n arcs (seeds_from pair.0) one.labels two.labels one.least two.least),
  two.written,
)

pub totals_add_up : LeastLabelsAreUnique → TotalsAddUp
totals_add_up law n arcs source line text one two = (
  two.labels,
  two.least,
  one.written
      ∙ ap (totals_text source) (labels-same law n arcs (seeds_from source) one.labels two.labels one.least two.least),
  two.written,
)
