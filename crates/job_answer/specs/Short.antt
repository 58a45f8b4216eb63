-- The block of a source in short: the labels from it as bytes, or what they come to.
use Rattle.std.specs.Prelude.{◌≡◌, ℕ, true, false, List, slice_index}
use Rattle.route_walks.specs.declared.graph.ArcRec.{ArcRec}
use Rattle.route_walks.specs.Label.{AreLeastLabels}
use Rattle.route_walks.specs.Operators.{seeds_from}
use Rattle.answer_lines.specs.Lines.{distances_text, pair_text}
use Rattle.answer_lines.specs.Raw.{raw_label, raw_text}
use Rattle.answer_lines.specs.Totals.{totals_text}
use Rattle.job_answer.specs.AnswerText.{IsPairLabel, IsSourceBlock}

-- the line of one source, and the least labels from it as bytes
pub record IsRawBlock (n : ℕ) (arcs : List ArcRec) (source : ℕ) (text : List ℕ) : Type 0 where
  pub labels : List ℕ
  pub least : AreLeastLabels n arcs (seeds_from source) labels
  pub written : text ≡ raw_text source labels

-- the line of what the least labels from one source come to
pub record IsTotalsBlock (n : ℕ) (arcs : List ArcRec) (source : ℕ) (text : List ℕ) : Type 0 where
  pub labels : List ℕ
  pub least : AreLeastLabels n arcs (seeds_from source) labels
  pub written : text ≡ totals_text source labels

-- ---- what they say

-- a source's block of bytes has the least labels of its block of lines
abbrev pub RawLabelsSayTheSame : Type 0
RawLabelsSayTheSame =
    (n : ℕ) (arcs : List ArcRec) (source : ℕ) (raw text : List ℕ)
    → IsRawBlock n arcs source raw
    → IsSourceBlock n arcs source text
    → (labels : List ℕ)
    × AreLeastLabels n arcs (seeds_from source) labels
    × (raw ≡ raw_text source labels)
    × (text ≡ distances_text source labels)

-- the bytes of a pair are the label that its line says
abbrev pub RawPairsSayTheSame : Type 0
RawPairsSayTheSame =
    (n : ℕ) (arcs : List ArcRec) (pair : ℕ × ℕ) (raw text : List ℕ)
    → IsPairLabel true n arcs pair raw
    → IsPairLabel false n arcs pair text
    → (labels : List ℕ)
    × AreLeastLabels n arcs (seeds_from pair.0) labels
    × (raw ≡ raw_label (slice_index labels pair.1))
    × (text ≡ pair_text pair.0 pair.1 (slice_index labels pair.1))

-- a source's line of totals says what the labels of its block of lines come to
abbrev pub TotalsAddUp : Type 0
TotalsAddUp =
    (n : ℕ) (arcs : List ArcRec) (source : ℕ) (line text : List ℕ)
    → IsTotalsBlock n arcs source line
    → IsSourceBlock n arcs source text
    → (labels : List ℕ)
    × AreLeastLabels n arcs (seeds_from source) labels
    × (line ≡ totals_text source labels)
    × (text ≡ distances_text source labels)
