-- The walks that the lines of a block have.
use Rattle.std.specs.Prelude.{◌≡◌, ℕ, ◌<◌, ◌≤◌, ◌↔◌, Bool, true, false, List, Option, Some, None, length, slice_index, ⊤}
use Rattle.walk_report.specs.Hop.{AreHopsBelow}
use Rattle.walk_report.specs.Parent.{AreParents, LeadBack}
use Rattle.walk_report.specs.declared.hop.TheConstants.{NONE}
use Rattle.route_walks.specs.declared.graph.ArcRec.{ArcRec}
use Rattle.route_walks.specs.declared.graph.TheConstants.{INF, MAX_VERTICES}
use Rattle.answer_lines.specs.Lines.{label_text}
use Rattle.job_answer.specs.declared.question.asked.Lines.{Lines}
use Rattle.job_answer.specs.declared.question.asked.Lines.TheVariants as lines
use Rattle.job_answer.specs.declared.output.line_walks.LineWalks.{LineWalks}
use Rattle.job_answer.specs.AnswerText.{vertex_text}

-- the text of a vertex, with its walk where there are walks
abbrev pub text_by : Option LineWalks → ℕ → ℕ → List ℕ
text_by None v label = label_text v label
text_by (Some walks) v label = vertex_text (slice_index walks.hops.items) (slice_index walks.parents.items) v label

-- parents lead back, and v has a hop unless its label is INF
pub record HasWalkAt (v label : ℕ) (walks : LineWalks) : Type 0 where
  pub vertex : v < length walks.hops.items
  pub vertices : length walks.hops.items ≤ MAX_VERTICES
  pub back : LeadBack walks.hops.items walks.parents.items
  pub reached : (label ≡ INF) ↔ (slice_index walks.hops.items v ≡ NONE)

-- so it is of each label that is within the bound
abbrev pub AreReachedWithin : ℕ → List ℕ → LineWalks → Type 0
AreReachedWithin bound labels walks =
    (v : ℕ) → v < length labels → slice_index labels v ≤ bound → HasWalkAt v (slice_index labels v) walks

-- whether lines have walks
abbrev pub has_walks : Lines → Bool
has_walks (lines.Each walks) = walks
has_walks (lines.Within walks bound) = walks
has_walks (lines.Raw pairs) = false
has_walks lines.Totals = false

-- the bound, if there is one
abbrev pub bound_in : Lines → Option ℕ
bound_in (lines.Each walks) = None
bound_in (lines.Within walks bound) = Some bound
bound_in (lines.Raw pairs) = None
bound_in lines.Totals = None

-- the greatest label whose vertex has a line
abbrev pub bound_of : Lines → ℕ
bound_of (lines.Each walks) = INF
bound_of (lines.Within walks bound) = bound
bound_of (lines.Raw pairs) = INF
bound_of lines.Totals = INF

-- whether the labels from a source stand as bytes
abbrev pub is_raw : Lines → Bool
is_raw (lines.Each walks) = false
is_raw (lines.Within walks bound) = false
is_raw (lines.Raw pairs) = true
is_raw lines.Totals = false

-- whether the costs of pairs stand as bytes
abbrev pub has_raw_pairs : Lines → Bool
has_raw_pairs (lines.Each walks) = false
has_raw_pairs (lines.Within walks bound) = false
has_raw_pairs (lines.Raw pairs) = pairs
has_raw_pairs lines.Totals = false

-- whether a line says what they come to
abbrev pub is_totals : Lines → Bool
is_totals (lines.Each walks) = false
is_totals (lines.Within walks bound) = false
is_totals (lines.Raw pairs) = false
is_totals lines.Totals = true

-- the block of a source has lines of vertices
abbrev pub HasVertexLines : Lines → Type 0
HasVertexLines (lines.Each walks) = ⊤
HasVertexLines (lines.Within walks bound) = ⊤
HasVertexLines (lines.Raw pairs) = ⊥
HasVertexLines lines.Totals = ⊥

-- hops and parents of the labels below a limit, as `hops_below` and `parents` give them
pub record AreWalksBelow (n : ℕ) (arcs : List ArcRec) (source limit : ℕ) (labels : List ℕ) (walks : LineWalks)
    : Type 0 where
  pub hops : AreHopsBelow limit n arcs source labels walks.hops.items
  pub parents : AreParents n arcs labels walks.hops.items walks.parents.items
  pub back : LeadBack walks.hops.items walks.parents.items

-- there are such walks where lines have walks, and only there
abbrev pub AreWalksFor : Bool → ℕ → List ArcRec → ℕ → ℕ → List ℕ → Option LineWalks → Type 0
AreWalksFor true n arcs source limit labels (Some walks) = AreWalksBelow n arcs source limit labels walks
AreWalksFor true n arcs source limit labels None = ⊥
AreWalksFor false n arcs source limit labels (Some walks) = ⊥
AreWalksFor false n arcs source limit labels None = ⊤
