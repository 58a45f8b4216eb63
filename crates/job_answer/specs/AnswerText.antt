-- The text that answers a job, by least labels alone: no worker, worklist or order of visits is in it.
use Rattle.std.specs.Prelude.{◌≡◌, ℕ, ◌+◌, ◌==◌, Bool, true, false, if◌then◌else◌}
use Rattle.std.specs.Prelude.{List, [], ◌∷◌, ◌++◌, length, slice_index, Option, Some, None, option_map}
use Rattle.route_walks.specs.declared.graph.ArcRec.{ArcRec}
use Rattle.route_walks.specs.declared.graph.TheConstants.{INF}
use Rattle.route_walks.specs.Label.{AreLeastLabels}
use Rattle.route_walks.specs.Operators.{seeds_from, seeds_all, unit_weights, both_ways}
use Rattle.dimacs_text.specs.Jobs.{Content, Question, absent, from_sources, of_pairs}
use Rattle.answer_lines.specs.Lines.{source_text, label_text, pair_text, walk_text}
use Rattle.answer_lines.specs.Lines.{distances_text, components_text, grown_text}
use Rattle.answer_lines.specs.Raw.{raw_label}
use Rattle.walk_report.specs.Hop.{AreHops}
use Rattle.walk_report.specs.Parent.{AreParents}
use Rattle.walk_report.specs.Printed.{printed_walk}
use Rattle.job_answer.specs.declared.question.asked.Answer.{Answer}
use Rattle.job_answer.specs.declared.question.asked.Answer.TheVariants as answer

-- the arcs along which the labels of an answer are least
abbrev pub arcs_for : Answer → List ArcRec → List ArcRec
arcs_for answer.Distances arcs = arcs
arcs_for answer.Levels arcs = unit_weights arcs
arcs_for answer.Components arcs = both_ways arcs

-- the line of the printed walk to a vertex, if a walk leads there
abbrev pub walk_line : (ℕ → ℕ) → (ℕ → ℕ) → ℕ → ℕ → List ℕ
walk_line hop parent v label = if label == INF then [] else walk_text label (printed_walk parent (hop v) v)

-- the line of a vertex, and that of its walk
abbrev pub vertex_text : (ℕ → ℕ) → (ℕ → ℕ) → ℕ → ℕ → List ℕ
vertex_text hop parent v label = label_text v label ++ walk_line hop parent v label

-- such lines of the labels, the first of which is that of the vertex v
abbrev pub vertex_lines : (ℕ → ℕ) → (ℕ → ℕ) → ℕ → List ℕ → List ℕ
vertex_lines hop parent v [] = []
vertex_lines hop parent v (label ∷ labels) =
    vertex_text hop parent v label ++ vertex_lines hop parent (v + 1) labels

-- the labels from a source, with their walks
abbrev pub walks_text : ℕ → (ℕ → ℕ) → (ℕ → ℕ) → List ℕ → List ℕ
walks_text source hop parent labels = source_text source ++ vertex_lines hop parent 0 labels

-- the least labels from a source, and by which walks
pub record AreWalksFrom (n : ℕ) (arcs : List ArcRec) (source : ℕ) (labels hops parents : List ℕ) : Type 0 where
  pub least : AreLeastLabels n arcs (seeds_from source) labels
  pub fewest : AreHops n arcs source labels hops
  pub before : AreParents n arcs labels hops parents

-- the lines of one source with walks
pub record IsWalksBlock (n : ℕ) (arcs : List ArcRec) (source : ℕ) (text : List ℕ) : Type 0 where
  pub labels : List ℕ
  pub hops : List ℕ
  pub parents : List ℕ
  pub walked : AreWalksFrom n arcs source labels hops parents
  pub written : text ≡ walks_text source (slice_index hops) (slice_index parents) labels

-- the lines of one source: the least labels from it
pub record IsSourceBlock (n : ℕ) (arcs : List ArcRec) (source : ℕ) (text : List ℕ) : Type 0 where
  pub labels : List ℕ
  pub least : AreLeastLabels n arcs (seeds_from source) labels
  pub written : text ≡ distances_text source labels

-- the lines of one source, with walks or without
abbrev pub IsBlock : Bool → ℕ → List ArcRec → ℕ → List ℕ → Type 0
IsBlock true n arcs source text = IsWalksBlock n arcs source text
IsBlock false n arcs source text = IsSourceBlock n arcs source text

-- the label of a pair as bytes, or its line
abbrev pub pair_label_text : Bool → ℕ × ℕ → ℕ → List ℕ
pair_label_text true pair label = raw_label label
pair_label_text false pair label = pair_text pair.0 pair.1 label

-- the bytes or the line of a pair: the least label of its target from its source
pub record IsPairLabel (raw : Bool) (n : ℕ) (arcs : List ArcRec) (pair : ℕ × ℕ) (text : List ℕ) : Type 0 where
  pub labels : List ℕ
  pub least : AreLeastLabels n arcs (seeds_from pair.0) labels
  pub written : text ≡ pair_label_text raw pair (slice_index labels pair.1)

-- the line of a pair, and that of its walk
abbrev pub pair_walk_text : ℕ × ℕ → List ℕ → (ℕ → ℕ) → (ℕ → ℕ) → List ℕ
pair_walk_text pair labels hop parent =
    pair_text pair.0 pair.1 (slice_index labels pair.1) ++ walk_line hop parent pair.1 (slice_index labels pair.1)

pub record IsWalkedPair (n : ℕ) (arcs : List ArcRec) (pair : ℕ × ℕ) (text : List ℕ) : Type 0 where
  pub labels : List ℕ
  pub hops : List ℕ
  pub parents : List ℕ
  pub walked : AreWalksFrom n arcs pair.0 labels hops parents
  pub written : text ≡ pair_walk_text pair labels (slice_index hops) (slice_index parents)

-- the lines of one pair, with its walk or without
abbrev pub IsPairBlock : Bool → ℕ → List ArcRec → ℕ × ℕ → List ℕ → Type 0
IsPairBlock true n arcs pair text = IsWalkedPair n arcs pair text
IsPairBlock false n arcs pair text = IsPairLabel false n arcs pair text

-- a block for each query, in order, by a relation of a query and its block
abbrev pub AreBlocks : {Query : Type 0} → (Query → List ℕ → Type 0) → List Query → List ℕ → Type 0
AreBlocks IsBlockOf [] text = text ≡ []
AreBlocks IsBlockOf (query ∷ queries) text =
    (block : List ℕ)
    × (rest : List ℕ)
    × IsBlockOf query block
    × AreBlocks IsBlockOf queries rest
    × (text ≡ block ++ rest)

-- a job's graph after its added arcs: how many, and all arcs
pub record Growth : Type 0 where
  pub count : ℕ
  pub arcs : List ArcRec

-- the text of the arcs before, the line of how many are added, and the text of all arcs
pub record AreBothTexts (IsTextOf : List ArcRec → List ℕ → Type 0) (arcs : List ArcRec) (growth : Growth)
    (text : List ℕ) : Type 0 where
  pub before : List ℕ
  pub after : List ℕ
  pub first : IsTextOf arcs before
  pub second : IsTextOf growth.arcs after
  pub written : text ≡ before ++ grown_text growth.count ++ after

-- the text of a graph's arcs; if the graph grows, both
abbrev pub IsGrownText : (List ArcRec → List ℕ → Type 0) → List ArcRec → Option Growth → List ℕ → Type 0
IsGrownText IsTextOf arcs None text = IsTextOf arcs text
IsGrownText IsTextOf arcs (Some growth) text = AreBothTexts IsTextOf arcs growth text

-- the lines of a source, in the graph and after it grows
abbrev pub IsGrownBlock : Bool → ℕ → List ArcRec → Option Growth → ℕ → List ℕ → Type 0
IsGrownBlock walks n arcs growth source text = IsGrownText (λ along. IsBlock walks n along source) arcs growth text

-- the lines of a pair, in the graph and after it grows
abbrev pub IsGrownPair : Bool → ℕ → List ArcRec → Option Growth → ℕ × ℕ → List ℕ → Type 0
IsGrownPair walks n arcs growth pair text = IsGrownText (λ along. IsPairBlock walks n along pair) arcs growth text

-- the blocks of the sources, in their order
abbrev pub AreSourceBlocks : Bool → ℕ → List ArcRec → Option Growth → List ℕ → List ℕ → Type 0
AreSourceBlocks walks n arcs growth sources text = AreBlocks (IsGrownBlock walks n arcs growth) sources text

-- the blocks of the pairs, in their order
abbrev pub ArePairBlocks : Bool → ℕ → List ArcRec → Option Growth → List (ℕ × ℕ) → List ℕ → Type 0
ArePairBlocks walks n arcs growth pairs text = AreBlocks (IsGrownPair walks n arcs growth) pairs text

-- the answer to what is asked; none without a section of queries
abbrev pub AreAskedBlocks : Bool → ℕ → List ArcRec → Option Growth → Question → List ℕ → Type 0
AreAskedBlocks walks n arcs growth absent text = ⊥
AreAskedBlocks walks n arcs growth (from_sources sources) text = AreSourceBlocks walks n arcs growth sources text
AreAskedBlocks walks n arcs growth (of_pairs pairs) text = ArePairBlocks walks n arcs growth pairs text

-- the lines of the components: the least labels from all vertices, along arcs both ways and free
pub record IsComponentsBlock (n : ℕ) (arcs : List ArcRec) (text : List ℕ) : Type 0 where
  pub labels : List ℕ
  pub least : AreLeastLabels n arcs (seeds_all n) labels
  pub written : text ≡ components_text labels

-- how a graph grows by the added arcs, in the arcs that are made of a list
abbrev pub growth_from : (List ArcRec → List ArcRec) → List ArcRec → Option (List ArcRec) → Option Growth
growth_from along arcs added =
    option_map (λ more. record { count = length more; arcs = along (arcs ++ more) }) added

-- how a job's graph grows, in the arcs of an answer
abbrev pub growth_for : Answer → Content → Option Growth
growth_for kind job = growth_from (arcs_for kind) job.arcs job.added

-- the text of an answer kind: distances and levels answer what is asked, and components ask nothing
abbrev pub IsTextFor : Answer → Bool → ℕ → List ArcRec → Option Growth → Question → List ℕ → Type 0
IsTextFor answer.Distances walks n arcs growth question text = AreAskedBlocks walks n arcs growth question text
IsTextFor answer.Levels walks n arcs growth question text = AreAskedBlocks walks n arcs growth question text
IsTextFor answer.Components walks n arcs growth question text = IsGrownText (IsComponentsBlock n) arcs growth text

-- the text answers the job: distances along its arcs, hop levels along the same arcs of weight 1, with walks or
-- without, or components along its arcs both ways and free; after each block, if the job adds arcs, how many, and the
-- same block with them
abbrev pub IsAnswerText : Answer → Bool → Content → List ℕ → Type 0
IsAnswerText kind walks job text =
    IsTextFor kind walks job.n (arcs_for kind job.arcs) (growth_for kind job) job.question text

-- there are no two texts of a kind
abbrev pub IsOneText : (List ℕ → Type 0) → Type 0
IsOneText IsText =
    (first second : List ℕ)
    → IsText first
    → IsText second
    → first ≡ second

-- no query has two blocks
abbrev pub IsOneBlock : {Query : Type 0} → (Query → List ℕ → Type 0) → Type 0
IsOneBlock {Query} IsBlockOf = (query : Query) → IsOneText (IsBlockOf query)

-- a source has only one block of a kind, and so have a pair and components
abbrev pub BlocksAreUnique : Type 0
BlocksAreUnique =
    (walks : Bool) (n : ℕ) (arcs : List ArcRec) (growth : Option Growth)
    → IsOneBlock (IsGrownBlock walks n arcs growth)
    × IsOneBlock (IsGrownPair walks n arcs growth)
    × IsOneText (IsGrownText (IsComponentsBlock n) arcs growth)

-- a job has only one answer text of a kind
abbrev pub AnswerTextsAreUnique : Type 0
AnswerTextsAreUnique =
    (kind : Answer) (walks : Bool) (job : Content)
    → IsOneText (IsAnswerText kind walks job)
