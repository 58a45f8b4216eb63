-- Answers by lines: of each source the vertices within a bound, or its block in short.
use Rattle.std.specs.Prelude.{◌≡◌, ◌≢◌, ℕ, zero, suc, ◌+◌, ◌<◌, ◌≤◌, Bool, true, false, List, [], ◌∷◌, ◌++◌}
use Rattle.std.specs.Prelude.{Option}
use Rattle.std.specs.Prelude.{if◌then◌else◌, nat_le, slice_index, ⊤}
use Rattle.route_walks.specs.declared.graph.ArcRec.{ArcRec}
use Rattle.route_walks.specs.declared.graph.TheConstants.{INF}
use Rattle.route_walks.specs.Label.{AreLeastLabels}
use Rattle.route_walks.specs.Operators.{seeds_from}
use Rattle.route_walks.specs.Walk.{IsWalk, cost}
use Rattle.answer_lines.specs.Lines.{cost_line, label_text, source_text}
use Rattle.dimacs_text.specs.Jobs.{Content, Question, absent, from_sources, of_pairs, IsWithinLimits}
use Rattle.job_answer.specs.declared.question.asked.Answer.{Answer}
use Rattle.job_answer.specs.declared.question.asked.Answer.TheVariants.{Distances, Levels, Components}
use Rattle.job_answer.specs.declared.question.asked.Lines.{Lines}
use Rattle.job_answer.specs.declared.question.asked.Lines.TheVariants as lines
use Rattle.job_answer.specs.AnswerText.{AreBlocks, AreWalksFrom, Growth, IsBlock, IsComponentsBlock, IsGrownText}
use Rattle.job_answer.specs.AnswerText.{IsOneBlock, IsOneText, IsPairBlock, IsPairLabel, IsTextFor, arcs_for, growth_for}
use Rattle.job_answer.specs.AnswerText.{vertex_text}
use Rattle.job_answer.specs.Costs.{IsCostText, IsWalkLine}
use Rattle.job_answer.specs.Short.{IsRawBlock, IsTotalsBlock}

-- ---- the text

-- the text of a vertex, if its label is within the bound
abbrev pub line_within : ℕ → (ℕ → ℕ → List ℕ) → ℕ → ℕ → List ℕ
line_within bound text v label = if nat_le label bound then text v label else []

-- those of the labels, the first of which is that of the vertex v
abbrev pub lines_within : ℕ → (ℕ → ℕ → List ℕ) → ℕ → List ℕ → List ℕ
lines_within bound text v [] = []
lines_within bound text v (label ∷ labels) = line_within bound text v label ++ lines_within bound text (v + 1) labels

-- the line of a source and those of the labels from it that are within the bound
abbrev pub text_within : ℕ → ℕ → (ℕ → ℕ → List ℕ) → List ℕ → List ℕ
text_within source bound text labels = source_text source ++ lines_within bound text 0 labels

-- the texts of these vertices, each with its label
abbrev pub listed_text : (ℕ → ℕ → List ℕ) → List (ℕ × ℕ) → List ℕ
listed_text text [] = []
listed_text text (entry ∷ found) = text entry.0 entry.1 ++ listed_text text found

-- the lines of one source: the least labels from it that are within the bound
pub record IsBlockWithin (bound n : ℕ) (arcs : List ArcRec) (source : ℕ) (text : List ℕ) : Type 0 where
  pub labels : List ℕ
  pub least : AreLeastLabels n arcs (seeds_from source) labels
  pub written : text ≡ text_within source bound label_text labels

-- the same with their walks
pub record IsWalksWithin (bound n : ℕ) (arcs : List ArcRec) (source : ℕ) (text : List ℕ) : Type 0 where
  pub labels : List ℕ
  pub hops : List ℕ
  pub parents : List ℕ
  pub walked : AreWalksFrom n arcs source labels hops parents
  pub written : text ≡ text_within source bound (vertex_text (slice_index hops) (slice_index parents)) labels

-- the block of a source: the lines of each vertex or within a bound, with walks or without, or in short
abbrev pub IsLinesBlock : Lines → ℕ → List ArcRec → ℕ → List ℕ → Type 0
IsLinesBlock (lines.Each walks) n arcs source text = IsBlock walks n arcs source text
IsLinesBlock (lines.Within true bound) n arcs source text = IsWalksWithin bound n arcs source text
IsLinesBlock (lines.Within false bound) n arcs source text = IsBlockWithin bound n arcs source text
IsLinesBlock (lines.Raw pairs) n arcs source text = IsRawBlock n arcs source text
IsLinesBlock lines.Totals n arcs source text = IsTotalsBlock n arcs source text

-- the same in the graph and after it grows
abbrev pub IsGrownLines : Lines → ℕ → List ArcRec → Option Growth → ℕ → List ℕ → Type 0
IsGrownLines lines n arcs growth source text = IsGrownText (λ along. IsLinesBlock lines n along source) arcs growth text

-- the blocks of the sources, in their order
abbrev pub AreLinesBlocks : Lines → ℕ → List ArcRec → Option Growth → List ℕ → List ℕ → Type 0
AreLinesBlocks lines n arcs growth sources text = AreBlocks (IsGrownLines lines n arcs growth) sources text

-- the text of a pair: its line, with its walk if the lines have walks, or its label as bytes
abbrev pub IsLinesPair : Lines → ℕ → List ArcRec → ℕ × ℕ → List ℕ → Type 0
IsLinesPair (lines.Each walks) n arcs pair text = IsPairBlock walks n arcs pair text
IsLinesPair (lines.Within walks bound) n arcs pair text = IsPairBlock walks n arcs pair text
IsLinesPair (lines.Raw pairs) n arcs pair text = IsPairLabel pairs n arcs pair text
IsLinesPair lines.Totals n arcs pair text = IsPairLabel false n arcs pair text

-- the same in the graph and after it grows
abbrev pub IsGrownLinesPair : Lines → ℕ → List ArcRec → Option Growth → ℕ × ℕ → List ℕ → Type 0
IsGrownLinesPair lines n arcs growth pair text = IsGrownText (λ along. IsLinesPair lines n along pair) arcs growth text

-- the texts of the pairs, in their order
abbrev pub AreLinesPairs : Lines → ℕ → List ArcRec → Option Growth → List (ℕ × ℕ) → List ℕ → Type 0
AreLinesPairs lines n arcs growth pairs text = AreBlocks (IsGrownLinesPair lines n arcs growth) pairs text

-- pairs are asked for
abbrev pub IsOfPairs : Question → Type 0
IsOfPairs absent = ⊥
IsOfPairs (from_sources sources) = ⊥
IsOfPairs (of_pairs pairs) = ⊤

-- the text has the blocks within the bound of the sources that are asked for; none does if pairs are
abbrev pub AreBlocksWithin : Bool → ℕ → ℕ → List ArcRec → Option Growth → Question → List ℕ → Type 0
AreBlocksWithin walks bound n arcs growth absent text = ⊥
AreBlocksWithin walks bound n arcs growth (from_sources sources) text =
    AreLinesBlocks (lines.Within walks bound) n arcs growth sources text
AreBlocksWithin walks bound n arcs growth (of_pairs pairs) text = ⊥

-- the text is one of an answer kind within the bound, which changes nothing of components
abbrev pub IsTextWithin : Answer → Bool → ℕ → ℕ → List ArcRec → Option Growth → Question → List ℕ → Type 0
IsTextWithin Distances walks bound n arcs growth question text = AreBlocksWithin walks bound n arcs growth question text
IsTextWithin Levels walks bound n arcs growth question text = AreBlocksWithin walks bound n arcs growth question text
IsTextWithin Components walks bound n arcs growth question text = IsGrownText (IsComponentsBlock n) arcs growth text

-- the text has the blocks in short of the sources that are asked for, or the lines or bytes of the pairs
abbrev pub AreBlocksInShort : Lines → ℕ → List ArcRec → Option Growth → Question → List ℕ → Type 0
AreBlocksInShort lines n arcs growth absent text = ⊥
AreBlocksInShort lines n arcs growth (from_sources sources) text = AreLinesBlocks lines n arcs growth sources text
AreBlocksInShort lines n arcs growth (of_pairs pairs) text = AreLinesPairs lines n arcs growth pairs text

-- the text is one of an answer kind in short, that of components in lines
abbrev pub IsTextInShort : Answer → Lines → ℕ → List ArcRec → Option Growth → Question → List ℕ → Type 0
IsTextInShort Distances lines n arcs growth question text = AreBlocksInShort lines n arcs growth question text
IsTextInShort Levels lines n arcs growth question text = AreBlocksInShort lines n arcs growth question text
IsTextInShort Components lines n arcs growth question text = IsGrownText (IsComponentsBlock n) arcs growth text

-- the text of an answer kind, by the lines that blocks of sources have
abbrev pub IsTextBy : Answer → Lines → ℕ → List ArcRec → Option Growth → Question → List ℕ → Type 0
IsTextBy kind (lines.Each walks) n arcs growth question text = IsTextFor kind walks n arcs growth question text
IsTextBy kind (lines.Within walks bound) n arcs growth question text =
    IsTextWithin kind walks bound n arcs growth question text
IsTextBy kind (lines.Raw pairs) n arcs growth question text =
    IsTextInShort kind (lines.Raw pairs) n arcs growth question text
IsTextBy kind lines.Totals n arcs growth question text = IsTextInShort kind lines.Totals n arcs growth question text

-- the text answers the job
abbrev pub IsAnswerTextBy : Answer → Lines → Content → List ℕ → Type 0
IsAnswerTextBy kind lines job text =
    IsTextBy kind lines job.n (arcs_for kind job.arcs) (growth_for kind job) job.question text

-- the job has pairs, and a bound asks for sources
abbrev pub HasNoSources : Answer → Lines → Question → Type 0
HasNoSources kind (lines.Each walks) question = ⊥
HasNoSources kind (lines.Raw pairs) question = ⊥
HasNoSources kind lines.Totals question = ⊥
HasNoSources Components (lines.Within walks bound) question = ⊥
HasNoSources Distances (lines.Within walks bound) question = IsOfPairs question
HasNoSources Levels (lines.Within walks bound) question = IsOfPairs question

-- ---- what it says

-- by the same lines a source has only one block, and a pair only one text
abbrev pub LinesAreUnique : Type 0
LinesAreUnique =
    (lines : Lines) (n : ℕ) (arcs : List ArcRec) (growth : Option Growth)
    → IsOneBlock (IsGrownLines lines n arcs growth)
    × IsOneBlock (IsGrownLinesPair lines n arcs growth)

-- the lines of a vertex within a bound: none if each walk there costs more; else 'd V COST' with the cost of the
-- cheapest, and perhaps that of a walk
pub data AreLinesOf (walks : Bool) (bound : ℕ) (arcs : List ArcRec) (source v : ℕ) (text : List ℕ) : Type 0 where
  beyond : ((walk : List ArcRec) → IsWalk arcs source walk v → bound < cost walk)
      → text ≡ []
      → AreLinesOf walks bound arcs source v text
  near : (walk : List ArcRec)
      → IsWalk arcs source walk v
      → cost walk ≤ bound
      → (cost_of_v walk_to_v : List ℕ)
      → IsCostText arcs source v cost_of_v
      → IsWalkLine walks arcs source v walk_to_v
      → text ≡ cost_line v cost_of_v ++ walk_to_v
      → AreLinesOf walks bound arcs source v text

-- those of `count` vertices from v on
abbrev pub AreLinesFrom : Bool → ℕ → List ArcRec → ℕ → ℕ → ℕ → List ℕ → Type 0
AreLinesFrom walks bound arcs source v zero text = text ≡ []
AreLinesFrom walks bound arcs source v (suc count) text =
    (lines_of_v : List ℕ)
    × (rest : List ℕ)
    × AreLinesOf walks bound arcs source v lines_of_v
    × AreLinesFrom walks bound arcs source (v + 1) count rest
    × (text ≡ lines_of_v ++ rest)

-- a block says which of n vertices cost no more than the bound from its source, and how much
abbrev pub SaysCostsWithin : Bool → ℕ → ℕ → List ArcRec → ℕ → List ℕ → Type 0
SaysCostsWithin walks bound n arcs source block =
    (lines : List ℕ)
    × AreLinesFrom walks bound arcs source 0 n lines
    × (block ≡ source_text source ++ lines)

-- the blocks within a bound say which vertices cost no more from the job's sources along its arcs, where each counts 1
-- for levels; if the job adds arcs, after each block along all arcs
abbrev pub AnswersSayCostsWithin : Type 0
AnswersSayCostsWithin =
    (kind : Answer) (walks : Bool) (bound : ℕ) (job : Content) (sources text : List ℕ)
    → kind ≢ Components
    → bound < INF
    → job.question ≡ from_sources sources
    → IsWithinLimits job
    → IsAnswerTextBy kind (lines.Within walks bound) job text
    → AreBlocks
    (λ source.
    IsGrownText (λ arcs. SaysCostsWithin walks bound job.n arcs source) (arcs_for kind job.arcs) (growth_for kind job))
    sources text

-- a job has only one answer text of a kind by some lines
abbrev pub AnswerTextsByLinesAreUnique : Type 0
AnswerTextsByLinesAreUnique =
    (kind : Answer) (lines : Lines) (job : Content)
    → IsOneText (IsAnswerTextBy kind lines job)
