-- Least labels, hops and parents exist, and so does the text that they make.
use Rattle.std.proofs.Common.{◌≡◌, ◌≢◌, ℕ, ◌<◌, ◌≤◌, Bool, true, false, List, [], ◌∷◌, ◌++◌, slice_index, Option, Some, None}
use Rattle.std.proofs.Common.{refl, subst}
use Rattle.std.specs.List.{All}
use Rattle.std.proofs.lemmas.List.Elements.{All-head, All-map, All-tail, All-weaker}
use Rattle.route_walks.specs.declared.graph.ArcRec.{ArcRec}
use Rattle.route_walks.specs.declared.graph.TheConstants.{MAX_VERTICES}
use Rattle.route_walks.specs.Walk.{IsArcBelow, IsGraph}
use Rattle.route_walks.specs.Operators.{seeds_all, seeds_from, unit_weight}
use Rattle.route_walks.proofs.Facts.{both_ways-graph, graph-append}
use Rattle.route_walks.specs.Existence.{LeastLabelsExist}
use Rattle.walk_report.specs.Existence.{HopsAndParentsExist}
use Rattle.route_walks.specs.Label.{AreLeastLabels}
use Rattle.answer_lines.specs.Lines.{components_text, distances_text, grown_text, label_text}
use Rattle.answer_lines.specs.Raw.{raw_text}
use Rattle.answer_lines.specs.Totals.{totals_text}
use Rattle.dimacs_text.specs.Jobs.{IsAddedWithin, IsArcWithin, IsPairWithin, IsQuestionWithin}
use Rattle.dimacs_text.specs.Jobs.{Question, absent, from_sources, of_pairs}
use Rattle.job_answer.specs.declared.question.asked.Answer.{Answer}
use Rattle.job_answer.specs.declared.question.asked.Answer.TheVariants.{Distances, Levels, Components}
use Rattle.job_answer.specs.declared.question.asked.Lines.{Lines}
use Rattle.job_answer.specs.declared.question.asked.Lines.TheVariants as lines
use Rattle.job_answer.specs.declared.question.graphs.GrownNetwork.{GrownNetwork}
use Rattle.job_answer.specs.AnswerText.{AreBlocks, AreWalksFrom, Growth, IsComponentsBlock, IsGrownText, IsPairBlock}
use Rattle.job_answer.specs.AnswerText.{IsPairLabel, arcs_for, growth_for, growth_from, pair_label_text, pair_walk_text}
use Rattle.job_answer.specs.AnswerText.{vertex_text, walks_text}
use Rattle.job_answer.specs.Existence.{AskedJobsHaveAnswers, AskedJobsHaveAnswersByLines}
use Rattle.job_answer.specs.Graphs.{GrowsInto, growth_of}
use Rattle.job_answer.specs.Outcome.{is_unasked}
use Rattle.job_answer.specs.Within.{AreLinesPairs, HasNoSources, IsGrownLines, IsGrownLinesPair, IsLinesBlock}
use Rattle.job_answer.specs.Within.{IsLinesPair, IsTextBy, text_within}
use Rattle.job_answer.proofs.Replies.{sources-text}
use Rattle.least_costs.proofs.Facts.{start-seeds}
use Rattle.least_costs.specs.Network.{NetworkSeen}
use Rattle.least_costs.specs.declared.start.Start.TheVariants.{At, Everywhere}

-- where each query has a block, there are the blocks of all
blocks-exist : {Query : Type 0} (IsWithin : Query → Type 0) (IsBlockOf : Query → List ℕ → Type 0)
    → ((query : Query) → IsWithin query → (text : List ℕ) × IsBlockOf query text)
    → (queries : List Query) → All IsWithin queries
    → (text : List ℕ) × AreBlocks IsBlockOf queries text
blocks-exist IsWithin IsBlockOf each [] within = ([], refl)
blocks-exist IsWithin IsBlockOf each (query ∷ queries) within =
    let block = each query (All-head IsWithin query queries within) in
    let rest = blocks-exist IsWithin IsBlockOf each queries (All-tail IsWithin query queries within) in
    (block.0 ++ rest.0, (block.0, rest.0, block.1, rest.1, refl))

module _ (labelled : LeastLabelsExist) (walked : HopsAndParentsExist) (n : ℕ) (arcs : List ArcRec)
    (few : n ≤ MAX_VERTICES)
    (graph : IsGraph n arcs) where
  labels-exist : (source : ℕ) → source < n → (labels : List ℕ) × AreLeastLabels n arcs (seeds_from source) labels
  labels-exist source within = labelled n arcs (seeds_from source) graph (start-seeds n (At source) within)

  walks-exist : (source : ℕ) → source < n
      → (labels : List ℕ) × (hops : List ℕ) × (parents : List ℕ) × AreWalksFrom n arcs source labels hops parents
  walks-exist source within =
      let found = labels-exist source within in
      let by = walked n arcs source found.0 few graph within found.1 in
      (found.0, by.0, by.1, record { least = found.1; fewest = by.2; before = by.3 })

  block-exists : (by : Lines) (source : ℕ) → source < n → (text : List ℕ) × IsLinesBlock by n arcs source text
  block-exists (lines.Each false) source within =
      let found = labels-exist source within in
      (distances_text source found.0, record { labels = found.0; least = found.1; written = refl })
  block-exists (lines.Each true) source within =
      let (labels, hops, parents, are) = walks-exist source within in (
        walks_text source (slice_index hops) (slice_index parents) labels,
        record { labels = labels; hops = hops; parents = parents; walked = are; written = refl },
      )
  block-exists (lines.Within false bound) source within =
      let found = labels-exist source within in (
        text_within source bound label_text found.0,
        record { labels = found.0; least = found.1; written = refl },
      )
  block-exists (lines.Within true bound) source within =
      let (labels, hops, parents, are) = walks-exist source within in (
        text_within source bound (vertex_text (slice_index hops) (slice_index parents)) labels,
        record { labels = labels; hops = hops; parents = parents; walked = are; written = refl },
      )
  block-exists (lines.Raw pairs) source within =
      let found = labels-exist source within in
      (raw_text source found.0, record { labels = found.0; least = found.1; written = refl })
  block-exists lines.Totals source within =
      let found = labels-exist source within in
      (totals_text source found.0, record { labels = found.0; least = found.1; written = refl })

  pair-label-exists : (raw : Bool) (pair : ℕ × ℕ) → IsPairWithin n pair
      → (text : List ℕ) × IsPairLabel raw n arcs pair text
  pair-label-exists raw pair within =
      let found = labels-exist pair.0 within.0 in (
        pair_label_text raw pair (slice_index found.0 pair.1),
        record { labels = found.0; least = found.1; written = refl },
      )

  pair-exists : (walks : Bool) (pair : ℕ × ℕ) → IsPairWithin n pair
      → (text : List ℕ) × IsPairBlock walks n arcs pair text
  pair-exists false pair within = pair-label-exists false pair within
  pair-exists true pair within =
      let (labels, hops, parents, are) = walks-exist pair.0 within.0 in (
        pair_walk_text pair labels (slice_index hops) (slice_index parents),
        record { labels = labels; hops = hops; parents = parents; walked = are; written = refl },
      )

  lines-pair-exists : (by : Lines) (pair : ℕ × ℕ) → IsPairWithin n pair
      → (text : List ℕ) × IsLinesPair by n arcs pair text
  lines-pair-exists (lines.Each walks) pair within = pair-exists walks pair within
  lines-pair-exists (lines.Within walks bound) pair within = pair-exists walks pair within
  lines-pair-exists (lines.Raw pairs) pair within = pair-label-exists pairs pair within
  lines-pair-exists lines.Totals pair within = pair-label-exists false pair within

  components-exist : (text : List ℕ) × IsComponentsBlock n arcs text
  components-exist =
      let found = labelled n arcs (seeds_all n) graph (start-seeds n Everywhere tt) in
      (components_text found.0, record { labels = found.0; least = found.1; written = refl })

-- the graph that it grows to, if it does, is one of n vertices
abbrev pub IsGrowthWithin : ℕ → Option Growth → Type 0
IsGrowthWithin n None = Unit {0}
IsGrowthWithin n (Some growth) = IsGraph n growth.arcs

-- if the arcs of each graph have a text, a graph and what it grows to have one
grown-exists : (n : ℕ) (IsTextOf : List ArcRec → List ℕ → Type 0)
    → ((arcs : List ArcRec) → IsGraph n arcs → (text : List ℕ) × IsTextOf arcs text)
    → (arcs : List ArcRec) (growth : Option Growth) → IsGraph n arcs → IsGrowthWithin n growth
    → (text : List ℕ) × IsGrownText IsTextOf arcs growth text
grown-exists n IsTextOf each arcs None graph within = each arcs graph
grown-exists n IsTextOf each arcs (Some growth) graph within =
    let first = each arcs graph in
    let second = each growth.arcs within in (
      first.0 ++ grown_text growth.count ++ second.0,
      record { before = first.0; after = second.0; first = first.1; second = second.1; written = refl },
    )

module _ (labelled : LeastLabelsExist) (walked : HopsAndParentsExist) (n : ℕ) (few : n ≤ MAX_VERTICES)
    (arcs : List ArcRec) (growth : Option Growth) (graph : IsGraph n arcs) (grows : IsGrowthWithin n growth) where
  pub lines-exist : (by : Lines) (source : ℕ) → source < n
      → (text : List ℕ) × IsGrownLines by n arcs growth source text
  lines-exist by source within =
      grown-exists n (λ along. IsLinesBlock by n along source)
      (λ along ends. block-exists labelled walked n along few ends by source within) arcs growth graph grows

  pub pairs-exist : (by : Lines) (pairs : List (ℕ × ℕ)) → All (IsPairWithin n) pairs
      → (text : List ℕ) × AreLinesPairs by n arcs growth pairs text
  pairs-exist by pairs within =
      blocks-exist (IsPairWithin n) (IsGrownLinesPair by n arcs growth)
      (λ pair below.
      grown-exists n (λ along. IsLinesPair by n along pair)
      (λ along ends. lines-pair-exists labelled walked n along few ends by pair below) arcs growth graph grows)
      pairs within

  sources-exist : (kind : Answer) (by : Lines) (sources : List ℕ) → kind ≢ Components → All (λ v. v < n) sources
      → (text : List ℕ) × IsTextBy kind by n arcs growth (from_sources sources) text
  sources-exist kind by sources other within =
      let found = blocks-exist (λ v. v < n) (IsGrownLines by n arcs growth) (lines-exist by) sources within in
      (found.0, (sources-text kind by n arcs growth sources found.0 other).0 found.1)

  all-exist : (text : List ℕ) × IsGrownText (IsComponentsBlock n) arcs growth text
  all-exist =
      grown-exists n (IsComponentsBlock n) (λ along ends. components-exist labelled walked n along few ends) arcs growth
      graph grows

  pub text-exists : (kind : Answer) (by : Lines) (question : Question) → IsQuestionWithin n question
      → is_unasked kind question ≡ false → ¬ (HasNoSources kind by question)
      → (text : List ℕ) × IsTextBy kind by n arcs growth question text
  text-exists Distances by absent within asked sources = cc
  text-exists Levels by absent within asked sources = cc
  text-exists Distances by (from_sources all) within asked sources =
      sources-exist Distances by all (λ same. cc) within.1
  text-exists Levels by (from_sources all) within asked sources = sources-exist Levels by all (λ same. cc) within.1
  text-exists Distances (lines.Each walks) (of_pairs pairs) within asked sources =
      pairs-exist (lines.Each walks) pairs within.1
  text-exists Levels (lines.Each walks) (of_pairs pairs) within asked sources =
      pairs-exist (lines.Each walks) pairs within.1
  text-exists Distances (lines.Within walks bound) (of_pairs pairs) within asked sources = absurd (sources tt)
  text-exists Levels (lines.Within walks bound) (of_pairs pairs) within asked sources = absurd (sources tt)
  text-exists Distances (lines.Raw raw) (of_pairs pairs) within asked sources =
      pairs-exist (lines.Raw raw) pairs within.1
  text-exists Levels (lines.Raw raw) (of_pairs pairs) within asked sources = pairs-exist (lines.Raw raw) pairs within.1
  text-exists Distances lines.Totals (of_pairs pairs) within asked sources = pairs-exist lines.Totals pairs within.1
  text-exists Levels lines.Totals (of_pairs pairs) within asked sources = pairs-exist lines.Totals pairs within.1
  text-exists Components (lines.Each walks) question within asked sources = all-exist
  text-exists Components (lines.Within walks bound) question within asked sources = all-exist
  text-exists Components (lines.Raw pairs) question within asked sources = all-exist
  text-exists Components lines.Totals question within asked sources = all-exist

-- what a network grows to is a graph of its vertices
pub growth-within : (net : NetworkSeen) (grown : Option GrownNetwork) → GrowsInto net grown
    → IsGrowthWithin net.n (growth_of grown)
growth-within net None grows = tt
growth-within net (Some grown) grows = subst (λ n. IsGraph n grown.network.arcs) grows.to.vertices grows.is.ends

arcs-graph : (n : ℕ) (arcs : List ArcRec) → All (IsArcWithin n) arcs → IsGraph n arcs
arcs-graph n arcs within =
    All-weaker (IsArcWithin n) (IsArcBelow n) (λ arc are. (are.tail, are.head)) arcs within

-- what the arcs of an answer are made of is a graph, and so are they
kind-graph : (kind : Answer) (n : ℕ) (arcs : List ArcRec) → IsGraph n arcs → IsGraph n (arcs_for kind arcs)
kind-graph Distances n arcs graph = graph
kind-graph Levels n arcs graph = All-map (IsArcBelow n) unit_weight arcs graph
kind-graph Components n arcs graph = both_ways-graph n arcs graph

growth-graph : (kind : Answer) (n : ℕ) (arcs : List ArcRec) (added : Option (List ArcRec)) → IsGraph n arcs
    → IsAddedWithin n added → IsGrowthWithin n (growth_from (arcs_for kind) arcs added)
growth-graph kind n arcs None graph within = tt
growth-graph kind n arcs (Some added) graph within =
    kind-graph kind n (arcs ++ added) (graph-append n arcs added graph (arcs-graph n added within.1))

-- what asks for something passes the test
asked-test : (kind : Answer) (question : Question) → ¬ ((question ≡ absent) × (kind ≢ Components))
    → is_unasked kind question ≡ false
asked-test Distances absent asked = absurd (asked (refl, λ same. cc))
asked-test Levels absent asked = absurd (asked (refl, λ same. cc))
asked-test Distances (from_sources sources) asked = refl
asked-test Levels (from_sources sources) asked = refl
asked-test Distances (of_pairs pairs) asked = refl
asked-test Levels (of_pairs pairs) asked = refl
asked-test Components question asked = refl

pub asked_jobs_have_answers_by_lines : LeastLabelsExist → HopsAndParentsExist → AskedJobsHaveAnswersByLines
asked_jobs_have_answers_by_lines labelled walked kind by job limits asked sources =
    let graph = arcs-graph job.n job.arcs limits.arcs in
    text-exists labelled walked job.n limits.vertices (arcs_for kind job.arcs) (growth_for kind job)
    (kind-graph kind job.n job.arcs graph) (growth-graph kind job.n job.arcs job.added graph limits.added) kind by
    job.question limits.question
    (asked-test kind job.question (λ none. asked (record { unasked = none.0; needed = none.1 }))) sources

pub asked_jobs_have_answers : LeastLabelsExist → HopsAndParentsExist → AskedJobsHaveAnswers
asked_jobs_have_answers labelled walked kind walks job limits asked =
    asked_jobs_have_answers_by_lines labelled walked kind (lines.Each walks) job limits asked (λ none. none)
