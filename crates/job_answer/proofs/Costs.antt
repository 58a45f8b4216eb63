-- Least labels say the costs of walks: the labels of a block, as its lines write them.
use Rattle.std.proofs.Common.{◌≡◌, ◌≢◌, ◌∙◌, Bool, true, false, ℕ, ◌+◌, ◌<◌, ◌≤◌, ◌^◌, List, [], ◌∷◌, ◌++◌}
use Rattle.std.proofs.Common.{length, get_or, slice_index, suc, refl, subst, sym, ap, ap₂, arith, inl, inr}
use Rattle.std.proofs.Common.{Option, Some, None}
use Rattle.std.specs.List.{All}
use Rattle.std.specs.Prelude.{◌==◌, decimal}
use Rattle.std.proofs.lemmas.List.{append-nil}
use Rattle.std.proofs.lemmas.List.Elements.{All-append, All-weaker, All-map, All-head, All-tail, All-nil, All-cons}
use Rattle.std.proofs.lemmas.Bool.{cases_eq}
use Rattle.std.proofs.lemmas.Bool.Decides.{nat_tests}
use Rattle.route_walks.specs.declared.graph.ArcRec.{ArcRec}
use Rattle.route_walks.specs.declared.graph.Seed.{Seed}
use Rattle.route_walks.specs.declared.graph.TheConstants.{INF, MAX_VERTICES}
use Rattle.route_walks.specs.Walk.{IsArcBelow, IsGraph, IsWalk, cost}
use Rattle.route_walks.specs.Component.{IsComponentLabel, LeastLabelsAreComponents}
use Rattle.route_walks.specs.Label.{AreLeastLabels, InfMeansNoWalk}
use Rattle.route_walks.specs.Operators.{both_ways, seeds_from, unit_weight, unit_weights}
use Rattle.job_answer.specs.declared.question.asked.Answer.{Answer}
use Rattle.route_walks.proofs.Facts.{attained-by_walk, walk-of_attained}
use Rattle.answer_lines.specs.Lines.{cost_text, label_text, label_lines, pair_text, walk_text}
use Rattle.dimacs_text.specs.Jobs.{Content, Question, from_sources, of_pairs}
use Rattle.dimacs_text.specs.Jobs.{IsAddedWithin, IsArcWithin, IsPairWithin, IsQuestionWithin, IsWithinLimits}
use Rattle.answer_lines.specs.Lines.{component_lines}
use Rattle.walk_report.specs.Hop.{AreHops}
use Rattle.walk_report.specs.Parent.{AreParents}
use Rattle.walk_report.specs.Printed.{printed_walk, PrintedWalksAreWalks}
use Rattle.job_answer.specs.declared.question.asked.Answer.TheVariants.{Distances, Levels, Components}
use Rattle.job_answer.specs.AnswerText.{AreAskedBlocks, AreBlocks, IsBlock, IsPairBlock, vertex_lines, walk_line}
use Rattle.job_answer.specs.AnswerText.{IsComponentsBlock, IsGrownBlock, IsGrownPair, IsGrownText, arcs_for}
use Rattle.job_answer.specs.AnswerText.{growth_for, growth_from}
use Rattle.job_answer.specs.Costs.{AnswersSayCosts, AnswersSayPairCosts, AreCostLines, IsCostText, SaysCosts}
use Rattle.job_answer.specs.Costs.{SaysPairCost, unreached, reached}
use Rattle.job_answer.specs.Costs.{IsWalkLine, unasked, no_walk, shortest, AnswersSayComponents, AreComponentLines}

-- along these arcs INF means that no walk exists
pub record AreLight (n : ℕ) (arcs : List ArcRec) : Type 0 where
  pub few : n ≤ MAX_VERTICES
  pub graph : IsGraph n arcs
  pub light : All (λ (arc : ArcRec). arc.weight < 2 ^ 32) arcs

-- where a least label is INF there is no walk
no_walk_at : InfMeansNoWalk → (n : ℕ) (arcs : List ArcRec) (source : ℕ) (labels : List ℕ) → AreLight n arcs
    → source < n → AreLeastLabels n arcs (seeds_from source) labels
    → (v : ℕ) → v < n → get_or labels v 0 ≡ INF → (walk : List ArcRec) → ¬ (IsWalk arcs source walk v)
no_walk_at law n arcs source labels light within least v below is walk walks =
    law n arcs (seeds_from source) labels light.few light.graph light.light
    (All-cons (λ (s : Seed). s.vertex < n) (record { vertex = source; start = 0 }) [] within (All-nil _))
    (All-cons (λ (s : Seed). s.start ≤ 2 ^ 60) (record { vertex = source; start = 0 }) [] (omega arith) (All-nil _))
    least v below is (cost walk) (attained-by_walk arcs source v walk walks)

-- what is written for a least label is the text of the cost
pub label_is_cost : InfMeansNoWalk → (n : ℕ) (arcs : List ArcRec) (source : ℕ) (labels : List ℕ) → AreLight n arcs
    → source < n → AreLeastLabels n arcs (seeds_from source) labels
    → (v : ℕ) → v < n → IsCostText arcs source v (cost_text (get_or labels v 0))
label_is_cost law n arcs source labels light within least v below =
    elim (cases_eq (get_or labels v 0) INF) [
      | inl is ↦ unreached (ap cost_text is) (no_walk_at law n arcs source labels light within least v below is)
      | inr finite ↦
          let here = least.least v below in
          let found = walk-of_attained arcs source v (get_or labels v 0) (here.attained (omega (arith, here.capped))) in
          let test : (get_or labels v 0 == INF) ≡ false = grind (arith, nat_tests) in
          reached found.0 found.1
          (λ walk walks. omega (arith, here.least (cost walk) (attained-by_walk arcs source v walk walks), found.2))
          (rw test (ap decimal (sym found.2)))
    ]

-- it is that of a walk of least cost and fewest arcs
pub line_is_walk : InfMeansNoWalk → PrintedWalksAreWalks → (n : ℕ) (arcs : List ArcRec) (source : ℕ)
    (labels hops parents : List ℕ) → AreLight n arcs → source < n → AreLeastLabels n arcs (seeds_from source) labels
    → AreHops n arcs source labels hops → AreParents n arcs labels hops parents
    → (v : ℕ) → v < n
    → IsWalkLine true arcs source v (walk_line (slice_index hops) (slice_index parents) v (get_or labels v 0))
line_is_walk law printed n arcs source labels hops parents light within least fewest before v below =
    elim (cases_eq (get_or labels v 0) INF) [
      | inl is ↦
          no_walk (no_walk_at law n arcs source labels light within least v below is)
          (ap (walk_line (slice_index hops) (slice_index parents) v) is)
      | inr finite ↦
          let here = least.least v below in
          let reached : slice_index labels v < INF = omega (arith, here.capped) in
          let goes = printed INF n arcs source labels hops parents light.graph fewest before v below reached in
          let test : (get_or labels v 0 == INF) ≡ false = grind (arith, nat_tests) in
          let shown : walk_line (slice_index hops) (slice_index parents) v (get_or labels v 0)
          ≡ walk_text (get_or labels v 0) (printed_walk (slice_index parents) (slice_index hops v) v) = rw test refl in
          shortest goes.walk goes.walks
          (λ other walks. omega
          (arith, here.least (cost other) (attained-by_walk arcs source v other walks), goes.costs))
          (λ other walks same.
          omega (arith, (fewest.hop v below reached).fewest other walks (same ∙ goes.costs), goes.count))
          (shown ∙ sym (ap₂ walk_text goes.costs goes.through))
    ]

-- what is written for the labels of the vertices from v on says the costs
abbrev SayCosts : List ArcRec → ℕ → ℕ → List ℕ → Type 0
SayCosts arcs source v labels =
    (k w : ℕ) → k < length labels → w ≡ v + k → IsCostText arcs source w (cost_text (get_or labels k 0))

lines_say_costs : (arcs : List ArcRec) (source v : ℕ) (labels : List ℕ) → SayCosts arcs source v labels
    → AreCostLines false arcs source v (length labels) (label_lines v labels)
lines_say_costs arcs source v [] each = refl
lines_say_costs arcs source v (label ∷ labels) each = (
  cost_text label,
  [],
  label_lines (v + 1) labels,
  each 0 v (omega arith) (omega arith),
  unasked refl refl,
  lines_say_costs arcs source (v + 1) labels (λ k w below is. each (suc k) w (omega arith) (omega arith)),
  ap (λ (line : List ℕ). line ++ label_lines (v + 1) labels) (sym (append-nil (label_text v label))),
)

-- and what is written for their walks is walks
abbrev SayWalks : List ArcRec → ℕ → (ℕ → ℕ) → (ℕ → ℕ) → ℕ → List ℕ → Type 0
SayWalks arcs source hop parent v labels =
    (k w : ℕ) → k < length labels → w ≡ v + k
    → IsWalkLine true arcs source w (walk_line hop parent w (get_or labels k 0))

walks_say_costs : (arcs : List ArcRec) (source v : ℕ) (hop parent : ℕ → ℕ) (labels : List ℕ)
    → SayCosts arcs source v labels
    → SayWalks arcs source hop parent v labels
    → AreCostLines true arcs source v (length labels) (vertex_lines hop parent v labels)
walks_say_costs arcs source v hop parent [] each lines = refl
walks_say_costs arcs source v hop parent (label ∷ labels) each lines = (
  cost_text label,
  walk_line hop parent v label,
  vertex_lines hop parent (v + 1) labels,
  each 0 v (omega arith) (omega arith),
  lines 0 v (omega arith) (omega arith),
  walks_say_costs arcs source (v + 1) hop parent labels (λ k w below is. each (suc k) w (omega arith) (omega arith))
      (λ k w below is. lines (suc k) w (omega arith) (omega arith)),
  refl,
)

say_costs : InfMeansNoWalk → (n : ℕ) (arcs : List ArcRec) (source : ℕ) (labels : List ℕ) → AreLight n arcs
    → source < n → AreLeastLabels n arcs (seeds_from source) labels
    → SayCosts arcs source 0 labels
say_costs law n arcs source labels light within least k w below is =
    let same : k ≡ w = omega arith in
    subst (λ (x : ℕ). IsCostText arcs source x (cost_text (get_or labels k 0))) same
    (label_is_cost law n arcs source labels light within least k (omega (arith, least.count)))

say_walks : InfMeansNoWalk → PrintedWalksAreWalks → (n : ℕ) (arcs : List ArcRec) (source : ℕ)
    (labels hops parents : List ℕ) → AreLight n arcs → source < n → AreLeastLabels n arcs (seeds_from source) labels
    → AreHops n arcs source labels hops → AreParents n arcs labels hops parents
    → SayWalks arcs source (slice_index hops) (slice_index parents) 0 labels
say_walks law printed n arcs source labels hops parents light within least fewest before k w below is =
    let same : k ≡ w = omega arith in
    let line : ℕ → Type 0 = λ x.
    IsWalkLine true arcs source x (walk_line (slice_index hops) (slice_index parents) x (get_or labels k 0)) in
    subst line same
    (line_is_walk law printed n arcs source labels hops parents light within least fewest before k
    (omega (arith, least.count)))

block_says_costs : InfMeansNoWalk → PrintedWalksAreWalks → (walks : Bool) (n : ℕ) (arcs : List ArcRec) → AreLight n arcs
    → (source : ℕ) (block : List ℕ) → source < n → IsBlock walks n arcs source block
    → SaysCosts walks n arcs source block
block_says_costs law printed false n arcs light source text within block = (
  label_lines 0 block.labels,
  subst (λ (m : ℕ). AreCostLines false arcs source 0 m (label_lines 0 block.labels)) block.least.count
      (lines_say_costs arcs source 0 block.labels (say_costs law n arcs source block.labels light within block.least)),
  block.written,
)
block_says_costs law printed true n arcs light source text within block =
    let lines = vertex_lines (slice_index block.hops) (slice_index block.parents) 0 block.labels in
    let are = block.walked in (
      lines,
      subst (λ (m : ℕ). AreCostLines true arcs source 0 m lines) are.least.count
          (walks_say_costs arcs source 0 (slice_index block.hops) (slice_index block.parents) block.labels
          (say_costs law n arcs source block.labels light within are.least)
          (say_walks law printed n arcs source block.labels block.hops block.parents light within are.least
          are.fewest are.before)),
      block.written,
    )

pair_says_cost : InfMeansNoWalk → PrintedWalksAreWalks → (walks : Bool) (n : ℕ) (arcs : List ArcRec) → AreLight n arcs
    → (pair : ℕ × ℕ) (block : List ℕ) → IsPairWithin n pair → IsPairBlock walks n arcs pair block
    → SaysPairCost walks arcs pair block
pair_says_cost law printed false n arcs light pair text within block = (
  cost_text (slice_index block.labels pair.1),
  [],
  label_is_cost law n arcs pair.0 block.labels light within.0 block.least pair.1 within.1,
  unasked refl refl,
  block.written ∙ sym (append-nil (pair_text pair.0 pair.1 (slice_index block.labels pair.1))),
)
pair_says_cost law printed true n arcs light pair text within block =
    let are = block.walked in (
      cost_text (slice_index block.labels pair.1),
      walk_line (slice_index block.hops) (slice_index block.parents) pair.1 (slice_index block.labels pair.1),
      label_is_cost law n arcs pair.0 block.labels light within.0 are.least pair.1 within.1,
      line_is_walk law printed n arcs pair.0 block.labels block.hops block.parents light within.0 are.least are.fewest
          are.before pair.1 within.1,
      block.written,
    )

-- what each block says, all of them say
pub blocks_say : {Query : Type 0} (IsWithin : Query → Type 0) (IsBlockOf Says : Query → List ℕ → Type 0)
    → ((query : Query) (block : List ℕ) → IsWithin query → IsBlockOf query block → Says query block)
    → (queries : List Query) (text : List ℕ) → All IsWithin queries → AreBlocks IsBlockOf queries text
    → AreBlocks Says queries text
blocks_say IsWithin IsBlockOf Says each [] text within blocks = blocks
blocks_say IsWithin IsBlockOf Says each (query ∷ queries) text within blocks = (
  blocks.0,
  blocks.1,
  each query blocks.0 (All-head IsWithin query queries within) blocks.2,
  blocks_say IsWithin IsBlockOf Says each queries blocks.1 (All-tail IsWithin query queries within) blocks.3,
  blocks.4,
)

-- what is said of some arcs is said of all arcs, if some are added
abbrev pub AreAllSo : (List ArcRec → Type 0) → List ArcRec → Option (List ArcRec) → Type 0
AreAllSo IsSo arcs None = Unit {0}
AreAllSo IsSo arcs (Some added) = IsSo (arcs ++ added)

-- what the text of arcs says, it says of the arcs before and of all arcs
pub grown_says : (along other : List ArcRec → List ArcRec) (IsSo : List ArcRec → Type 0)
    (IsTextOf Says : List ArcRec → List ℕ → Type 0)
    → ((arcs : List ArcRec) → IsSo arcs → (text : List ℕ) → IsTextOf (along arcs) text → Says (other arcs) text)
    → (arcs : List ArcRec) (added : Option (List ArcRec)) → IsSo arcs → AreAllSo IsSo arcs added
    → (text : List ℕ) → IsGrownText IsTextOf (along arcs) (growth_from along arcs added) text
    → IsGrownText Says (other arcs) (growth_from other arcs added) text
grown_says along other IsSo IsTextOf Says each arcs None so all text is = each arcs so text is
grown_says along other IsSo IsTextOf Says each arcs (Some added) so all text is = record {
  before = is.before;
  after = is.after;
  first = each arcs so is.before is.first;
  second = each (arcs ++ added) all is.after is.second;
  written = is.written;
}

-- arcs within the limits are light, and so are those of levels
pub light_arcs : (n : ℕ) (arcs : List ArcRec) → n ≤ MAX_VERTICES → All (IsArcWithin n) arcs → AreLight n arcs
light_arcs n arcs few within = record {
  few = few;
  graph = All-weaker (IsArcWithin n) (IsArcBelow n) (λ arc are. (are.tail, are.head)) arcs within;
  light = All-weaker (IsArcWithin n) (λ (arc : ArcRec). arc.weight < 2 ^ 32) (λ arc are. are.weight) arcs within;
}

light_units : (n : ℕ) (arcs : List ArcRec) → AreLight n arcs → AreLight n (unit_weights arcs)
light_units n arcs light = record {
  few = light.few;
  graph = All-map (IsArcBelow n) unit_weight arcs light.graph;
  light = All-map (λ (arc : ArcRec). arc.weight < 2 ^ 32) unit_weight arcs (λ k d below. omega arith);
}

pub light_kind : (kind : Answer) (n : ℕ) (arcs : List ArcRec) → kind ≢ Components → AreLight n arcs
    → AreLight n (arcs_for kind arcs)
light_kind Distances n arcs other light = light
light_kind Levels n arcs other light = light_units n arcs light
light_kind Components n arcs other light = absurd (other refl)

pub light_all : (n : ℕ) (arcs : List ArcRec) (added : Option (List ArcRec)) → n ≤ MAX_VERTICES → All (IsArcWithin n) arcs
    → IsAddedWithin n added → AreAllSo (AreLight n) arcs added
light_all n arcs None few within more = tt
light_all n arcs (Some added) few within more =
    light_arcs n (arcs ++ added) few (All-append (IsArcWithin n) arcs added within more.1)

module _ (law : InfMeansNoWalk) (printed : PrintedWalksAreWalks) (kind : Answer) (walks : Bool) (job : Content)
    (other : kind ≢ Components) (limits : IsWithinLimits job) (text : List ℕ) where
  light : AreLight job.n job.arcs
  light = light_arcs job.n job.arcs limits.vertices limits.arcs

  all_light : AreAllSo (AreLight job.n) job.arcs job.added
  all_light = light_all job.n job.arcs job.added limits.vertices limits.arcs limits.added

  sources_say : (sources : List ℕ) → job.question ≡ from_sources sources
      → AreAskedBlocks walks job.n (arcs_for kind job.arcs) (growth_for kind job) job.question text
      → AreBlocks
      (λ source. IsGrownText (λ arcs. SaysCosts walks job.n arcs source) (arcs_for kind job.arcs) (growth_for kind job))
      sources text
  sources_say sources asked answered =
      blocks_say (λ v. v < job.n) (IsGrownBlock walks job.n (arcs_for kind job.arcs) (growth_for kind job))
      (λ source. IsGrownText (λ arcs. SaysCosts walks job.n arcs source) (arcs_for kind job.arcs) (growth_for kind job))
      (λ source block within.
      grown_says (arcs_for kind) (arcs_for kind) (AreLight job.n) (λ along. IsBlock walks job.n along source)
      (λ arcs. SaysCosts walks job.n arcs source)
      (λ arcs are lines.
      block_says_costs law printed walks job.n (arcs_for kind arcs) (light_kind kind job.n arcs other are) source lines
      within) job.arcs job.added light all_light block)
      sources text (subst (IsQuestionWithin job.n) asked limits.question).1
      (subst
      (λ (q : Question). AreAskedBlocks walks job.n (arcs_for kind job.arcs) (growth_for kind job) q text) asked
      answered)

  pairs_say : (pairs : List (ℕ × ℕ)) → job.question ≡ of_pairs pairs
      → AreAskedBlocks walks job.n (arcs_for kind job.arcs) (growth_for kind job) job.question text
      → AreBlocks
      (λ pair. IsGrownText (λ arcs. SaysPairCost walks arcs pair) (arcs_for kind job.arcs) (growth_for kind job))
      pairs text
  pairs_say pairs asked answered =
      blocks_say (IsPairWithin job.n) (IsGrownPair walks job.n (arcs_for kind job.arcs) (growth_for kind job))
      (λ pair. IsGrownText (λ arcs. SaysPairCost walks arcs pair) (arcs_for kind job.arcs) (growth_for kind job))
      (λ pair block within.
      grown_says (arcs_for kind) (arcs_for kind) (AreLight job.n) (λ along. IsPairBlock walks job.n along pair)
      (λ arcs. SaysPairCost walks arcs pair)
      (λ arcs are lines.
      pair_says_cost law printed walks job.n (arcs_for kind arcs) (light_kind kind job.n arcs other are) pair lines
      within) job.arcs job.added light all_light block)
      pairs text (subst (IsQuestionWithin job.n) asked limits.question).1
      (subst
      (λ (q : Question). AreAskedBlocks walks job.n (arcs_for kind job.arcs) (growth_for kind job) q text) asked
      answered)

pub answers_say_costs : InfMeansNoWalk → PrintedWalksAreWalks → AnswersSayCosts
answers_say_costs law printed Distances walks job sources text other asked limits answered =
    sources_say law printed Distances walks job other limits text sources asked answered
answers_say_costs law printed Levels walks job sources text other asked limits answered =
    sources_say law printed Levels walks job other limits text sources asked answered
answers_say_costs law printed Components walks job sources text other asked limits answered = absurd (other refl)

pub answers_say_pair_costs : InfMeansNoWalk → PrintedWalksAreWalks → AnswersSayPairCosts
answers_say_pair_costs law printed Distances walks job pairs text other asked limits answered =
    pairs_say law printed Distances walks job other limits text pairs asked answered
answers_say_pair_costs law printed Levels walks job pairs text other asked limits answered =
    pairs_say law printed Levels walks job other limits text pairs asked answered
answers_say_pair_costs law printed Components walks job pairs text other asked limits answered = absurd (other refl)

-- ---- components

component_lines_say : (arcs : List ArcRec) (v : ℕ) (labels : List ℕ)
    → ((k w : ℕ) → k < length labels → w ≡ v + k → IsComponentLabel arcs w (get_or labels k 0))
    → AreComponentLines arcs v (length labels) (component_lines v labels)
component_lines_say arcs v [] each = refl
component_lines_say arcs v (label ∷ labels) each = (
  label,
  component_lines (v + 1) labels,
  each 0 v (omega arith) (omega arith),
  component_lines_say arcs (v + 1) labels (λ k w below is. each (suc k) w (omega arith) (omega arith)),
  refl,
)

components_say : LeastLabelsAreComponents → (n : ℕ) (arcs : List ArcRec) → AreLight n arcs
    → (text : List ℕ) → IsComponentsBlock n (both_ways arcs) text
    → AreComponentLines arcs 0 n text
components_say law n arcs light text block =
    let lines : AreComponentLines arcs 0 (length block.labels) text =
    rw block.written
    (component_lines_say arcs 0 block.labels
    (λ k w below is.
    let same : k ≡ w = omega arith in
    subst (λ (x : ℕ). IsComponentLabel arcs x (get_or block.labels k 0)) same
    (law n arcs (slice_index block.labels) light.graph (omega (arith, light.few)) block.least.least k
    (omega (arith, block.least.count))))) in
    subst (λ (m : ℕ). AreComponentLines arcs 0 m text) block.least.count lines

pub answers_say_components : LeastLabelsAreComponents → AnswersSayComponents
answers_say_components law walks job text limits answered =
    grown_says both_ways (λ arcs. arcs) (AreLight job.n) (IsComponentsBlock job.n)
    (λ arcs. AreComponentLines arcs 0 job.n) (components_say law job.n) job.arcs job.added
    (light_arcs job.n job.arcs limits.vertices limits.arcs)
    (light_all job.n job.arcs job.added limits.vertices limits.arcs limits.added) text answered
