-- Least labels are unique, so a job has only one answer text of a kind.
use Rattle.std.proofs.Common.{◌≡◌, Bool, true, false, ℕ, ◌<◌, List, [], ◌∷◌, ◌++◌, Option, Some, None, get_or}
use Rattle.std.proofs.Common.{slice_index, subst, sym, ap, ap₂, ◌∙◌, arith}
use Rattle.std.proofs.lemmas.Grind.{same_number_lists}
use Rattle.route_walks.specs.declared.graph.ArcRec.{ArcRec}
use Rattle.route_walks.specs.declared.graph.Seed.{Seed}
use Rattle.route_walks.specs.Label.{AreLeastLabels, LeastLabelsAreUnique}
use Rattle.route_walks.specs.Operators.{seeds_from, seeds_all}
use Rattle.walk_report.specs.Hop.{AreHops}
use Rattle.walk_report.specs.Parent.{AreParents, HopsAndParentsAreUnique}
use Rattle.answer_lines.specs.Lines.{distances_text, components_text, grown_text}
use Rattle.dimacs_text.specs.Jobs.{Question, absent, from_sources, of_pairs}
use Rattle.job_answer.specs.declared.question.asked.Answer.TheVariants.{Distances, Levels, Components}
use Rattle.job_answer.specs.AnswerText.{AnswerTextsAreUnique, BlocksAreUnique, IsOneBlock, IsOneText, IsBlock}
use Rattle.job_answer.specs.AnswerText.{IsPairBlock, IsPairLabel, pair_label_text}
use Rattle.job_answer.specs.AnswerText.{AreWalksFrom, AreBlocks, AreAskedBlocks, walks_text, pair_walk_text}
use Rattle.job_answer.specs.AnswerText.{Growth, IsComponentsBlock, IsGrownBlock, IsGrownPair, IsGrownText, growth_for}
use Rattle.job_answer.specs.AnswerText.{arcs_for}

pub labels-same : LeastLabelsAreUnique
    → (n : ℕ) (arcs : List ArcRec) (seeds : List Seed) (xs ys : List ℕ) → AreLeastLabels n arcs seeds xs
    → AreLeastLabels n arcs seeds ys
    → xs ≡ ys
labels-same law n arcs seeds xs ys first second =
    same_number_lists xs ys (omega (arith, first.count, second.count))
    (λ v below.
    let inside : v < n = omega (arith, first.count) in
    law arcs seeds v (get_or xs v 0) (get_or ys v 0) (first.least v inside) (second.least v inside))

-- labels, hops and parents from a source are unique
module _ (law : LeastLabelsAreUnique) (walked : HopsAndParentsAreUnique) (n : ℕ) (arcs : List ArcRec) where
  pub walks-same : (source : ℕ) (labels hops parents others other-hops other-parents : List ℕ)
      → AreWalksFrom n arcs source labels hops parents → AreWalksFrom n arcs source others other-hops other-parents
      → (labels ≡ others) × (hops ≡ other-hops) × (parents ≡ other-parents)
  walks-same source labels hops parents others other-hops other-parents one two =
      let same = labels-same law n arcs (seeds_from source) labels others one.least two.least in
      let both =
      walked n arcs source others hops other-hops parents other-parents two.least
      (subst (λ (xs : List ℕ). AreHops n arcs source xs hops) same one.fewest) two.fewest
      (subst (λ (xs : List ℕ). AreParents n arcs xs hops parents) same one.before) two.before in
      (same, both.0, both.1)

  block-same : (walks : Bool) → IsOneBlock (IsBlock walks n arcs)
  block-same false source first second one two =
      one.written
      ∙ ap (distances_text source)
      (labels-same law n arcs (seeds_from source) one.labels two.labels one.least two.least)
      ∙ sym two.written
  block-same true source first second one two =
      let same =
      walks-same source one.labels one.hops one.parents two.labels two.hops two.parents one.walked two.walked in
      one.written
      ∙ ap (walks_text source (slice_index one.hops) (slice_index one.parents)) same.0
      ∙ ap (λ (hops : List ℕ). walks_text source (slice_index hops) (slice_index one.parents) two.labels) same.1
      ∙ ap (λ (parents : List ℕ). walks_text source (slice_index two.hops) (slice_index parents) two.labels) same.2
      ∙ sym two.written

  pub pair-label-same : (raw : Bool) → IsOneBlock (IsPairLabel raw n arcs)
  pair-label-same raw pair first second one two =
      one.written
      ∙ ap (λ (labels : List ℕ). pair_label_text raw pair (slice_index labels pair.1))
      (labels-same law n arcs (seeds_from pair.0) one.labels two.labels one.least two.least)
      ∙ sym two.written

  pair-same : (walks : Bool) → IsOneBlock (IsPairBlock walks n arcs)
  pair-same false pair first second one two = pair-label-same false pair first second one two
  pair-same true pair first second one two =
      let same =
      walks-same pair.0 one.labels one.hops one.parents two.labels two.hops two.parents one.walked two.walked in
      one.written
      ∙ ap (λ (labels : List ℕ). pair_walk_text pair labels (slice_index one.hops) (slice_index one.parents)) same.0
      ∙ ap (λ (hops : List ℕ). pair_walk_text pair two.labels (slice_index hops) (slice_index one.parents)) same.1
      ∙ ap (λ (parents : List ℕ). pair_walk_text pair two.labels (slice_index two.hops) (slice_index parents)) same.2
      ∙ sym two.written

components-same : LeastLabelsAreUnique → (n : ℕ) (arcs : List ArcRec) → IsOneText (IsComponentsBlock n arcs)
components-same law n arcs first second one two =
    one.written
    ∙ ap components_text (labels-same law n arcs (seeds_all n) one.labels two.labels one.least two.least)
    ∙ sym two.written

-- where arcs have one text, those of a graph and of what it grows to have one
pub grown-same : (IsTextOf : List ArcRec → List ℕ → Type 0) → ((arcs : List ArcRec) → IsOneText (IsTextOf arcs))
    → (arcs : List ArcRec) (growth : Option Growth) → IsOneText (IsGrownText IsTextOf arcs growth)
grown-same IsTextOf only arcs None first second one two = only arcs first second one two
grown-same IsTextOf only arcs (Some growth) first second one two =
    one.written
    ∙ ap₂ (λ (before after : List ℕ). before ++ grown_text growth.count ++ after)
    (only arcs one.before two.before one.first two.first)
    (only growth.arcs one.after two.after one.second two.second)
    ∙ sym two.written

pub blocks_are_unique : LeastLabelsAreUnique → HopsAndParentsAreUnique → BlocksAreUnique
blocks_are_unique law walked walks n arcs growth = (
  λ source.
      grown-same (λ along. IsBlock walks n along source)
      (λ along. block-same law walked n along walks source) arcs growth,
  λ pair.
      grown-same (λ along. IsPairBlock walks n along pair)
      (λ along. pair-same law walked n along walks pair) arcs growth,
  grown-same (IsComponentsBlock n) (components-same law n) arcs growth,
)

pub blocks-same : {Query : Type 0} (IsBlockOf : Query → List ℕ → Type 0) → IsOneBlock IsBlockOf
    → (queries : List Query) (first second : List ℕ) → AreBlocks IsBlockOf queries first
    → AreBlocks IsBlockOf queries second
    → first ≡ second
blocks-same IsBlockOf only [] first second one two = one ∙ sym two
blocks-same IsBlockOf only (query ∷ queries) first second one two =
    one.4
    ∙ ap (λ (block : List ℕ). block ++ one.1) (only query one.0 two.0 one.2 two.2)
    ∙ ap (λ (rest : List ℕ). two.0 ++ rest) (blocks-same IsBlockOf only queries one.1 two.1 one.3 two.3)
    ∙ sym two.4

pub asked-same : BlocksAreUnique
    → (walks : Bool) (n : ℕ) (arcs : List ArcRec) (growth : Option Growth) (question : Question)
    → IsOneText (AreAskedBlocks walks n arcs growth question)
asked-same law walks n arcs growth absent first second one two = absurd one
asked-same law walks n arcs growth (from_sources sources) first second one two =
    blocks-same (IsGrownBlock walks n arcs growth) (law walks n arcs growth).0 sources first second one two
asked-same law walks n arcs growth (of_pairs pairs) first second one two =
    blocks-same (IsGrownPair walks n arcs growth) (law walks n arcs growth).1 pairs first second one two

pub answer_texts_are_unique : BlocksAreUnique → AnswerTextsAreUnique
answer_texts_are_unique blocks Distances walks job =
    asked-same blocks walks job.n (arcs_for Distances job.arcs) (growth_for Distances job) job.question
answer_texts_are_unique blocks Levels walks job =
    asked-same blocks walks job.n (arcs_for Levels job.arcs) (growth_for Levels job) job.question
answer_texts_are_unique blocks Components walks job =
    (blocks walks job.n (arcs_for Components job.arcs) (growth_for Components job)).2
