-- Blocks by lines: there is one of each, and within a bound it says what costs no more.
use Rattle.std.proofs.Common.{◌≡◌, ◌≢◌, ◌∙◌, Bool, true, false, ℕ, ◌+◌, ◌<◌, List, [], ◌∷◌, ◌++◌, Option, None}
use Rattle.std.proofs.Common.{length, get_or, slice_index, suc, refl, subst, sym, ap, arith, inl, inr, nat_le, if◌then◌else◌}
use Rattle.std.proofs.lemmas.Bool.{cases_lt}
use Rattle.std.proofs.lemmas.Bool.Decides.{nat_tests}
use Rattle.std.proofs.lemmas.List.{append-nil}
use Rattle.route_walks.specs.declared.graph.ArcRec.{ArcRec}
use Rattle.route_walks.specs.declared.graph.TheConstants.{INF}
use Rattle.route_walks.proofs.Facts.{attained-by_walk, walk-of_attained}
use Rattle.route_walks.specs.Label.{AreLeastLabels, InfMeansNoWalk, LeastLabelsAreUnique}
use Rattle.route_walks.specs.Operators.{seeds_from}
use Rattle.route_walks.specs.Walk.{cost}
use Rattle.walk_report.specs.Parent.{HopsAndParentsAreUnique}
use Rattle.walk_report.specs.Printed.{PrintedWalksAreWalks}
use Rattle.answer_lines.specs.Lines.{cost_text, label_text, source_text}
use Rattle.answer_lines.specs.Raw.{raw_text}
use Rattle.answer_lines.specs.Totals.{totals_text}
use Rattle.dimacs_text.specs.Jobs.{Content, Question, absent, from_sources, of_pairs}
use Rattle.dimacs_text.specs.Jobs.{IsQuestionWithin, IsWithinLimits}
use Rattle.job_answer.specs.declared.question.asked.Answer.{Answer}
use Rattle.job_answer.specs.declared.question.asked.Answer.TheVariants.{Distances, Levels, Components}
use Rattle.job_answer.specs.declared.question.asked.Lines.{Lines}
use Rattle.job_answer.specs.declared.question.asked.Lines.TheVariants as lines
use Rattle.job_answer.specs.AnswerText.{AreBlocks, BlocksAreUnique, Growth, IsOneBlock}
use Rattle.job_answer.specs.AnswerText.{IsGrownText, IsOneText, arcs_for, growth_for, vertex_text, walk_line}
use Rattle.job_answer.specs.Costs.{IsCostText, IsWalkLine, unasked}
use Rattle.job_answer.specs.Within.{AnswerTextsByLinesAreUnique, AnswersSayCostsWithin, AreLinesFrom, AreLinesOf}
use Rattle.job_answer.specs.Within.{AreBlocksInShort, AreBlocksWithin, IsGrownLines, IsGrownLinesPair, IsLinesBlock}
use Rattle.job_answer.specs.Within.{IsLinesPair, IsTextBy, IsTextInShort}
use Rattle.job_answer.specs.Within.{LinesAreUnique, SaysCostsWithin, beyond, line_within, lines_within, near}
use Rattle.job_answer.proofs.Costs.{AreLight, blocks_say, grown_says, label_is_cost, light_all, light_arcs, light_kind}
use Rattle.job_answer.proofs.Costs.{line_is_walk}
use Rattle.job_answer.proofs.Uniqueness.{asked-same, blocks-same, grown-same, labels-same, pair-label-same, walks-same}

-- ---- there is one

module _ (law : LeastLabelsAreUnique) (walked : HopsAndParentsAreUnique) (blocks : BlocksAreUnique) (n : ℕ)
    (arcs : List ArcRec) where
  lines-same : (lines : Lines) → IsOneBlock (IsLinesBlock lines n arcs)
  lines-same (lines.Each walks) source first second one two = (blocks walks n arcs None).0 source first second one two
  lines-same (lines.Within false bound) source first second one two =
      one.written
      ∙ ap (λ (labels : List ℕ). source_text source ++ lines_within bound label_text 0 labels)
      (labels-same law n arcs (seeds_from source) one.labels two.labels one.least two.least)
      ∙ sym two.written
  lines-same (lines.Within true bound) source first second one two =
      let same = walks-same law walked n arcs source one.labels one.hops one.parents two.labels two.hops two.parents
      one.walked two.walked in
      let text : List ℕ → List ℕ → List ℕ → List ℕ = λ labels hops parents.
      source_text source ++ lines_within bound (vertex_text (slice_index hops) (slice_index parents)) 0 labels in
      one.written
      ∙ ap (λ (labels : List ℕ). text labels one.hops one.parents) same.0
      ∙ ap (λ (hops : List ℕ). text two.labels hops one.parents) same.1
      ∙ ap (λ (parents : List ℕ). text two.labels two.hops parents) same.2
      ∙ sym two.written
  lines-same (lines.Raw pairs) source first second one two =
      one.written
      ∙ ap (raw_text source) (labels-same law n arcs (seeds_from source) one.labels two.labels one.least two.least)
      ∙ sym two.written
  lines-same lines.Totals source first second one two =
      one.written
      ∙ ap (totals_text source) (labels-same law n arcs (seeds_from source) one.labels two.labels one.least two.least)
      ∙ sym two.written

  lines-pair-same : (lines : Lines) → IsOneBlock (IsLinesPair lines n arcs)
  lines-pair-same (lines.Each walks) pair = (blocks walks n arcs None).1 pair
  lines-pair-same (lines.Within walks bound) pair = (blocks walks n arcs None).1 pair
  lines-pair-same (lines.Raw pairs) pair = pair-label-same law walked n arcs pairs pair
  lines-pair-same lines.Totals pair = pair-label-same law walked n arcs false pair

pub lines_are_unique : LeastLabelsAreUnique → HopsAndParentsAreUnique → BlocksAreUnique → LinesAreUnique
lines_are_unique law walked blocks lines n arcs growth = (
  λ source.
      grown-same (λ along. IsLinesBlock lines n along source)
      (λ along. lines-same law walked blocks n along lines source) arcs growth,
  λ pair.
      grown-same (λ along. IsLinesPair lines n along pair)
      (λ along. lines-pair-same law walked blocks n along lines pair) arcs growth,
)

within-same : LinesAreUnique → (walks : Bool) (bound n : ℕ) (arcs : List ArcRec) (growth : Option Growth)
    (question : Question) → IsOneText (AreBlocksWithin walks bound n arcs growth question)
within-same law walks bound n arcs growth absent first second one two = absurd one
within-same law walks bound n arcs growth (from_sources sources) first second one two =
    blocks-same (IsGrownLines (lines.Within walks bound) n arcs growth) (law (lines.Within walks bound) n arcs growth).0
    sources first second one two
within-same law walks bound n arcs growth (of_pairs pairs) first second one two = absurd one

module _ (blocks : BlocksAreUnique) (law : LinesAreUnique) (by : Lines) (n : ℕ) (arcs : List ArcRec)
    (growth : Option Growth) where
  short-same : (question : Question) → IsOneText (AreBlocksInShort by n arcs growth question)
  short-same absent first second one two = absurd one
  short-same (from_sources sources) first second one two =
      blocks-same (IsGrownLines by n arcs growth) (law by n arcs growth).0 sources first second one two
  short-same (of_pairs pairs) first second one two =
      blocks-same (IsGrownLinesPair by n arcs growth) (law by n arcs growth).1 pairs first second one two

  text-in-short-same : (kind : Answer) (question : Question) → IsOneText (IsTextInShort kind by n arcs growth question)
  text-in-short-same Distances question = short-same question
  text-in-short-same Levels question = short-same question
  text-in-short-same Components question = (blocks false n arcs growth).2

-- there is only one text by some lines
pub text-same : BlocksAreUnique → LinesAreUnique → (kind : Answer) (by : Lines) (n : ℕ) (arcs : List ArcRec)
    (growth : Option Growth) (question : Question)
    → IsOneText (IsTextBy kind by n arcs growth question)
text-same blocks law Distances (lines.Each walks) n arcs growth question = asked-same blocks walks n arcs growth question
text-same blocks law Levels (lines.Each walks) n arcs growth question = asked-same blocks walks n arcs growth question
text-same blocks law Components (lines.Each walks) n arcs growth question = (blocks walks n arcs growth).2
text-same blocks law Distances (lines.Within walks bound) n arcs growth question =
    within-same law walks bound n arcs growth question
text-same blocks law Levels (lines.Within walks bound) n arcs growth question =
    within-same law walks bound n arcs growth question
text-same blocks law Components (lines.Within walks bound) n arcs growth question = (blocks walks n arcs growth).2
text-same blocks law kind (lines.Raw pairs) n arcs growth question =
    text-in-short-same blocks law (lines.Raw pairs) n arcs growth kind question
text-same blocks law kind lines.Totals n arcs growth question =
    text-in-short-same blocks law lines.Totals n arcs growth kind question

pub answer_texts_by_lines_are_unique : BlocksAreUnique → LinesAreUnique → AnswerTextsByLinesAreUnique
answer_texts_by_lines_are_unique blocks law kind by job =
    text-same blocks law kind by job.n (arcs_for kind job.arcs) (growth_for kind job) job.question

-- ---- what it says

-- the lines of a label that is within the bound, and of one that is not
line_says : (walks : Bool) (bound n : ℕ) (arcs : List ArcRec) (source : ℕ) (labels : List ℕ)
    → bound < INF → AreLeastLabels n arcs (seeds_from source) labels
    → (v : ℕ) → v < n → (walk_to_v line : List ℕ)
    → IsCostText arcs source v (cost_text (get_or labels v 0)) → IsWalkLine walks arcs source v walk_to_v
    → line ≡ label_text v (get_or labels v 0) ++ walk_to_v
    → AreLinesOf walks bound arcs source v (if nat_le (get_or labels v 0) bound then line else [])
line_says walks bound n arcs source labels low least v below walk_to_v line says walked is =
    let here = least.least v below in
    elim (cases_lt bound (get_or labels v 0)) [
      | inr few ↦
          let test : nat_le (get_or labels v 0) bound ≡ true = grind (arith, nat_tests) in
          let found = walk-of_attained arcs source v (get_or labels v 0) (here.attained (omega (arith, few, low))) in
          near found.0 found.1 (omega (arith, found.2, few)) (cost_text (get_or labels v 0)) walk_to_v says walked
          (rw test is)
      | inl past ↦
          let test : nat_le (get_or labels v 0) bound ≡ false = grind (arith, nat_tests) in
          beyond
          (λ walk walks. omega (arith, past, here.least (cost walk) (attained-by_walk arcs source v walk walks)))
          (rw test refl)
    ]

-- what is said of each vertex is said by the lines of all
lines_say : (walks : Bool) (bound : ℕ) (arcs : List ArcRec) (source v : ℕ) (text : ℕ → ℕ → List ℕ) (labels : List ℕ)
    → ((k w : ℕ) → k < length labels → w ≡ v + k
    → AreLinesOf walks bound arcs source w (line_within bound text w (get_or labels k 0)))
    → AreLinesFrom walks bound arcs source v (length labels) (lines_within bound text v labels)
lines_say walks bound arcs source v text [] each = refl
lines_say walks bound arcs source v text (label ∷ labels) each = (
  line_within bound text v label,
  lines_within bound text (v + 1) labels,
  each 0 v (omega arith) (omega arith),
  lines_say walks bound arcs source (v + 1) text labels (λ k w below is. each (suc k) w (omega arith) (omega arith)),
  refl,
)

module _ (law : InfMeansNoWalk) (printed : PrintedWalksAreWalks) (bound n : ℕ) (low : bound < INF)
    (arcs : List ArcRec) (light : AreLight n arcs) (source : ℕ) (within : source < n) where
  block_says : (walks : Bool) (text : List ℕ) → IsLinesBlock (lines.Within walks bound) n arcs source text
      → SaysCostsWithin walks bound n arcs source text
  block_says false text block = (
    lines_within bound label_text 0 block.labels,
    subst (λ (m : ℕ). AreLinesFrom false bound arcs source 0 m (lines_within bound label_text 0 block.labels))
        block.least.count
        (lines_say false bound arcs source 0 label_text block.labels
        (λ k w below is.
        let same : k ≡ w = omega arith in
        let inside : k < n = omega (arith, below, block.least.count) in
        subst
        (λ (x : ℕ).
        AreLinesOf false bound arcs source x
        (line_within bound label_text x (get_or block.labels k 0)))
        same
        (line_says false bound n arcs source block.labels low block.least k inside []
        (label_text k (get_or block.labels k 0))
        (label_is_cost law n arcs source block.labels light within block.least k inside) (unasked refl refl)
        (sym (append-nil (label_text k (get_or block.labels k 0))))))),
    block.written,
  )
  block_says true text block =
      let are = block.walked in
      let hop = slice_index block.hops in
      let parent = slice_index block.parents in (
        lines_within bound (vertex_text hop parent) 0 block.labels,
        subst
            (λ (m : ℕ).
            AreLinesFrom true bound arcs source 0 m (lines_within bound (vertex_text hop parent) 0 block.labels))
            are.least.count
            (lines_say true bound arcs source 0 (vertex_text hop parent) block.labels
            (λ k w below is.
            let same : k ≡ w = omega arith in
            let inside : k < n = omega (arith, below, are.least.count) in
            subst
            (λ (x : ℕ).
            AreLinesOf true bound arcs source x
            (line_within bound (vertex_text hop parent) x (get_or block.labels k 0)))
            same
            (line_says true bound n arcs source block.labels low are.least k inside
            (walk_line hop parent k (get_or block.labels k 0))
            (vertex_text hop parent k (get_or block.labels k 0))
            (label_is_cost law n arcs source block.labels light within are.least k inside)
            (line_is_walk law printed n arcs source block.labels block.hops block.parents light within are.least
            are.fewest are.before k inside)
            refl))),
        block.written,
      )

module _ (law : InfMeansNoWalk) (printed : PrintedWalksAreWalks) (kind : Answer) (walks : Bool) (bound : ℕ)
    (job : Content) (other : kind ≢ Components) (low : bound < INF) (limits : IsWithinLimits job) (text : List ℕ) where
  sources_say_within : (sources : List ℕ) → job.question ≡ from_sources sources
      → AreBlocksWithin walks bound job.n (arcs_for kind job.arcs) (growth_for kind job) job.question text
      → AreBlocks
      (λ source.
      IsGrownText (λ arcs. SaysCostsWithin walks bound job.n arcs source) (arcs_for kind job.arcs) (growth_for kind job))
      sources text
  sources_say_within sources asked answered =
      blocks_say (λ v. v < job.n)
      (IsGrownLines (lines.Within walks bound) job.n (arcs_for kind job.arcs) (growth_for kind job))
      (λ source.
      IsGrownText (λ arcs. SaysCostsWithin walks bound job.n arcs source) (arcs_for kind job.arcs) (growth_for kind job))
      (λ source block within.
      grown_says (arcs_for kind) (arcs_for kind) (AreLight job.n)
      (λ along. IsLinesBlock (lines.Within walks bound) job.n along source)
      (λ arcs. SaysCostsWithin walks bound job.n arcs source)
      (λ arcs are.
      block_says law printed bound job.n low (arcs_for kind arcs) (light_kind kind job.n arcs other are) source within
      walks)
      job.arcs job.added (light_arcs job.n job.arcs limits.vertices limits.arcs)
      (light_all job.n job.arcs job.added limits.vertices limits.arcs limits.added) block)
      sources text (subst (IsQuestionWithin job.n) asked limits.question).1
      (subst
      (λ (q : Question). AreBlocksWithin walks bound job.n (arcs_for kind job.arcs) (growth_for kind job) q text) asked
      answered)

pub answers_say_costs_within : InfMeansNoWalk → PrintedWalksAreWalks → AnswersSayCostsWithin
answers_say_costs_within law printed Distances walks bound job sources text other low asked limits answered =
    sources_say_within law printed Distances walks bound job other low limits text sources asked answered
answers_say_costs_within law printed Levels walks bound job sources text other low asked limits answered =
    sources_say_within law printed Levels walks bound job other low limits text sources asked answered
answers_say_costs_within law printed Components walks bound job sources text other low asked limits answered =
    absurd (other refl)
