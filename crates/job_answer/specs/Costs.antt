-- What an answer says of each vertex: by walks and paths alone, without labels and seeds.
use Rattle.std.specs.Prelude.{◌≡◌, ◌≢◌, ℕ, zero, suc, ◌+◌, ◌≤◌, Bool, false, List, [], ◌∷◌, ◌++◌}
use Rattle.std.specs.Prelude.{codes, decimal, length, map}
use Rattle.route_walks.specs.declared.graph.ArcRec.{ArcRec}
use Rattle.route_walks.specs.Component.{IsComponentLabel}
use Rattle.route_walks.specs.Walk.{IsWalk, cost}
use Rattle.answer_lines.specs.Lines.{source_text, cost_line, pair_line, walk_text, component_text}
use Rattle.dimacs_text.specs.Jobs.{Content, from_sources, of_pairs, IsWithinLimits}
use Rattle.job_answer.specs.AnswerText.{AreBlocks, IsAnswerText, IsGrownText, arcs_for, growth_for, growth_from}
use Rattle.job_answer.specs.declared.question.asked.Answer.{Answer}
use Rattle.job_answer.specs.declared.question.asked.Answer.TheVariants.{Components}

-- the text of the cost from the source to v: 'inf' if there is no walk, else what the cheapest costs
pub data IsCostText (arcs : List ArcRec) (source v : ℕ) (text : List ℕ) : Type 0 where
  unreached : text ≡ codes "inf"
      → ((walk : List ArcRec) → ¬ (IsWalk arcs source walk v))
      → IsCostText arcs source v text
  reached : (cheapest : List ArcRec)
      → IsWalk arcs source cheapest v
      → ((walk : List ArcRec) → IsWalk arcs source walk v → cost cheapest ≤ cost walk)
      → text ≡ decimal (cost cheapest)
      → IsCostText arcs source v text

-- the line of the walk from the source to v: nothing if walks aren't asked for or there is none; else the vertices of a
-- cheapest walk with the fewest arcs
pub data IsWalkLine (walks : Bool) (arcs : List ArcRec) (source v : ℕ) (text : List ℕ) : Type 0 where
  unasked : walks ≡ false
      → text ≡ []
      → IsWalkLine walks arcs source v text
  no_walk : ((walk : List ArcRec) → ¬ (IsWalk arcs source walk v))
      → text ≡ []
      → IsWalkLine walks arcs source v text
  shortest : (walk : List ArcRec)
      → IsWalk arcs source walk v
      → ((other : List ArcRec) → IsWalk arcs source other v → cost walk ≤ cost other)
      → ((other : List ArcRec) → IsWalk arcs source other v → cost other ≡ cost walk → length walk ≤ length other)
      → text ≡ walk_text (cost walk) (source ∷ map (λ arc. arc.head) walk)
      → IsWalkLine walks arcs source v text

-- the lines of `count` vertices from v on: 'd V COST' for each, and perhaps that of a walk
abbrev pub AreCostLines : Bool → List ArcRec → ℕ → ℕ → ℕ → List ℕ → Type 0
AreCostLines walks arcs source v zero text = text ≡ []
AreCostLines walks arcs source v (suc count) text =
    (cost_of_v : List ℕ)
    × (walk_to_v : List ℕ)
    × (rest : List ℕ)
    × IsCostText arcs source v cost_of_v
    × IsWalkLine walks arcs source v walk_to_v
    × AreCostLines walks arcs source (v + 1) count rest
    × (text ≡ cost_line v cost_of_v ++ walk_to_v ++ rest)

-- a block says the cost from its source to each of n vertices, in order, with the walks
abbrev pub SaysCosts : Bool → ℕ → List ArcRec → ℕ → List ℕ → Type 0
SaysCosts walks n arcs source block =
    (lines : List ℕ)
    × AreCostLines walks arcs source 0 n lines
    × (block ≡ source_text source ++ lines)

-- the blocks of distances and levels say the costs from the job's sources along its arcs, where each counts 1 for
-- levels; if the job adds arcs, after each block the costs along all arcs
abbrev pub AnswersSayCosts : Type 0
AnswersSayCosts =
    (kind : Answer) (walks : Bool) (job : Content) (sources text : List ℕ)
    → kind ≢ Components
    → job.question ≡ from_sources sources
    → IsWithinLimits job
    → IsAnswerText kind walks job text
    → AreBlocks
    (λ source. IsGrownText (λ arcs. SaysCosts walks job.n arcs source) (arcs_for kind job.arcs) (growth_for kind job))
    sources text

-- the lines of a pair say the cost from its source to its target, with the walk
abbrev pub SaysPairCost : Bool → List ArcRec → ℕ × ℕ → List ℕ → Type 0
SaysPairCost walks arcs pair block =
    (cost_of_target : List ℕ)
    × (walk_to_target : List ℕ)
    × IsCostText arcs pair.0 pair.1 cost_of_target
    × IsWalkLine walks arcs pair.0 pair.1 walk_to_target
    × (block ≡ pair_line pair.0 pair.1 cost_of_target ++ walk_to_target)

-- so do the lines of pairs
abbrev pub AnswersSayPairCosts : Type 0
AnswersSayPairCosts =
    (kind : Answer) (walks : Bool) (job : Content) (pairs : List (ℕ × ℕ)) (text : List ℕ)
    → kind ≢ Components
    → job.question ≡ of_pairs pairs
    → IsWithinLimits job
    → IsAnswerText kind walks job text
    → AreBlocks
    (λ pair. IsGrownText (λ arcs. SaysPairCost walks arcs pair) (arcs_for kind job.arcs) (growth_for kind job))
    pairs text

-- the lines of `count` vertices from v on: 'k V LABEL', of the least vertex connected with each
abbrev pub AreComponentLines : List ArcRec → ℕ → ℕ → List ℕ → Type 0
AreComponentLines arcs v zero text = text ≡ []
AreComponentLines arcs v (suc count) text =
    (least : ℕ)
    × (rest : List ℕ)
    × IsComponentLabel arcs v least
    × AreComponentLines arcs (v + 1) count rest
    × (text ≡ component_text v least ++ rest)

-- the lines of components say the least vertex connected along the job's arcs; if arcs are added, after them along all
-- arcs
abbrev pub AnswersSayComponents : Type 0
AnswersSayComponents =
    (walks : Bool) (job : Content) (text : List ℕ)
    → IsWithinLimits job
    → IsAnswerText Components walks job text
    → IsGrownText (λ arcs. AreComponentLines arcs 0 job.n) job.arcs (growth_from (λ arcs. arcs) job.arcs job.added) text
