-- What walks tell of a pair by labels that are least up to a limit.
use Rattle.std.proofs.Common.{◌≡◌, ◌∙◌, ℕ, ◌+◌, ◌<◌, ◌≤◌, List, [], ◌++◌, ap, arith, inl, inr, slice_index, sym, true}
use Rattle.std.specs.Prelude.{◌==◌, if◌then◌else◌, min}
use Rattle.std.proofs.lemmas.Bool.{cases_lt}
use Rattle.answer_lines.specs.Lines.{pair_text, walk_text}
use Rattle.least_costs.proofs.Facts.{start-seeds}
use Rattle.least_costs.specs.declared.start.Start.TheVariants.{At}
use Rattle.route_walks.specs.declared.graph.ArcRec.{ArcRec}
use Rattle.route_walks.specs.declared.graph.TheConstants.{INF, MAX_VERTICES}
use Rattle.route_walks.specs.Existence.{LeastLabelsExist}
use Rattle.route_walks.specs.Label.{AreLeastLabels}
use Rattle.route_walks.specs.Limit.{AreLeastLabelsUpTo}
use Rattle.route_walks.specs.Operators.{seeds_from}
use Rattle.route_walks.specs.Walk.{IsGraph}
use Rattle.walk_report.specs.declared.hop.TheConstants.{NONE}
use Rattle.walk_report.specs.Existence.{HopsAndParentsExist}
use Rattle.walk_report.specs.Printed.{printed_walk, WalksBelowAgree}
use Rattle.job_answer.specs.declared.output.walked_pairs.Walked.{Walked}
use Rattle.job_answer.specs.AnswerText.{AreWalksFrom, IsPairBlock}
use Rattle.job_answer.specs.LineWalks.{AreWalksBelow}
use Rattle.job_answer.specs.Solves.{AreWalkedBelow, walked_text}

-- the lines of a pair, by the label of its target and a walk there
abbrev lines-by : ℕ → ℕ → ℕ → List ℕ → List ℕ
lines-by source t label walk = pair_text source t label ++ (if label == INF then [] else walk_text label walk)

-- where there is no walk, whichever it is makes no difference
lines-without : (source t label label' : ℕ) (walk walk' : List ℕ) → label ≡ INF → label' ≡ INF
    → lines-by source t label walk ≡ lines-by source t label' walk'
lines-without source t label label' walk walk' is is' =
    ap (λ (d : ℕ). lines-by source t d walk) is ∙ sym (ap (λ (d : ℕ). lines-by source t d walk') is')

module _ (limit n : ℕ) (arcs : List ArcRec) (source : ℕ) (labels least : List ℕ) (low : limit ≤ INF)
    (up : AreLeastLabelsUpTo limit n arcs (seeds_from source) labels)
    (whole : AreLeastLabels n arcs (seeds_from source) least) where
  -- a label past a limit that serves it is INF, and so is the least one
  past-is-inf : (t : ℕ) → t < n → min (slice_index labels t + 1) INF ≤ limit → limit ≤ slice_index labels t
      → (slice_index labels t ≡ INF) × (slice_index least t ≡ INF)
  past-is-inf t below served past =
      let here = up.least t below in
      let there = whole.least t below in
      let is : slice_index labels t ≡ INF = omega (arith, here.capped, served, past) in
      elim (cases_lt (slice_index least t) INF) [
        | inr high ↦ (is, omega (arith, there.capped, high))
        | inl small ↦
            elim (here.least _ (there.attained small)) [
              | inl less ↦ absurd (omega (arith, less, is, small))
              | inr far ↦ absurd (omega (arith, far, served, past, here.capped, small))
            ]
      ]

pub walked-below : LeastLabelsExist → HopsAndParentsExist → WalksBelowAgree
    → (limit n : ℕ) (arcs : List ArcRec) (source : ℕ) (walked : Walked)
    → limit ≤ INF → n ≤ MAX_VERTICES → IsGraph n arcs → source < n
    → AreLeastLabelsUpTo limit n arcs (seeds_from source) walked.labels.items
    → AreWalksBelow n arcs source limit walked.labels.items walked.walks
    → AreWalkedBelow limit n arcs source walked
walked-below exist led agree limit n arcs source walked low few graph within up found t below served =
    let labels = walked.labels.items in
    let hops = walked.walks.hops.items in
    let parents = walked.walks.parents.items in
    let (least, whole) = exist n arcs (seeds_from source) graph (start-seeds n (At source) within) in
    let (fewest, nearest, are_hops, are_parents) = led n arcs source least few graph within whole in
    let are : AreWalksFrom n arcs source least fewest nearest =
    record { least = whole; fewest = are_hops; before = are_parents } in
    let block : walked_text (source, t) walked
    ≡ lines-by source t (slice_index least t) (printed_walk (slice_index nearest) (slice_index fewest t) t)
    → IsPairBlock true n arcs (source, t) (walked_text (source, t) walked) =
    λ written. record { labels = least; hops = fewest; parents = nearest; walked = are; written = written } in
    elim (cases_lt (slice_index labels t) limit) [
      | inl small ↦
          let same = agree limit n arcs source least fewest nearest labels hops parents low graph whole are_hops are_parents
          up found.hops found.parents t below small in
          record {
            lines =
                block
                (ap
                (λ (d : ℕ). lines-by source t d (printed_walk (slice_index parents) (slice_index hops t) t)) same.label
                ∙ ap (lines-by source t (slice_index least t)) same.walk);
            count = up.count;
            target = record {
              vertex = omega (arith, below, found.hops.count);
              vertices = omega (arith, few, found.hops.count);
              back = found.back;
              reached = (
                λ (is : slice_index labels t ≡ INF). absurd (omega (arith, is, small, low)),
                λ (none : slice_index hops t ≡ NONE). absurd (omega (arith, none, found.hops.below t below small)),
              );
            };
          }
      | inr past ↦
          let both = past-is-inf limit n arcs source labels least low up whole t below served past in
          record {
            lines =
                block
                (lines-without source t (slice_index labels t) (slice_index least t)
                (printed_walk (slice_index parents) (slice_index hops t) t)
                (printed_walk (slice_index nearest) (slice_index fewest t) t) both.0 both.1);
            count = up.count;
            target = record {
              vertex = omega (arith, below, found.hops.count);
              vertices = omega (arith, few, found.hops.count);
              back = found.back;
              reached = (λ _. found.hops.none t below past, λ _. both.0);
            };
          }
    ]
