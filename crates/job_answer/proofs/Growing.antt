-- A block, and where the graph grows what comes after it.
use Rattle.std.proofs.Common.{◌≡◌, ℕ, ◌<◌, ◌∙◌, Bool, List, ◌++◌, Option, Some, None, true, false, length, get_or}
use Rattle.std.proofs.Common.{refl, sym, subst, ap, append_assoc}
use Rattle.least_costs.specs.declared.cost.Cost.{Cost}
use Rattle.least_costs.specs.Costs.{label_of}
use Rattle.least_costs.specs.Laws.{CostsAreLabels, NetworksGrow}
use Rattle.least_costs.specs.Network.{GrowsTo, IsNetwork, IsNetworkOf, NetworkSeen, arcs_of}
use Rattle.least_costs.specs.Pairs.{ArePairCosts, IsPairCost, pair_at}
use Rattle.dimacs_text.specs.Jobs.{IsPairWithin}
use Rattle.std.specs.List.{All}
use Rattle.std.proofs.lemmas.List.Elements.{All-get_or}
use Rattle.route_walks.specs.declared.graph.ArcRec.{ArcRec}
use Rattle.answer_lines.specs.Lines.{grown_text}
use Rattle.job_answer.specs.declared.question.graphs.GrownNetwork.{GrownNetwork}
use Rattle.job_answer.specs.declared.output.walked_pairs.Walked.{Walked}
use Rattle.least_costs.specs.declared.start.Start.{Start}
use Rattle.least_costs.specs.declared.start.Start.TheVariants.{At, Everywhere}
use Rattle.job_answer.specs.AnswerText.{AreBlocks, AreBothTexts, BlocksAreUnique, Growth, IsGrownPair, IsGrownText}
use Rattle.job_answer.specs.AnswerText.{IsOneText, IsPairBlock, IsPairLabel, pair_label_text}
use Rattle.route_walks.specs.Walk.{HaveSameArcs}
use Rattle.job_answer.specs.declared.question.asked.Answer.{Answer}
use Rattle.job_answer.specs.declared.question.asked.Answer.TheVariants.{Distances, Levels, Components}
use Rattle.job_answer.specs.AnswerText.{arcs_for, growth_from}
use Rattle.job_answer.specs.Graphs.{GrowAlike, GrowsInto, cost_for, growth_of}
use Rattle.job_answer.specs.declared.question.asked.Lines.{Lines}
use Rattle.job_answer.specs.declared.question.asked.Lines.TheVariants as lines
use Rattle.job_answer.specs.LineWalks.{has_raw_pairs, has_walks}
use Rattle.job_answer.specs.Within.{AreLinesPairs, IsGrownLinesPair, LinesAreUnique}
use Rattle.job_answer.specs.Solves.{AreCostsAfter, IsRest, IsStartBlock, IsWalked}
use Rattle.job_answer.specs.Solves.{IsWalkedAfter}
use Rattle.job_answer.specs.Solves.{walked_text, walked_after_text, with_growth}

-- ---- a block, and what comes after it

module _ (IsTextOf : List ArcRec → List ℕ → Type 0) (arcs : List ArcRec) (growth : Growth) where
  pub both-join : (a b : List ℕ) → IsTextOf arcs a → IsRest growth.count (IsTextOf growth.arcs) b
      → AreBothTexts IsTextOf arcs growth (a ++ b)
  both-join a b first rest = record {
    before = a;
    after = rest.block;
    first = first;
    second = rest.is_block;
    written =
        ap (λ (xs : List ℕ). a ++ xs) rest.written ∙ sym (append_assoc a (grown_text growth.count) rest.block);
  }

  pub both-split : (text : List ℕ) → AreBothTexts IsTextOf arcs growth text
      → (a : List ℕ) × (b : List ℕ) × IsTextOf arcs a × IsRest growth.count (IsTextOf growth.arcs) b × (text ≡ a ++ b)
  both-split text both = (
    both.before,
    grown_text growth.count ++ both.after,
    both.first,
    record { block = both.after; is_block = both.second; written = refl },
    both.written ∙ append_assoc both.before (grown_text growth.count) both.after,
  )

-- a start has only one block
pub start-one : LinesAreUnique → BlocksAreUnique → (lines : Lines) (n : ℕ) (arcs : List ArcRec) (start : Start)
    → IsOneText (IsStartBlock lines start n arcs)
start-one law blocks lines n arcs (At source) = (law lines n arcs None).0 source
start-one law blocks lines n arcs Everywhere = (blocks false n arcs None).2

-- ---- the lines of a pair

-- by its cost in a network
cost-line : CostsAreLabels → (raw : Bool) (net : NetworkSeen) (pair : ℕ × ℕ) (cost : Option ℕ) → IsNetwork net
    → IsPairWithin net.n pair → IsPairCost net pair cost
    → IsPairLabel raw net.n net.arcs pair (pair_label_text raw pair (label_of cost))
cost-line law raw net pair cost is within told =
    let found = law net (At pair.0) pair.1 cost is within.0 within.1 told in record {
      labels = found.0;
      least = found.1;
      written = ap (pair_label_text raw pair) found.2;
    }

-- and in both
grown-label : CostsAreLabels → (raw : Bool) (net : NetworkSeen) (grown : Option GrownNetwork) (pairs : List (ℕ × ℕ))
    (costs after : List (Option ℕ)) (k : ℕ)
    → IsNetwork net → GrowsInto net grown → All (IsPairWithin net.n) pairs
    → ArePairCosts net pairs costs → AreCostsAfter grown pairs after
    → k < length pairs
    → IsGrownText (λ along. IsPairLabel raw net.n along (pair_at pairs k)) net.arcs (growth_of grown)
    (with_growth (growth_of grown)
    (pair_label_text raw (pair_at pairs k) (label_of (get_or costs k None)))
    (pair_label_text raw (pair_at pairs k) (label_of (get_or after k None))))
grown-label law raw net None pairs costs after k is grows within are later here =
    let inside = All-get_or (IsPairWithin net.n) pairs k (0, 0) here within in
    cost-line law raw net (pair_at pairs k) (get_or costs k None) is inside (are.each k here)
grown-label law raw net (Some grown) pairs costs after k is grows within are later here =
    let inside = All-get_or (IsPairWithin net.n) pairs k (0, 0) here within in
    let pair = pair_at pairs k in
    let there : IsPairWithin grown.network.n pair =
    subst (λ (n : ℕ). IsPairWithin n pair) (sym grows.to.vertices) inside in
    let line = cost-line law raw grown.network pair (get_or after k None) grows.is there (later.each k here) in record {
      before = pair_label_text raw pair (label_of (get_or costs k None));
      after = pair_label_text raw pair (label_of (get_or after k None));
      first = cost-line law raw net pair (get_or costs k None) is inside (are.each k here);
      second =
          subst
          (λ (n : ℕ).
          IsPairLabel raw n grown.network.arcs pair (pair_label_text raw pair (label_of (get_or after k None))))
          grows.to.vertices line;
      written = refl;
    }

-- by lines without walks it is the text of the pair
label-lines : (lines : Lines) (n : ℕ) (arcs : List ArcRec) (growth : Option Growth) (pair : ℕ × ℕ) (text : List ℕ)
    → has_walks lines ≡ false
    → IsGrownText (λ along. IsPairLabel (has_raw_pairs lines) n along pair) arcs growth text
    → IsGrownLinesPair lines n arcs growth pair text
label-lines (lines.Each false) n arcs growth pair text plain is = is
label-lines (lines.Each true) n arcs growth pair text plain is = cc
label-lines (lines.Within false bound) n arcs growth pair text plain is = is
label-lines (lines.Within true bound) n arcs growth pair text plain is = cc
label-lines (lines.Raw pairs) n arcs growth pair text plain is = is
label-lines lines.Totals n arcs growth pair text plain is = is

pub label-block : CostsAreLabels → (lines : Lines) (raw : Bool) (net : NetworkSeen) (grown : Option GrownNetwork)
    (pairs : List (ℕ × ℕ)) (costs after : List (Option ℕ)) (k : ℕ)
    → has_walks lines ≡ false → raw ≡ has_raw_pairs lines
    → IsNetwork net → GrowsInto net grown → All (IsPairWithin net.n) pairs
    → ArePairCosts net pairs costs → AreCostsAfter grown pairs after
    → k < length pairs
    → IsGrownLinesPair lines net.n net.arcs (growth_of grown) (pair_at pairs k)
    (with_growth (growth_of grown)
    (pair_label_text raw (pair_at pairs k) (label_of (get_or costs k None)))
    (pair_label_text raw (pair_at pairs k) (label_of (get_or after k None))))
label-block law lines raw net grown pairs costs after k plain bytes is grows within are later here =
    rw bytes
    (label-lines lines net.n net.arcs (growth_of grown) (pair_at pairs k) _ plain
    (grown-label law (has_raw_pairs lines) net grown pairs costs after k is grows within are later here))

-- the texts of pairs by lines that have walks are those with walks
pub walked-lines : (lines : Lines) (n : ℕ) (arcs : List ArcRec) (growth : Option Growth) (pairs : List (ℕ × ℕ))
    (text : List ℕ) → has_walks lines ≡ true
    → AreLinesPairs lines n arcs growth pairs text
    → AreBlocks (IsGrownPair true n arcs growth) pairs text
walked-lines (lines.Each true) n arcs growth pairs text walks is = is
walked-lines (lines.Each false) n arcs growth pairs text walks is = cc
walked-lines (lines.Within true bound) n arcs growth pairs text walks is = is
walked-lines (lines.Within false bound) n arcs growth pairs text walks is = cc
walked-lines (lines.Raw pairs) n arcs growth all text walks is = cc
walked-lines lines.Totals n arcs growth pairs text walks is = cc

-- by the walks in both
pub walked-blocks : (net : NetworkSeen) (grown : Option GrownNetwork) (pair : ℕ × ℕ) (walked : Walked) (after : Option Walked)
    → GrowsInto net grown → IsWalked net.n net.arcs pair walked → IsWalkedAfter grown pair after
    → IsGrownPair true net.n net.arcs (growth_of grown) pair
    (with_growth (growth_of grown) (walked_text pair walked) (walked_after_text pair after))
walked-blocks net None pair walked after grows is later = is.lines
walked-blocks net (Some grown) pair walked None grows is later = absurd later
walked-blocks net (Some grown) pair walked (Some after) grows is later = record {
  before = walked_text pair walked;
  after = walked_text pair after;
  first = is.lines;
  second =
      subst (λ (n : ℕ). IsPairBlock true n grown.network.arcs pair (walked_text pair after)) grows.to.vertices
      later.lines;
  written = refl;
}

-- ---- the networks of a job

-- a network of an answer kind has the arcs along which its costs are least
pub along-kind : (kind : Answer) (n : ℕ) (arcs : List ArcRec) (net : NetworkSeen)
    → IsNetworkOf n (cost_for kind) arcs net
    → HaveSameArcs net.arcs (arcs_for kind arcs)
along-kind Distances n arcs net is = is.along
along-kind Levels n arcs net is = is.along
along-kind Components n arcs net is = is.along

-- and it grows by the job's added arcs as the job does
pub grown-alike : NetworksGrow → (kind : Answer) (n : ℕ) (arcs added : List ArcRec) (net : NetworkSeen) (grown : GrownNetwork)
    → grown.count ≡ length added → IsNetworkOf n (cost_for kind) arcs net → GrowsTo net grown.network
    → grown.network.cost ≡ net.cost → grown.network.added ≡ arcs_of net.cost added
    → GrowAlike (growth_of (Some grown)) (growth_from (arcs_for kind) arcs (Some added))
grown-alike law kind n arcs added net grown count is grows cost more = (
  count,
  along-kind kind n (arcs ++ added) grown.network
      (law n (cost_for kind) arcs added net grown.network is grows cost
      (more ∙ ap (λ (k : Cost). arcs_of k added) is.kind_is)),
)
