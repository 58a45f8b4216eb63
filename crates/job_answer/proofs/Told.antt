-- Costs up to a limit tell the block of a source by any lines.
use Rattle.std.proofs.Common.{◌≡◌, ◌∙◌, ℕ, ◌+◌, ◌<◌, ◌≤◌, Bool, true, false, List, [], ◌∷◌, ◌++◌, Option, None, Some}
use Rattle.std.proofs.Common.{drop, length, get_or, slice_index, suc, refl, subst, sym, ap, ap₂, arith, inl, inr, min, nat_le}
use Rattle.std.specs.Prelude.{◌==◌, if◌then◌else◌, IfSome}
use Rattle.std.proofs.lemmas.Bool.{cases_lt}
use Rattle.std.proofs.lemmas.List.{drop_more}
use Rattle.std.proofs.lemmas.Bool.Decides.{nat_tests}
use Rattle.route_walks.specs.declared.graph.ArcRec.{ArcRec}
use Rattle.route_walks.specs.declared.graph.TheConstants.{INF, MAX_VERTICES}
use Rattle.route_walks.specs.Existence.{LeastLabelsExist}
use Rattle.route_walks.specs.Label.{AreLeastLabels}
use Rattle.route_walks.proofs.Facts.{least_up_to_agrees}
use Rattle.route_walks.specs.Limit.{AreLeastLabelsUpTo}
use Rattle.route_walks.specs.Operators.{seeds_from}
use Rattle.route_walks.specs.Walk.{IsGraph}
use Rattle.obim_engine.specs.Goal.{IsServedBy}
use Rattle.least_costs.proofs.Facts.{start-seeds}
use Rattle.least_costs.specs.Below.{BelowSeen}
use Rattle.least_costs.specs.Network.{NetworkSeen, seeds_at}
use Rattle.least_costs.specs.declared.start.Start.{Start}
use Rattle.least_costs.specs.declared.start.Start.TheVariants.{At, Everywhere}
use Rattle.walk_report.specs.declared.hop.TheConstants.{NONE}
use Rattle.walk_report.specs.Existence.{HopsAndParentsExist}
use Rattle.walk_report.specs.Printed.{WalksBelowAgree}
use Rattle.answer_lines.specs.Lines.{label_lines, label_text, source_text, walk_text}
use Rattle.answer_lines.specs.Raw.{raw_text}
use Rattle.answer_lines.specs.Totals.{totals_text}
use Rattle.job_answer.specs.declared.question.asked.Lines.{Lines}
use Rattle.job_answer.specs.declared.question.asked.Lines.TheVariants as lines
use Rattle.job_answer.specs.declared.output.line_walks.LineWalks.{LineWalks}
use Rattle.job_answer.specs.AnswerText.{AreWalksFrom, vertex_lines, vertex_text}
use Rattle.job_answer.specs.LineWalks.{AreReachedWithin, AreWalksBelow, AreWalksFor, HasVertexLines, bound_of, has_walks}
use Rattle.job_answer.specs.LineWalks.{text_by}
use Rattle.job_answer.proofs.Starts.{whole-costs}
use Rattle.job_answer.specs.Choices.{IsLinesAsked}
use Rattle.job_answer.specs.Solves.{AreCostsFor, IsStartLines, goal_of}
use Rattle.job_answer.specs.Within.{IsLinesBlock, line_within, lines_within, text_within}

-- ---- lines within a bound, as texts

-- lines within a bound are the same, where each label within it and its text are
lines-alike : (bound v : ℕ) (text other : ℕ → ℕ → List ℕ) (xs ys : List ℕ) → length xs ≡ length ys
    → ((k w : ℕ) → k < length xs → w ≡ v + k
    → line_within bound text w (get_or xs k 0) ≡ line_within bound other w (get_or ys k 0))
    → lines_within bound text v xs ≡ lines_within bound other v ys
lines-alike bound v text other [] [] count each = refl
lines-alike bound v text other [] (y ∷ ys) count each = absurd (omega arith)
lines-alike bound v text other (x ∷ xs) [] count each = absurd (omega arith)
lines-alike bound v text other (x ∷ xs) (y ∷ ys) count each =
    ap₂ (λ (line lines : List ℕ). line ++ lines) (each 0 v (omega arith) (omega arith))
    (lines-alike bound (v + 1) text other xs ys (omega arith)
    (λ k w below is. each (suc k) w (omega arith) (omega arith)))

pub lines_within-next : (bound : ℕ) (text : ℕ → ℕ → List ℕ) (v : ℕ) (labels : List ℕ)
    → v < length labels
    → lines_within bound text v (drop v labels)
    ≡ line_within bound text v (get_or labels v 0) ++ lines_within bound text (v + 1) (drop (v + 1) labels)
lines_within-next bound text v labels below = ap (lines_within bound text v) (drop_more labels v 0 below)

-- of labels of at most INF all are within INF
all-labels : (v : ℕ) (labels : List ℕ) → ((k : ℕ) → k < length labels → get_or labels k 0 ≤ INF)
    → lines_within INF label_text v labels ≡ label_lines v labels
all-labels v [] each = refl
all-labels v (label ∷ labels) each =
    let low : label ≤ INF = each 0 (omega arith) in
    let test : nat_le label INF ≡ true = grind (arith, nat_tests) in
    let head : line_within INF label_text v label ≡ label_text v label = rw test refl in
    ap₂ (λ (line lines : List ℕ). line ++ lines) head
    (all-labels (v + 1) labels (λ k below. each (suc k) (omega arith)))

all-walks : (hop parent : ℕ → ℕ) (v : ℕ) (labels : List ℕ) → ((k : ℕ) → k < length labels → get_or labels k 0 ≤ INF)
    → lines_within INF (vertex_text hop parent) v labels ≡ vertex_lines hop parent v labels
all-walks hop parent v [] each = refl
all-walks hop parent v (label ∷ labels) each =
    let low : label ≤ INF = each 0 (omega arith) in
    let test : nat_le label INF ≡ true = grind (arith, nat_tests) in
    let head : line_within INF (vertex_text hop parent) v label ≡ vertex_text hop parent v label = rw test refl in
    ap₂ (λ (line lines : List ℕ). line ++ lines) head
    (all-walks hop parent (v + 1) labels (λ k below. each (suc k) (omega arith)))

-- a line within a bound is the same, if one label is within it exactly if the other is, with one text
line-alike : (bound w x y : ℕ) (text other : ℕ → ℕ → List ℕ)
    → (x ≤ bound → x ≡ y) → (y ≤ bound → x ≡ y) → (x ≤ bound → text w x ≡ other w y)
    → line_within bound text w x ≡ line_within bound other w y
line-alike bound w x y text other here there same =
    elim (cases_lt bound x) [
      | inr few ↦
          let is : x ≡ y = here few in
          let test : nat_le x bound ≡ true = grind (arith, nat_tests) in
          let test' : nat_le y bound ≡ true = rw (← is) test in
          rw (test, test') (same few)
      | inl past ↦
          elim (cases_lt bound y) [
            | inr few ↦ absurd (omega (arith, there few, few, past))
            | inl past' ↦
                let test : nat_le x bound ≡ false = grind (arith, nat_tests) in
                let test' : nat_le y bound ≡ false = grind (arith, nat_tests) in
                rw (test, test') refl
          ]
    ]

-- ---- labels that are least up to a limit, within a bound that it serves

module _ (bound limit n : ℕ) (arcs : List ArcRec) (source : ℕ) (labels least : List ℕ)
    (served : min (bound + 1) INF ≤ limit) (low : limit ≤ INF) (few : bound ≤ INF)
    (up : AreLeastLabelsUpTo limit n arcs (seeds_from source) labels)
    (whole : AreLeastLabels n arcs (seeds_from source) least) where
  same-within : (v : ℕ) → v < n → get_or labels v 0 ≤ bound → get_or labels v 0 ≡ get_or least v 0
  same-within v below within =
      let both = least_up_to_agrees limit arcs (seeds_from source) v (get_or labels v 0) (get_or least v 0) (up.least v below)
      (whole.least v below) in
      omega (arith, both.0, both.1, served, within, (up.least v below).capped, (whole.least v below).capped)

  same-least : (v : ℕ) → v < n → get_or least v 0 ≤ bound → get_or labels v 0 ≡ get_or least v 0
  same-least v below within =
      let both = least_up_to_agrees limit arcs (seeds_from source) v (get_or labels v 0) (get_or least v 0) (up.least v below)
      (whole.least v below) in
      omega (arith, both.0, both.1, served, within, (up.least v below).capped, (whole.least v below).capped)

  labels-alike : lines_within bound label_text 0 labels ≡ lines_within bound label_text 0 least
  labels-alike =
      lines-alike bound 0 label_text label_text labels least (omega (arith, up.count, whole.count))
      (λ k w here is.
      let below : k < n = omega (arith, here, up.count) in
      line-alike bound w (get_or labels k 0) (get_or least k 0) label_text label_text (same-within k below)
      (same-least k below) (λ within. ap (label_text w) (same-within k below within)))

  -- and their walks, where those below the limit are at hand
  module _ (agree : WalksBelowAgree) (graph : IsGraph n arcs) (walks : LineWalks) (hops parents : List ℕ)
      (are : AreWalksFrom n arcs source least hops parents)
      (found : AreWalksBelow n arcs source limit labels walks) where
    text-alike : (v : ℕ) → v < n → get_or labels v 0 ≤ bound
        → text_by (Some walks) v (get_or labels v 0)
        ≡ vertex_text (slice_index hops) (slice_index parents) v (get_or least v 0)
    text-alike v below within =
        let is : get_or labels v 0 ≡ get_or least v 0 = same-within v below within in
        elim (cases_lt (get_or labels v 0) INF) [
          | inl small ↦
              let near : slice_index labels v < limit = omega (arith, small, within, served) in
              let same = agree limit n arcs source least hops parents labels walks.hops.items walks.parents.items low
              graph whole are.fewest are.before up found.hops found.parents v below near in
              let walk : List ℕ → List ℕ = λ vertices.
              label_text v (get_or labels v 0)
              ++ (if get_or labels v 0 == INF then [] else walk_text (get_or labels v 0) vertices) in
              ap walk same.walk ∙ ap (vertex_text (slice_index hops) (slice_index parents) v) is
          | inr high ↦
              let none : get_or labels v 0 ≡ INF = omega (arith, high, (up.least v below).capped) in
              let none' : get_or least v 0 ≡ INF = sym is ∙ none in
              ap (text_by (Some walks) v) none ∙ sym (ap (vertex_text (slice_index hops) (slice_index parents) v) none')
        ]

    walks-alike : lines_within bound (text_by (Some walks)) 0 labels
        ≡ lines_within bound (vertex_text (slice_index hops) (slice_index parents)) 0 least
    walks-alike =
        lines-alike bound 0 (text_by (Some walks)) (vertex_text (slice_index hops) (slice_index parents)) labels least
        (omega (arith, up.count, whole.count))
        (λ k w here is.
        let below : k < n = omega (arith, here, up.count) in
        let same : k ≡ w = omega arith in
        subst
        (λ (x : ℕ).
        line_within bound (text_by (Some walks)) x (get_or labels k 0)
        ≡ line_within bound (vertex_text (slice_index hops) (slice_index parents)) x (get_or least k 0))
        same
        (line-alike bound k (get_or labels k 0) (get_or least k 0) (text_by (Some walks))
        (vertex_text (slice_index hops) (slice_index parents)) (same-within k below) (same-least k below)
        (text-alike k below)))

-- ---- the block of a source

-- the bound of lines is one that the limit serves
pub bound-served : (lines : Lines) (labels : List ℕ) (limit : ℕ) → IsServedBy (goal_of lines) labels limit
    → min (bound_of lines + 1) INF ≤ limit
bound-served (lines.Each walks) labels limit served = omega (arith, served)
bound-served (lines.Within walks bound) labels limit served = served
bound-served (lines.Raw pairs) labels limit served = omega (arith, served)
bound-served lines.Totals labels limit served = omega (arith, served)

module _ (exist : LeastLabelsExist) (led : HopsAndParentsExist) (agree : WalksBelowAgree) (n : ℕ) (arcs : List ArcRec)
    (source limit : ℕ) (labels : List ℕ) (few : n ≤ MAX_VERTICES) (graph : IsGraph n arcs) (within : source < n)
    (low : limit ≤ INF) (up : AreLeastLabelsUpTo limit n arcs (seeds_from source) labels) where
  -- the least labels that there are
  some-least : (least : List ℕ) × AreLeastLabels n arcs (seeds_from source) least
  some-least = exist n arcs (seeds_from source) graph (start-seeds n (At source) within)

  -- the walks by them
  some-walks : (hops parents : List ℕ) × AreWalksFrom n arcs source some-least.0 hops parents
  some-walks =
      let found = led n arcs source some-least.0 few graph within some-least.1 in
      (found.0, found.1, record { least = some-least.1; fewest = found.2; before = found.3 })

  capped : (k : ℕ) → k < length some-least.0 → get_or some-least.0 k 0 ≤ INF
  capped k below = (some-least.1.least k (omega (arith, below, some-least.1.count))).capped

  -- what is written of them is the block of the source
  pub told : (lines : Lines) (walks : Option LineWalks) → HasVertexLines lines → IsLinesAsked lines
      → IsServedBy (goal_of lines) labels limit
      → AreWalksFor (has_walks lines) n arcs source limit labels walks
      → IsLinesBlock lines n arcs source
      (text_within source (bound_of lines) (text_by walks) labels)
  told (lines.Each false) None lined asked served found =
      let least = some-least.0 in
      let alike = labels-alike INF limit n arcs source labels least (bound-served (lines.Each false) labels limit served)
      low (omega arith) up some-least.1 in
      record {
        labels = least;
        least = some-least.1;
        written = ap (λ (text : List ℕ). source_text source ++ text) (alike ∙ all-labels 0 least capped);
      }
  told (lines.Each false) (Some walks) lined asked served found = absurd found
  told (lines.Each true) None lined asked served found = absurd found
  told (lines.Each true) (Some walks) lined asked served found =
      let least = some-least.0 in
      let (hops, parents, are) = some-walks in
      let alike = walks-alike INF limit n arcs source labels least (bound-served (lines.Each true) labels limit served) low
      (omega arith) up some-least.1 agree graph walks hops parents are found in
      record {
        labels = least;
        hops = hops;
        parents = parents;
        walked = are;
        written =
            ap (λ (text : List ℕ). source_text source ++ text)
            (alike ∙ all-walks (slice_index hops) (slice_index parents) 0 least capped);
      }
  told (lines.Within false bound) None lined asked served found = record {
    labels = some-least.0;
    least = some-least.1;
    written =
        ap (λ (text : List ℕ). source_text source ++ text)
        (labels-alike bound limit n arcs source labels some-least.0 served low (omega (arith, asked bound refl)) up some-least.1);
  }
  told (lines.Within false bound) (Some walks) lined asked served found = absurd found
  told (lines.Within true bound) None lined asked served found = absurd found
  told (lines.Within true bound) (Some walks) lined asked served found =
      let (hops, parents, are) = some-walks in
      record {
        labels = some-least.0;
        hops = hops;
        parents = parents;
        walked = are;
        written =
            ap (λ (text : List ℕ). source_text source ++ text)
            (walks-alike bound limit n arcs source labels some-least.0 served low (omega (arith, asked bound refl)) up some-least.1
            agree graph walks hops parents are found);
      }
  told (lines.Raw pairs) walks lined asked served found = absurd lined
  told lines.Totals walks lined asked served found = absurd lined

-- each label within the bound of lines that have walks has one, unless it is INF
pub reached-within : (n : ℕ) (arcs : List ArcRec) (source limit bound : ℕ) (labels : List ℕ) (walks : LineWalks)
    → n ≤ MAX_VERTICES → limit ≤ INF → min (bound + 1) INF ≤ limit
    → AreLeastLabelsUpTo limit n arcs (seeds_from source) labels
    → AreWalksBelow n arcs source limit labels walks
    → AreReachedWithin bound labels walks
reached-within n arcs source limit bound labels walks few low served up found v here within =
    let below : v < n = omega (arith, here, up.count) in
    record {
      vertex = omega (arith, below, found.hops.count);
      vertices = omega (arith, few, found.hops.count);
      back = found.back;
      reached = (
        λ (is : slice_index labels v ≡ INF). found.hops.none v below (omega (arith, is, low)),
        λ (none : slice_index walks.hops.items v ≡ NONE).
            elim (cases_lt (slice_index labels v) limit) [
              | inl small ↦ absurd (omega (arith, none, found.hops.below v below small))
              | inr past ↦ omega (arith, past, within, served, (up.least v below).capped)
            ],
      );
    }

-- the labels from everywhere are least, whichever lines are asked for
pub everywhere-least : (net : NetworkSeen) (lines : Lines) (costs : BelowSeen) → IsStartLines Everywhere lines
    → AreCostsFor net Everywhere (goal_of lines) costs
    → AreLeastLabels net.n net.arcs (seeds_at net.n Everywhere) costs.labels
everywhere-least net (lines.Each walks) costs asked are = (whole-costs net Everywhere costs are).least
everywhere-least net (lines.Within walks bound) costs asked are = absurd asked
everywhere-least net (lines.Raw pairs) costs asked are = absurd asked
everywhere-least net lines.Totals costs asked are = absurd asked

-- and so are those from a source, where each vertex has a line
pub each-least : (net : NetworkSeen) (from : Start) (walks : Bool) (costs : BelowSeen)
    → AreCostsFor net from (goal_of (lines.Each walks)) costs
    → AreLeastLabels net.n net.arcs (seeds_at net.n from) costs.labels
each-least net from walks costs are = (whole-costs net from costs are).least

-- these are the labels of a block in short
pub raw-told : (net : NetworkSeen) (source : ℕ) (by : Lines) (pairs : Bool) (costs : BelowSeen) (labels : List ℕ)
    → by ≡ lines.Raw pairs
    → AreCostsFor net (At source) (goal_of by) costs → labels ≡ costs.labels
    → IsLinesBlock by net.n net.arcs source (raw_text source labels)
raw-told net source by pairs costs labels is are same =
    rw (is, same)
    (record {
      labels = costs.labels;
      least = each-least net (At source) false costs (rw is at are);
      written = refl;
    })

pub totals-told : (net : NetworkSeen) (source : ℕ) (by : Lines) (costs : BelowSeen) (labels : List ℕ) → by ≡ lines.Totals
    → AreCostsFor net (At source) (goal_of by) costs → labels ≡ costs.labels
    → IsLinesBlock by net.n net.arcs source (totals_text source labels)
totals-told net source by costs labels is are same =
    rw (is, same)
    (record {
      labels = costs.labels;
      least = each-least net (At source) false costs (rw is at are);
      written = refl;
    })

pub reached-for : (has : Bool) (n : ℕ) (arcs : List ArcRec) (source limit bound : ℕ) (labels : List ℕ)
    (walks : Option LineWalks)
    → n ≤ MAX_VERTICES → limit ≤ INF → min (bound + 1) INF ≤ limit
    → AreLeastLabelsUpTo limit n arcs (seeds_from source) labels
    → AreWalksFor has n arcs source limit labels walks
    → IfSome walks (AreReachedWithin bound labels)
reached-for true n arcs source limit bound labels None few low served up found = tt
reached-for true n arcs source limit bound labels (Some walks) few low served up found =
    reached-within n arcs source limit bound labels walks few low served up found
reached-for false n arcs source limit bound labels None few low served up found = tt
reached-for false n arcs source limit bound labels (Some walks) few low served up found = absurd found
