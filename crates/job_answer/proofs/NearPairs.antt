-- The lines of a pair by a walk found without workers are those of the one-thread definition.
use Rattle.std.proofs.Common.{◌≡◌, ◌∙◌, ℕ, ◌<◌, ◌≤◌, List, [], ◌∷◌, ◌++◌, ap, arith, inl, inr, length, refl, slice_index, sym, true, false}
use Rattle.std.proofs.Common.{◌+◌, None, get_or}
use Rattle.std.specs.Prelude.{◌==◌, All, slice_index_or}
use Rattle.std.specs.declared.vec.Vec.{Vec}
use Rattle.std.specs.declared.alloc.Global.{Global}
use Rattle.std.proofs.lemmas.List.{get_or-map, get_or_read}
use Rattle.std.proofs.lemmas.List.Elements.{All-get_or}
use Rattle.std.proofs.lemmas.Bool.{cases_lt}
use Rattle.std.proofs.lemmas.Bool.Decides.{nat_tests}
use Rattle.answer_lines.specs.Lines.{pair_text, walk_text}
use Rattle.least_costs.proofs.Facts.{start-seeds}
use Rattle.least_costs.specs.declared.start.Start.TheVariants.{At}
use Rattle.route_walks.specs.declared.graph.ArcRec.{ArcRec}
use Rattle.route_walks.specs.declared.graph.TheConstants.{INF, MAX_VERTICES}
use Rattle.route_walks.specs.Existence.{LeastLabelsExist}
use Rattle.route_walks.specs.Operators.{seeds_from}
use Rattle.route_walks.specs.Walk.{IsGraph}
use Rattle.walk_report.specs.Existence.{HopsAndParentsExist}
use Rattle.walk_report.specs.Hop.{AreHops}
use Rattle.walk_report.specs.Parent.{AreParents}
use Rattle.route_walks.specs.Label.{AreLeastLabels}
use Rattle.walk_report.specs.Told.{IsWalkOf, walks_in}
use Rattle.near_labels.specs.Found.{AreWalksFound}
use Rattle.near_labels.specs.declared.walks.WalksFound.{WalksFound}
use Rattle.least_costs.specs.Network.{IsNetwork}
use Rattle.least_costs.specs.Pairs.{pair_at}
use Rattle.dimacs_text.specs.Jobs.{IsPairWithin}
use Rattle.job_answer.specs.declared.question.graphs.Graphs.{Graphs}
use Rattle.job_answer.specs.declared.solving.solves.Solve.{Solve}
use Rattle.job_answer.specs.AnswerText.{IsPairBlock, walk_line}
use Rattle.job_answer.specs.NearPairs.{found_text, walk_part}
use Rattle.job_answer.specs.Solves.{AreTargetsOf, IsForQueries}
use Rattle.job_answer.specs.Tasks.{IsWalkedBlock}
use Rattle.job_answer.proofs.Queries.{one_source}

-- a walk that has vertices has its line
part-some : (label : ℕ) (walk : List ℕ) → 0 < length walk → walk_part label walk ≡ walk_text label walk
part-some label [] some = absurd (omega (arith, some))
part-some label (v ∷ walk) some = refl

-- the line of a walk that was found is the one that labels, hops and parents tell
pub walk-line : (n : ℕ) (arcs : List ArcRec) (source t label : ℕ) (walk least fewest nearest : List ℕ)
    → AreLeastLabels n arcs (seeds_from source) least → AreHops n arcs source least fewest → AreParents n arcs least fewest nearest
    → t < n → IsWalkOf n arcs source t label walk
    → walk_part label walk ≡ walk_line (slice_index fewest) (slice_index nearest) t label
walk-line n arcs source t label walk least fewest nearest whole are_hops are_parents below is =
    let told = is.told least fewest nearest whole are_hops are_parents in
    let capped : label ≤ INF = omega (arith, told.label, (whole.least t below).capped) in
    elim (cases_lt label INF) [
      | inl small ↦
          let test : (label == INF) ≡ false = grind (arith, nat_tests) in
          rw test (part-some label walk (is.some small) ∙ ap (walk_text label) (told.walk small))
      | inr other ↦
          let none : label ≡ INF = omega (arith, other, capped) in
          let test : (label == INF) ≡ true = grind (arith, nat_tests) in
          rw test (ap (walk_part label) (is.none none))
    ]

pub found-block : LeastLabelsExist → HopsAndParentsExist
    → (n : ℕ) (arcs : List ArcRec) (source t label : ℕ) (walk : List ℕ)
    → n ≤ MAX_VERTICES → IsGraph n arcs → source < n → t < n
    → IsWalkOf n arcs source t label walk
    → IsPairBlock true n arcs (source, t) (found_text source t label walk)
found-block exist led n arcs source t label walk few graph within below is =
    let (least, whole) = exist n arcs (seeds_from source) graph (start-seeds n (At source) within) in
    let (fewest, nearest, are_hops, are_parents) = led n arcs source least few graph within whole in
    let told = is.told least fewest nearest whole are_hops are_parents in
    let line = walk-line n arcs source t label walk least fewest nearest whole are_hops are_parents below is in
    record {
      labels = least;
      hops = fewest;
      parents = nearest;
      walked = record { least = whole; fewest = are_hops; before = are_parents };
      written =
          rw told.label (ap (λ part. pair_text source t label ++ part) line);
    }

-- what was found for the pairs of a solve gives the lines of each, by the label and walk at its place
pub found-lines : LeastLabelsExist → HopsAndParentsExist → (graphs : Graphs) (pairs : List (ℕ × ℕ)) (solve : Solve)
    (targets : List ℕ) (found : WalksFound) (k label : ℕ) (vector : Vec ℕ Global) (walk : List ℕ)
    → IsNetwork graphs.network → graphs.grown ≡ None → All (IsPairWithin graphs.network.n) pairs
    → IsForQueries pairs solve → AreTargetsOf pairs solve.first solve.end targets
    → AreWalksFound graphs.network.n graphs.network.arcs (pair_at pairs solve.first).0 targets found
    → k < length targets → label ≡ get_or found.labels.items k label → vector ≡ get_or found.walks.items k vector
    → walk ≡ vector.items
    → IsWalkedBlock graphs (pair_at pairs (solve.first + k))
    (found_text (pair_at pairs (solve.first + k)).0 (pair_at pairs (solve.first + k)).1 label walk)
found-lines exist led graphs pairs solve targets found k label vector walk is alone within for aims are here reads too same =
    let n = graphs.network.n in
    let arcs = graphs.network.arcs in
    let place = solve.first + k in
    let pair = pair_at pairs place in
    let walks = found.walks.items in
    let in-walks : k < length walks = omega (arith, here, are.walks) in
    let label-is : label ≡ slice_index found.labels.items k =
    get_or_read found.labels.items k label (omega (arith, here, are.labels)) reads 0 in
    let walk-is : slice_index_or (walks_in walks) k [] ≡ walk =
    get_or-map (λ (v : Vec ℕ Global). v.items) walks k vector [] in-walks
    ∙ sym (ap (λ (v : Vec ℕ Global). v.items) (get_or_read walks k vector in-walks too vector)) ∙ sym same in
    let last : place < solve.end = omega (arith, here, aims.count) in
    let ends = All-get_or (IsPairWithin n) pairs place (0, 0) (omega (arith, last, for.within)) within in
    let source : (pair_at pairs solve.first).0 ≡ pair.0 = one_source pairs solve place for (omega arith) last in
    let told : IsWalkOf n arcs pair.0 pair.1 label walk =
    rw (label-is, ← walk-is, ← aims.each k here, ← source) (are.each k here) in
    rw alone
    (found-block exist led n arcs pair.0 pair.1 label walk is.few is.ends ends.0 ends.1 told)
