-- Least labels with marks are a pause, whichever vertices are marked.
use Rattle.std.proofs.Common.{◌≡◌, ◌∙◌, ℕ, List, Bool, inl, length}
use Rattle.std.specs.Prelude.{slice_index}
use Rattle.std.proofs.lemmas.List.Elements.{All-contains}
use Rattle.std.proofs.lemmas.Option.{get_or_from_slice_get, slice_get_within}
use Rattle.route_walks.specs.declared.graph.Seed.{Seed}
use Rattle.route_walks.specs.Walk.{AreSeeds}
use Rattle.route_walks.specs.Label.{IsRelaxed, AreLeastLabels}
use Rattle.route_walks.proofs.Facts.{least_labels_are_settled}
use Rattle.csr_graph.specs.Graph.{Graph, IsInRows}
use Rattle.label_words.specs.Paused.{IsPause}

pub least_pause : (graph : Graph) (seeds : List Seed) (labels : List ℕ) (marks : List Bool) → IsInRows graph
    → AreSeeds graph.n seeds → AreLeastLabels graph.n graph.arcs seeds labels → length marks ≡ length labels
    → IsPause graph seeds record { labels = labels; marks = marks }
least_pause graph seeds labels marks rows within least count =
    let label = slice_index labels in
    let settled = least_labels_are_settled graph.n graph.arcs seeds label rows.ends within least.least in
    record {
      going = record {
        labels = least.count;
        marks = count ∙ least.count;
        waits = λ k arc is.
            inl (All-contains (IsRelaxed label) graph.arcs arc settled.1.relaxed
            (k, slice_get_within graph.arcs k arc is, get_or_from_slice_get graph.arcs k arc arc is));
      };
      capped = settled.0;
      sound = settled.2;
      met = settled.1.met;
    }
