-- The walks that are told, beside the labels that are listed.
use Rattle.std.proofs.Common.{◌≡◌, ◌∙◌, ◌+◌, ◌<◌, ◌≤◌, ℕ, List, [], ap, get_or, length, min, slice_index, subst, sym}
use Rattle.std.specs.Prelude.{slice_index_or}
use Rattle.std.proofs.lemmas.List.{get_or-map, length-map}
use Rattle.std.proofs.lemmas.List.Elements.{All-get_or}
use Rattle.route_walks.specs.declared.graph.TheConstants.{INF}
use Rattle.walk_report.specs.Told.{IsWalkOf, walks_in}
use Rattle.near_labels.proofs.walks.walks_by_labels.Goals as goal

pub returns-clause-walks : goal.returns-clause-walks
returns-clause-walks c least =
    let csr = c.args.csr.now in
    let targets = c.args.targets.now in
    let label : ℕ → ℕ = slice_index c.args.from.labels.now in
    let told = c.in-Ok.ensures.walks least in
    let listed = c.in_ok-labels.ensures in
    let at : (k : ℕ) → k < length targets
    → slice_index c.in_ok-labels.labels.items k ≡ label (slice_index targets k) =
    λ k lt. ap (λ (xs : List ℕ). get_or xs k 0) listed ∙ get_or-map label targets k 0 0 lt in
    record {
      labels = ap length listed ∙ length-map targets label;
      walks = told.count;
      each = λ k lt.
          subst
          (λ (d : ℕ). IsWalkOf csr.n csr.arcs c.args.from.source (slice_index targets k) d
          (slice_index_or (walks_in c.in-Ok.walks.items) k []))
          (sym (at k lt))
          (told.each k lt
          (All-get_or (λ (t : ℕ). min (label t + 1) INF ≤ c.args.from.limit) targets k 0 lt c.requires.past));
    }
