use Rattle.std.proofs.Common.{◌≡◌, ◌<◌, ◌≤◌, sym, subst, ℕ}
use Rattle.std.specs.Prelude.{slice_index}
use Rattle.std.proofs.lemmas.List.{length-map, get_or-map}
use Rattle.std.proofs.lemmas.List.Elements.{All-get_or}
use Rattle.std.proofs.lemmas.Option.{IfSome_then}
use Rattle.route_walks.specs.Label.{IsLeast}
use Rattle.route_walks.specs.Operators.{seeds_from}
use Rattle.near_labels.proofs.space.least_of.Goals as goal

pub returns : goal.returns
returns c =
    let arcs = c.args.csr.now.arcs in
    let seeds = seeds_from c.args.source in
    let labels = c.args.labels.now in
    let vertices = c.args.vertices.now in
    IfSome_then c.labels_of.result c.labels_of.ensures (λ found is. record {
      count = rw is (length-map vertices (slice_index labels));
      least = λ k lt.
          let v = slice_index vertices k in
          let below = All-get_or (λ (w : ℕ). w < c.args.csr.now.n) vertices k 0 lt c.requires.vertices in
          let near = All-get_or (λ (w : ℕ). slice_index labels w ≤ c.args.limit) vertices k 0 lt c.requires.near in
          let here : slice_index found.items k ≡ slice_index labels v =
          rw is (get_or-map (slice_index labels) vertices k 0 0 lt) in
          subst (IsLeast arcs seeds v) (sym here)
          (c.least_up_to_a_limit.ensures.least c.args.limit arcs seeds v _ (c.requires.least.least v below) near);
    })
