use Rattle.std.proofs.Common.{◌≡◌, ◌<◌, sym, subst, ℕ, length, arith}
use Rattle.std.specs.Prelude.{Contains, slice_index}
use Rattle.std.proofs.lemmas.List.{length-map, get_or-map}
use Rattle.std.proofs.lemmas.List.Elements.{All-contains, All-get_or, All-weaker}
use Rattle.std.proofs.lemmas.Option.{IfSome_then}
use Rattle.near_labels.specs.UpDown.{IsLeastUpDown}
use Rattle.near_labels.proofs.space.labels_above.Goals as goal

pub labels_of-requires : goal.labels_of-requires
labels_of-requires c =
    let order = c.args.order.now in
    All-weaker (Contains order) (λ (t : ℕ). t < length c.args.labels.now)
    (λ t within.
    omega (arith, c.requires.count, All-contains (λ (v : ℕ). v < c.args.down.now.n) order t c.requires.order within))
    c.args.targets.now c.requires.targets

pub returns : goal.returns
returns c =
    let ups = c.args.up.now.arcs in
    let downs = c.args.down.now.arcs in
    let order = c.args.order.now in
    let labels = c.args.labels.now in
    let targets = c.args.targets.now in
    IfSome_then c.labels_of.result c.labels_of.ensures (λ found is. record {
      count = rw is (length-map targets (slice_index labels));
      least = λ k lt.
          let t = slice_index targets k in
          let within = All-get_or (Contains order) targets k 0 lt c.requires.targets in
          let below = All-contains (λ (v : ℕ). v < c.args.down.now.n) order t c.requires.order within in
          let here : slice_index found.items k ≡ slice_index labels t =
          rw is (get_or-map (slice_index labels) targets k 0 0 lt) in
          subst (IsLeastUpDown ups downs c.args.source t) (sym here) (c.requires.least t below within);
    })
