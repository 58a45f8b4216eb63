-- The sum of the lowest label that waits and the weight of an arc counts, or less.
use Rattle.std.proofs.Common.{arith}
use Rattle.near_labels.specs.Noted.{rest_of}
use Rattle.near_labels.proofs.both_ends.side_of.Goals as goal

pub returns : goal.returns
returns c =
    let ways = c.args.ways.now in
    let backward = c.args.backward.now in
    let told =
    c.far_by_labels_is_past.ensures ways.csr.now ways.reversed.now c.args.target c.lowest_marked.result ways.least_weight
    (rest_of backward.labels.items backward.marks.items) c.n.ensures.in_rows c.requires.ways.turned c.requires.ways.least
    c.requires.pause c.lowest_marked.ensures in
    record {
      told = λ limit v d below far.
          told limit v d below
          (omega (arith, rw c.deref.ensures.value at far, c.saturating_add-low.ensures, c.from.ensures));
    }
