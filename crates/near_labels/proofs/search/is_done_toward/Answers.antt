use Rattle.route_walks.specs.Operators.{seeds_from}
use Rattle.near_labels.specs.Noted.{rest_of}
use Rattle.near_labels.proofs.search.is_done_toward.Goals as goal

pub returns : goal.returns
returns c =
    let state = c.args.state.now in
    λ past are.
    c.far_pauses_are_least.ensures c.farthest-limit.result c.args.csr.now (seeds_from c.args.source) c.args.bounds.now
    (rest_of state.labels.items state.marks.items) c.n.ensures.in_rows c.requires.pause are (c.is_marked_far.ensures past)
    c.requires.targets (rw c.deref.ensures.value at c.farthest-limit.ensures)
