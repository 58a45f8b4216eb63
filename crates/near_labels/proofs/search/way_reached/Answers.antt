use Rattle.std.proofs.Common.{get_or, arith}
use Rattle.route_walks.specs.Operators.{seeds_from}
use Rattle.near_labels.specs.Noted.{rest_of}
use Rattle.near_labels.proofs.Noting.{source-label}
use Rattle.near_labels.proofs.search.way_reached.Goals as goal

pub returns-then-is_marked_far-clause-start : goal.returns-then-is_marked_far-clause-start
returns-then-is_marked_far-clause-start c =
    let state = c.args.state.now in
    source-label c.args.csr.now c.args.source (rest_of state.labels.items state.marks.items) c.requires.pause

pub returns-then-is_marked_far-clause-least : goal.returns-then-is_marked_far-clause-least
returns-then-is_marked_far-clause-least c bounds k d lt =
    let state = c.args.state.now in
    let graph = c.args.csr.now in
    c.pauses_are_least_toward.ensures _ graph (seeds_from c.args.source)
    (get_or c.args.bounds.now.targets.now k d) (rest_of state.labels.items state.marks.items) c.n.ensures.in_rows c.requires.pause
    (λ v below marked.
    c.is_marked_far.ensures c.if-is_marked_far.true v (omega (arith, below, c.requires.pause.going.marks)) marked graph
    bounds below k d lt)

pub returns-then-is_marked_far-clause-past : goal.returns-then-is_marked_far-clause-past
returns-then-is_marked_far-clause-past c k d lt =
    omega (arith, (rw c.deref.ensures.value at c.farthest.ensures) k d lt, c.saturating_add-limit.ensures)
