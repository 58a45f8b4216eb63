use Rattle.route_walks.specs.Operators.{seeds_from}
use Rattle.near_labels.specs.Noted.{rest_of}
use Rattle.near_labels.proofs.Noting.{source-label}
use Rattle.near_labels.proofs.search.limit_reached.Goals as goal

pub returns-then-is_unmarked_below-clause-start : goal.returns-then-is_unmarked_below-clause-start
returns-then-is_unmarked_below-clause-start c =
    let state = c.args.state.now in
    source-label c.args.csr.now c.args.source (rest_of state.labels.items state.marks.items) c.requires.pause

pub returns-then-is_unmarked_below-clause-least : goal.returns-then-is_unmarked_below-clause-least
returns-then-is_unmarked_below-clause-least c =
    let state = c.args.state.now in
    c.pauses_are_least_up_to.ensures _ c.args.csr.now (seeds_from c.args.source)
    (rest_of state.labels.items state.marks.items) c.n.ensures.in_rows c.requires.pause
    (c.is_unmarked_below.ensures c.if-is_unmarked_below.true)
