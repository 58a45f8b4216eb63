use Rattle.session_answer.specs.Changes.{change_seen, changed_by}
use Rattle.session_answer.proofs.session.Session.changed.Goals as goal

pub returns-clause-holds : goal.returns-clause-holds
returns-clause-holds g c graph holds =
    let after = changed_by graph (change_seen c.args.change.now) in
    let weights = c.in_ok-changed.ensures.holds graph holds.weights holds.arcs in
    let arcs = c.in_ok-changed.ensures.arcs graph holds.weights holds.arcs in
    c.put.ensures.graph after (record { weights = weights; arcs = arcs; other = tt })
    (c.in_ok-graph.ensures.holds after weights)
