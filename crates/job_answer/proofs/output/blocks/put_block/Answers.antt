use Rattle.std.proofs.Common.{None, false, refl, arith}
use Rattle.least_costs.specs.Network.{seeds_at}
use Rattle.least_costs.specs.declared.start.Start.TheVariants.{Everywhere}
use Rattle.route_walks.specs.Label.{AreLeastLabels}
use Rattle.job_answer.proofs.Sinks.{puts-only}
use Rattle.job_answer.proofs.Starts.{labels-finite}
use Rattle.job_answer.proofs.Told.{everywhere-least}
use Rattle.job_answer.proofs.output.blocks.put_block.Goals as goal

pub put_component_lines-requires-clause-finite : goal.put_component_lines-requires-clause-finite
put_component_lines-requires-clause-finite g c =
    let net = c.args.network.now in
    let least : AreLeastLabels net.n net.arcs (seeds_at net.n Everywhere) c.args.costs.now.labels =
    everywhere-least net c.args.lines c.args.costs.now (rw c.in-Everywhere.is at c.requires.lines)
    (rw c.in-Everywhere.is at c.requires.costs) in
    labels-finite net.n net.arcs c.labels.result.now (omega (arith, c.requires.vertices))
    (rw (← c.labels.ensures.labels) at least)

pub returns-in-Everywhere : goal.returns-in-Everywhere
returns-in-Everywhere g c =
    let net = c.args.network.now in
    let least : AreLeastLabels net.n net.arcs (seeds_at net.n Everywhere) c.args.costs.now.labels =
    everywhere-least net c.args.lines c.args.costs.now (rw c.in-Everywhere.is at c.requires.lines)
    (rw c.in-Everywhere.is at c.requires.costs) in
    rw c.in-Everywhere.is
    (puts-only g.W.Write.contents (c.blocks_are_unique.ensures false net.n net.arcs None).2
    (record { labels = c.labels.result.now; least = rw (← c.labels.ensures.labels) at least; written = refl })
    c.put_component_lines.ensures)
