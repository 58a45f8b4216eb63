use Rattle.std.proofs.Common.{None, false, refl}
use Rattle.least_costs.specs.declared.start.Start.TheVariants.{At}
use Rattle.job_answer.specs.Within.{IsLinesBlock}
use Rattle.answer_lines.specs.Lines.{distances_text}
use Rattle.job_answer.proofs.Sinks.{puts-only}
use Rattle.job_answer.proofs.Told.{bound-served, each-least, reached-for, told}
use Rattle.job_answer.proofs.output.blocks.put_vertices.Goals as goal

pub put_within-requires-clause-walks : goal.put_within-requires-clause-walks
put_within-requires-clause-walks g c =
    let net = c.args.network.now in
    let costs = c.args.costs.now in
    rw (c.bound-bound.ensures, c.labels-labels.ensures.labels)
    (reached-for _ net.n net.arcs c.args.source costs.limit _ costs.labels c.in-Ok.walks c.requires.vertices
    (rw c.limit.ensures.limit at c.limit.ensures.low)
    (bound-served c.args.lines costs.labels costs.limit c.requires.costs.served) c.requires.costs.least
    c.in-Ok.ensures.walks)

pub returns-then-is_plain : goal.returns-then-is_plain
returns-then-is_plain g c =
    let net = c.args.network.now in
    let lines_is = c.is_plain.ensures.0 c.if-is_plain.true in
    let least = each-least net (At c.args.source) false c.args.costs.now (rw lines_is at c.requires.costs) in
    let is_block
    : IsLinesBlock c.args.lines net.n net.arcs c.args.source (distances_text c.args.source c.labels-labels.result.now) =
    rw lines_is
    (record {
      labels = c.labels-labels.result.now;
      least = rw (← c.labels-labels.ensures.labels) at least;
      written = refl;
    }) in
    puts-only g.W.Write.contents ((c.lines_are_unique.ensures c.args.lines net.n net.arcs None).0 c.args.source) is_block
    c.put_all_labels.ensures

pub returns : goal.returns
returns g c =
    let net = c.args.network.now in
    let costs = c.args.costs.now in
    puts-only g.W.Write.contents ((c.lines_are_unique.ensures c.args.lines net.n net.arcs None).0 c.args.source)
    (rw (c.bound-bound.ensures, c.labels-labels.ensures.labels)
    (told c.least_labels_exist.ensures c.hops_and_parents_exist.ensures c.walks_below_agree.ensures net.n net.arcs
    c.args.source costs.limit costs.labels c.requires.vertices c.n.ensures.network.ends c.requires.source
    (rw c.limit.ensures.limit at c.limit.ensures.low) c.requires.costs.least c.args.lines c.in-Ok.walks
    c.requires.lined c.requires.lines c.requires.costs.served c.in-Ok.ensures.walks))
    c.put_within.ensures
