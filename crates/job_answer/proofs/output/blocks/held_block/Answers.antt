use Rattle.std.proofs.Common.{◌∙◌, refl, rules, sym}
use Rattle.job_answer.specs.Graphs.{growth_of}
use Rattle.job_answer.proofs.Existence.{growth-within, lines-exist}
use Rattle.job_answer.proofs.Sinks.{kept-text}
use Rattle.job_answer.proofs.output.blocks.held_block.Goals as goal

pub returns : goal.returns
returns g c =
    let graphs = c.args.question.now.graphs.now in
    let net = graphs.network in
    let some = lines-exist c.least_labels_exist.ensures c.hops_and_parents_exist.ensures net.n c.requires.graphs.is.few
    net.arcs (growth_of graphs.grown) c.requires.graphs.is.ends (growth-within net graphs.grown c.requires.graphs.grows)
    c.args.question.now.lines c.args.source c.requires.source in
    let kept = kept-text _ some _ _ refl c.new-bytes.ensures.items refl refl
    (sym c.has_stopped.ensures ∙ c.if-has_stopped.false) c.put_solved.ensures in
    let same = c.put_solved.ensures.still.waiting in
    search rules
