use Rattle.std.proofs.Common.{◌∙◌, ℕ, List, sym}
use Rattle.route_walks.specs.declared.graph.ArcRec.{ArcRec}
use Rattle.job_answer.specs.AnswerText.{Growth}
use Rattle.job_answer.specs.Graphs.{HasGrown}
use Rattle.job_answer.specs.Solves.{IsStartBlock}
use Rattle.job_answer.proofs.Growing.{both-split}
use Rattle.job_answer.proofs.Sinks.{puts-then, stopped, stops}
use Rattle.job_answer.proofs.output.blocks.put_solved.Goals as goal

pub returns-then-has_stopped : goal.returns-then-has_stopped
returns-then-has_stopped g c =
    let graphs = c.args.question.now.graphs.now in
    let grown = c.in-Some-grown.grown in
    let growth : Growth = record { count = grown.count; arcs = grown.network.arcs } in
    let block : List ArcRec → List ℕ → Type 0 = IsStartBlock c.args.question.now.lines c.args.start graphs.network.n in
    rw c.in-Some-grown.is
    (puts-then g.W.Write.contents (both-split block graphs.network.arcs growth) c.put_block.ensures
    (stopped g.W.Write.contents c.put_block.new.sink (sym c.has_stopped.ensures ∙ c.if-has_stopped.true)))

pub returns-in_default-costs_after : goal.returns-in_default-costs_after
returns-in_default-costs_after g c =
    let graphs = c.args.question.now.graphs.now in
    let grown = c.in-Some-grown.grown in
    let growth : Growth = record { count = grown.count; arcs = grown.network.arcs } in
    let block : List ArcRec → List ℕ → Type 0 = IsStartBlock c.args.question.now.lines c.args.start graphs.network.n in
    rw c.in-Some-grown.is
    (puts-then g.W.Write.contents (both-split block graphs.network.arcs growth) c.put_block.ensures
    (stops g.W.Write.contents c.fail-in_default-costs_after.ensures))

pub returns : goal.returns
returns g c =
    let graphs = c.args.question.now.graphs.now in
    let grown = c.in-Some-grown.grown in
    let growth : Growth = record { count = grown.count; arcs = grown.network.arcs } in
    let block : List ArcRec → List ℕ → Type 0 = IsStartBlock c.args.question.now.lines c.args.start graphs.network.n in
    let grows : HasGrown graphs.network grown = rw c.in-Some-grown.is at c.requires.graphs.grows in
    rw c.in-Some-grown.is
    (puts-then g.W.Write.contents (both-split block graphs.network.arcs growth) c.put_block.ensures
    (rw grows.to.vertices at c.put_grown_block.ensures))
