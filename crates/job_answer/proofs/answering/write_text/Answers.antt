use Rattle.std.proofs.Common.{◌∙◌, refl, rules}
use Rattle.std.specs.Prelude.{OnErr, OnOk}
use Rattle.job_answer.specs.Bytes.{Writes, WritesPrefix}
use Rattle.job_answer.specs.Questions.{IsTextOf}
use Rattle.dimacs_text.specs.Jobs.{question_of}
use Rattle.job_answer.specs.Graphs.{growth_of}
use Rattle.job_answer.proofs.Existence.{growth-within, text-exists}
use Rattle.job_answer.proofs.Sinks.{at-err, writes-all, writes-prefix}
use Rattle.job_answer.proofs.Within.{text-same}
use Rattle.job_answer.proofs.answering.write_text.Goals as goal

pub returns-clause-text : goal.returns-clause-text
returns-clause-text g c =
    let question = c.args.question.now in
    let kind = c.args.context.now.asked.now.answer in
    let graphs = question.graphs.now in
    let net = graphs.network in
    let growth = growth_of graphs.grown in
    let only = text-same c.blocks_are_unique.ensures c.lines_are_unique.ensures kind question.lines net.n net.arcs growth
    (question_of question.ask.now) in
    let some = text-exists c.least_labels_exist.ensures c.hops_and_parents_exist.ensures net.n c.requires.are.is.few
    net.arcs growth c.requires.are.is.ends (growth-within net graphs.grown c.requires.are.grows) kind question.lines
    (question_of question.ask.now) c.requires.within c.requires.asked c.requires.sources in
    let given
    : OnOk c.finish.result
    (Writes (IsTextOf kind question) (g.W.Write.contents c.args.writer.now)
    (g.W.Write.contents c.finish.new.self.writer.now)) =
    writes-all g.W.Write.contents only some _ c.put_text.new.sink c.finish.new.self refl
    c.new-waiting.ensures.items c.put_text.ensures c.finish.ensures.still c.finish.ensures.put c.finish.result
    c.finish.ensures.whole c.finish.ensures.none in
    let still = c.finish.ensures.still.writer ∙ c.put_text.ensures.still.writer in
    search rules

pub returns-clause-prefix : goal.returns-clause-prefix
returns-clause-prefix g c =
    let question = c.args.question.now in
    let kind = c.args.context.now.asked.now.answer in
    let graphs = question.graphs.now in
    let net = graphs.network in
    let growth = growth_of graphs.grown in
    let only = text-same c.blocks_are_unique.ensures c.lines_are_unique.ensures kind question.lines net.n net.arcs growth
    (question_of question.ask.now) in
    let some = text-exists c.least_labels_exist.ensures c.hops_and_parents_exist.ensures net.n c.requires.are.is.few
    net.arcs growth c.requires.are.is.ends (growth-within net graphs.grown c.requires.are.grows) kind question.lines
    (question_of question.ask.now) c.requires.within c.requires.asked c.requires.sources in
    let given
    : OnErr c.finish.result
    (WritesPrefix (IsTextOf kind question) (g.W.Write.contents c.args.writer.now)
    (g.W.Write.contents c.finish.new.self.writer.now)) =
    at-err c.finish.result (writes-prefix g.W.Write.contents only some _ c.put_text.new.sink c.finish.new.self
    refl c.new-waiting.ensures.items c.put_text.ensures c.finish.ensures.still c.finish.ensures.put) in
    let still = c.finish.ensures.still.writer ∙ c.put_text.ensures.still.writer in
    search rules
