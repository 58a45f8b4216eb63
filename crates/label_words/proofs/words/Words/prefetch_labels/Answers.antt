-- A head of a row is a vertex.
use Rattle.std.proofs.Common.{◌<◌, ap, arith}
use Rattle.std.specs.Prelude.{All}
use Rattle.std.proofs.lemmas.List.Elements.{All-take}
use Rattle.csr_graph.specs.declared.target.Target.{Target}
use Rattle.csr_graph.proofs.Facts.{row_heads}
use Rattle.label_words.proofs.words.Words.prefetch_labels.Goals as goal

pub prefetch_label-requires-clause-vertex : goal.prefetch_label-requires-clause-vertex
prefetch_label-requires-clause-vertex c =
    let graph = c.args.csr.now in
    let IsHead = λ (target : Target). target.head < graph.n in
    let all : All IsHead c.row-row.result.now =
    rw c.row-row.ensures.targets (row_heads graph c.row-row.ensures.in_rows c.args.u) in
    let head = All-take IsHead c.min.result c.row-row.result.now all c.loop-target.target-index
    (record { head = 0; weight = 0 }) c.loop-target-test.true in
    omega (arith, head, ap (λ g. g.n) c.requires.graph)
