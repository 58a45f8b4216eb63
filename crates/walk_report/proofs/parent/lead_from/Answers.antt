-- Each turn passes one more arc of the row.
use Rattle.std.proofs.Common.{◌∙◌, ◌≤◌, ℕ, sym, get_or, slice_index, arith}
use Rattle.std.proofs.lemmas.Bool.{false≢true}
use Rattle.csr_graph.proofs.Facts.{row_arcs, no_target}
use Rattle.walk_report.specs.Parent.{IsLeading}
use Rattle.walk_report.proofs.Filling.{filled-pass, filled-put, filled-all}
use Rattle.walk_report.proofs.Tails.{led-put, led-all, led-past}
use Rattle.walk_report.proofs.parent.lead_from.Goals as goal
use Rattle.walk_report.proofs.parent.lead_from.Goals.{then-is_leading+then-tail-parents, else-is_leading}
use Rattle.walk_report.proofs.parent.lead_from.Goals.{else-is_leading-via-then-is_leading+else-tail-parents}
use Rattle.walk_report.proofs.parent.lead_from.Goals.{else-is_leading-via-else-is_leading}

pub returns-then-hops-tail : goal.returns-then-hops-tail
returns-then-hops-tail c = led-past c.if-hops-tail.true (λ v. omega (arith, c.type_inv.hops v))

pub is_leading-requires-clause-head : goal.is_leading-requires-clause-head
is_leading-requires-clause-head c =
    let row = c.row-head-items.ensures in
    let at = row_arcs c.args.csr.now row.in_rows c.args.tail _ row.targets c.loop-head.head-index no_target
    (omega arith) in
    (omega (arith, at.1, c.requires.labels), omega (arith, at.1, c.requires.hops))

pub loop-head-preserved : goal.loop-head-preserved
loop-head-preserved c =
    let row = c.row-head-items.result.now in
    let rows = c.row-head-items.ensures.in_rows in
    let k = c.loop-head.head-index in
    let tail = c.args.tail in
    let parents = c.loop-head.parents in
    let at = row_arcs c.args.csr.now rows tail row c.row-head-items.ensures.targets k no_target (omega arith) in
    let Leads = IsLeading (slice_index c.args.labels.now) (slice_index c.args.hops.now) in
    let IsLow : ℕ → Type 0 = λ parent. parent ≤ tail in
    let inv = c.loop-head.invariant in
    elim c.if-is_leading.branch [
      | then-is_leading+then-tail-parents b ↦
          rw b.parents-is (
            led-put inv.0 (get_or row k no_target) at
                (c.is_leading.ensures.0 b.if-is_leading.true) b.if-tail-parents.true,
            filled-put Leads IsLow parents tail row k tail (omega arith)
                (omega (arith, at.1, inv.0.count, inv.0.vertices)) (omega arith) inv.1,
          )
      | else-is_leading b ↦
          rw b.parents-is (
            inv.0,
            filled-pass Leads IsLow parents tail row k (omega arith) inv.1
                (elim b.else-is_leading.branch [
                  | else-is_leading-via-then-is_leading+else-tail-parents b' ↦ λ _. b'.if-tail-parents.false
                  | else-is_leading-via-else-is_leading b' ↦
                      λ leading. absurd (false≢true (sym b'.if-is_leading.false ∙ c.is_leading.ensures.1 leading))
                ]),
          )
    ]

pub returns : goal.returns
returns c =
    let inv = c.loop-head.invariant in
    led-all inv.0
    (filled-all (IsLeading _ _) (λ parent. parent ≤ c.args.tail) c.loop-head.parents c.args.tail c.row-head-items.result.now
    c.loop-head.head-index c.args.csr.now.arcs c.row-head-items.ensures.targets (omega arith) inv.1)
