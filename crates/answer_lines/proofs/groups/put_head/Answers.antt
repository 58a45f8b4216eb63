use Rattle.std.proofs.Common.{ℕ, ◌+◌, ◌-◌, List, ◌++◌, drop, ap, ◌∙◌, arith}
use Rattle.std.proofs.lemmas.List.{take_all}
use Rattle.std.specs.Simd.Lanes.{put_chunk}
use Rattle.answer_lines.proofs.Making.{head_put}
use Rattle.answer_lines.proofs.groups.put_head.Goals as goal

pub returns-clause-put : goal.returns-clause-put
returns-clause-put c =
    let head = c.args.head.now in
    let lines = c.args.lines.now in
    let at = c.args.end - 16 in
    ap (λ (bytes : List ℕ). drop (at + head.start) (put_chunk at lines bytes)) (take_all 16 head.bytes (omega arith))
    ∙ head_put at head.start lines head.bytes (omega arith) (omega arith)
    ∙ ap (λ (n : ℕ). drop head.start head.bytes ++ drop n lines) (omega arith)
