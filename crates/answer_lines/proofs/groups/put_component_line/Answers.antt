use Rattle.std.proofs.Common.{ℕ, ◌+◌, List, ◌∷◌, ◌++◌, drop, ap, ◌∙◌, arith}
use Rattle.std.specs.Fmt.{decimal}
use Rattle.answer_lines.proofs.Making.{line_put}
use Rattle.answer_lines.proofs.groups.put_component_line.Goals as goal

pub returns-clause-put : goal.returns-clause-put
returns-clause-put c =
    let begun = drop c.args.head.now.start c.args.head.now.bytes in
    let text = decimal (c.args.label + 1) in
    line_put 107 (c.args.v + 1) begun text (drop c.args.end c.args.lines.now) (omega arith) c.requires.head
    (c.put_head.ensures.put ∙ ap (λ (xs : List ℕ). begun ++ xs) c.put_last-end.ensures.put)
    (c.put_byte-end-2.ensures.put
    ∙ ap (λ (xs : List ℕ). 32 ∷ xs)
    (c.put_number-end.ensures.put ∙ ap (λ (xs : List ℕ). text ++ xs) c.put_byte-end.ensures.put))
