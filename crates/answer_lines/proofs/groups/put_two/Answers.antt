use Rattle.std.proofs.Common.{ℕ, List, ◌∷◌, drop, ap, ap₂, ◌∙◌}
use Rattle.answer_lines.proofs.Making.{pair_at}
use Rattle.answer_lines.proofs.groups.put_two.Goals as goal

pub returns-clause-put : goal.returns-clause-put
returns-clause-put c =
    let digits = pair_at c.args.pair c.requires.pair in
    c.put_byte.ensures.put
    ∙ ap₂ (λ (digit : ℕ) (xs : List ℕ). digit ∷ xs) digits.0
    (c.put_byte-end.ensures.put ∙ ap (λ (digit : ℕ). digit ∷ drop c.args.end c.args.lines.now) digits.1)
