use Rattle.std.proofs.Common.{◌≡◌, ◌∙◌, ℕ, List, length, take, ap, arith}
use Rattle.std.proofs.lemmas.List.{take_at, take_min, length-take}
use Rattle.dimacs_text.proofs.explanation.Beginning.of.Goals as goal

pub returns-clause-kept : goal.returns-clause-kept
returns-clause-kept c =
    let line = c.args.line.now in
    let here : c.copy_from_slice.new.self ≡ take c.min-kept.result line = c.copy_from_slice.ensures.after in
    let count : length c.copy_from_slice.new.self ≡ c.min-kept.result =
    omega (arith, ap (λ (l : List ℕ). length l) here, length-take c.min-kept.result line, c.min-kept.ensures) in
    take_at c.copy_from_slice.new.self _ _ (count ∙ c.min-kept.ensures)
    ∙ here
    ∙ ap (λ n. take n line) c.min-kept.ensures
    ∙ take_min 80 line
