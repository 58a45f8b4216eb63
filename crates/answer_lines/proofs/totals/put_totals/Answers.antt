use Rattle.std.proofs.Common.{◌≡◌, ◌+◌, ℕ, List, ◌∷◌, ◌++◌, drop, ap, ap₂, ◌∙◌, refl, append_assoc, arith}
use Rattle.std.proofs.lemmas.List.{length-drop, take_all}
use Rattle.std.proofs.lemmas.Slice.{pushed}
use Rattle.std.specs.Fmt.{decimal}
use Rattle.answer_lines.specs.Totals.{totals_line}
use Rattle.answer_lines.proofs.totals.put_totals.Goals as goal

-- a field stands in front of what is left of a line
field : {n number : ℕ} {line rest more : List ℕ} → n ≡ number → line ≡ 32 ∷ (decimal n ++ rest) → rest ≡ more
    → line ≡ 32 ∷ (decimal number ++ more)
field same put left = put ∙ ap₂ (λ (n : ℕ) (xs : List ℕ). 32 ∷ (decimal n ++ xs)) same left

pub returns-clause-ok : goal.returns-clause-ok
returns-clause-ok c =
    let t = c.args.totals.now in
    let next : ℕ → ℕ = λ n. n + 1 in
    let fields =
    field c.from-2.ensures c.put_field-end-3.ensures.put
    (field refl c.put_sum-end.ensures.put
    (field refl c.put_field-end-2.ensures.put
    (field (ap next c.from.ensures) c.put_field-end.ensures.put c.put_byte-end.ensures.put))) in
    let line : drop c.put_start-start.result c.put_start-start.new.line
    ≡ totals_line c.args.s t.reached t.sum t.greatest t.farthest =
    c.put_start-start.ensures.put
    ∙ ap₂ (λ (n : ℕ) (xs : List ℕ). 116 ∷ 32 ∷ (decimal n ++ xs)) (ap next c.from-3.ensures) fields
    ∙ simp append_assoc in
    let made = drop c.put_start-start.result c.put_start-start.new.line in
    let before = c.args.out.now.items in
    pushed {was = before} _ refl c.in_ok-extend_from_slice.was c.extend_from_slice.ensures.items
    ∙ ap (λ (xs : List ℕ). before ++ xs)
    (take_all _ made (omega (arith, length-drop c.put_start-start.result c.put_start-start.new.line)) ∙ line)
