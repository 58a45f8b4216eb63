-- The lemmas that crates above may cite: the lines of vertices and of those after them, and so of bytes.
use Rattle.std.proofs.Common.{◌≡◌, ℕ, suc, ◌+◌, List, [], ◌∷◌, ◌++◌, length, refl, sym, ap, subst, ◌∙◌, append_assoc}
use Rattle.std.proofs.Common.{drop_at, arith}
use Rattle.std.specs.Prelude.{All}
use Rattle.std.proofs.lemmas.List.Elements.{All-drop}
use Rattle.answer_lines.specs.Lines.{label_text, label_lines, component_text, component_lines}
use Rattle.answer_lines.specs.Raw.{raw_label, raw_labels}

pub label_lines-append : (v : ℕ) (xs ys : List ℕ)
    → label_lines v (xs ++ ys) ≡ label_lines v xs ++ label_lines (v + length xs) ys
label_lines-append v [] ys = ap (λ (u : ℕ). label_lines u ys) (omega arith)
label_lines-append v (label ∷ xs) ys =
    let one : v + 1 + length xs ≡ v + suc (length xs) = omega arith in
    ap (λ (text : List ℕ). label_text v label ++ text) (label_lines-append (v + 1) xs ys)
    ∙ sym (append_assoc (label_text v label) (label_lines (v + 1) xs) (label_lines (v + 1 + length xs) ys))
    ∙ ap (λ (u : ℕ). label_lines v (label ∷ xs) ++ label_lines u ys) one

pub component_lines-append : (v : ℕ) (xs ys : List ℕ)
    → component_lines v (xs ++ ys) ≡ component_lines v xs ++ component_lines (v + length xs) ys
component_lines-append v [] ys = ap (λ (u : ℕ). component_lines u ys) (omega arith)
component_lines-append v (label ∷ xs) ys =
    let one : v + 1 + length xs ≡ v + suc (length xs) = omega arith in
    ap (λ (text : List ℕ). component_text v label ++ text) (component_lines-append (v + 1) xs ys)
    ∙ sym (append_assoc (component_text v label) (component_lines (v + 1) xs) (component_lines (v + 1 + length xs) ys))
    ∙ ap (λ (u : ℕ). component_lines v (label ∷ xs) ++ component_lines u ys) one

pub raw_labels-append : (xs ys : List ℕ) → raw_labels (xs ++ ys) ≡ raw_labels xs ++ raw_labels ys
raw_labels-append [] ys = refl
raw_labels-append (label ∷ xs) ys =
    ap (λ (bytes : List ℕ). raw_label label ++ bytes) (raw_labels-append xs ys)
    ∙ sym (append_assoc (raw_label label) (raw_labels xs) (raw_labels ys))

-- what holds of each element holds of each of the rest
pub All-rest : (P : ℕ → Type 0) {all : List ℕ} (group rest : List ℕ) → all ≡ group ++ rest → All P all → All P rest
All-rest P {all} group rest parts each =
    subst (All P) (drop_at group rest (length group) refl)
    (All-drop P (length group) (group ++ rest) (subst (All P) parts each))
