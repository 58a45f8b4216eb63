use Rattle.std.proofs.Common.{◌≡◌, ◌∙◌, ◌⊎◌, ℕ, ◌<◌, ◌+◌, ◌==◌, List, [], Bool, true, false, not, nat_lt}
use Rattle.std.proofs.Common.{codes, Bor, slice_index_or, map, length, refl, sym, ap, subst, inl, inr, arith}
use Rattle.std.specs.Str.{bytes_eq}
use Rattle.std.proofs.lemmas.List.{get_or-map, get_or_default}
use Rattle.std.proofs.lemmas.Slice.Eq.{bytes_eq-Decides}
use Rattle.std.proofs.Math.ListN.{length-map}
use Rattle.clap.specs.Words.{Text}
use Rattle.command_line.proofs.values.are_hyphens.Goals as goal

-- the text is a hyphen, by the test of it
hyphen_by : (text : Text) → false ≡ not (bytes_eq text (codes "-")) → text ≡ codes "-"
hyphen_by text test = (bytes_eq-Decides text (codes "-")).0 (told (bytes_eq text (codes "-")) test)
  where
    told : (b : Bool) → false ≡ not b → b ≡ true
    told true is = refl
    told false is = is

no_hyphen : (text : Text) → true ≡ not (bytes_eq text (codes "-")) → text ≡ codes "-" → ⊥
no_hyphen text test is =
    let bad : true ≡ false = subst (λ (t : Text). true ≡ not (bytes_eq t (codes "-"))) is test in absurd (cc)

-- what the references point to
module _ (operands : List (Bor Text)) where
  texts : List Text
  texts = map (λ operand. operand.now) operands

  count : length texts ≡ length operands
  unfolding texts
  count = length-map operands (λ (operand : Bor Text). operand.now)

  text_at : (k : ℕ) (other : Bor Text) (text : Text) → k < length operands
      → slice_index_or texts k text ≡ (slice_index_or operands k other).now
  unfolding texts
  text_at k other text lt = get_or-map (λ (operand : Bor Text). operand.now) operands k other text lt

-- whether there are some
some_are : (n m : ℕ) → n ≡ m → not (n == 0) ≡ nat_lt 0 m
some_are n m same = grind (arith)

pub returns-then-ne : goal.returns-then-ne
unfolding texts
returns-then-ne c value asks =
    let operands = c.args.operands.now in
    let at = c.loop-operand.operand-index in
    let lt : at < length (texts operands) = omega (arith, count operands, c.loop-operand-test.true) in
    no_hyphen _ c.if-ne.ensures (sym (text_at operands at _ [] c.loop-operand-test.true) ∙ asks.0 at [] lt)

pub loop-operand-preserved : goal.loop-operand-preserved
loop-operand-preserved c k other lt =
    elim (before k c.loop-operand.operand-index lt) [
      | inl below ↦ c.loop-operand.invariant k other below
      | inr here ↦
          let same = get_or_default c.args.operands.now c.loop-operand.operand-index other _ c.loop-operand-test.true in
          subst (λ (j : ℕ). (slice_index_or c.args.operands.now j other).now ≡ codes "-") (sym here)
          (ap (λ (operand : Bor Text). operand.now) same ∙ hyphen_by _ c.if-ne.ensures)
    ]
  where
    before : (j i : ℕ) → j < i + 1 → (j < i) ⊎ (j ≡ i)
    before j i lt = grind arith

pub returns : goal.returns
unfolding texts
returns c =
    let operands = c.args.operands.now in (
      λ k text lt.
          let low : k < length operands = omega (arith, count operands, lt) in
          let other : Bor Text = record { ref_ptr = (0, 0); now = text } in
          text_at operands k other text low
          ∙ c.loop-operand.invariant k other (omega (arith, low, c.loop-operand-test.false)),
      ap not c.is_empty.ensures ∙ some_are _ _ (sym (count operands)),
    )
