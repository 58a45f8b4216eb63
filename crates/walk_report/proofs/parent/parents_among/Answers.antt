-- The rows of the given vertices are passed, one after the other.
use Rattle.std.proofs.Common.{◌≡◌, ◌∙◌, sym, ◌+◌, ◌<◌, ◌⊎◌, inl, inr, ℕ, slice_index, arith}
use Rattle.std.proofs.lemmas.Bool.{cases_lt}
use Rattle.std.proofs.lemmas.Grind.{get_or_default_zero}
use Rattle.walk_report.proofs.Tails.{tails-none, tails-next, tails-done, parents-lead_back}
use Rattle.walk_report.proofs.parent.parents_among.Goals as goal

pub loop-tail-init : goal.loop-tail-init
loop-tail-init c =
    let csr = c.args.csr.now in
    let vertices = c.args.vertices.now in
    rw c.requires.blank
    (tails-none csr.n csr.arcs _ _ (λ u. (k : ℕ) × (k < 0) × (slice_index vertices k ≡ u)) (λ u passed. omega (arith, passed.1)))

pub loop-tail-preserved : goal.loop-tail-preserved
loop-tail-preserved c =
    let vertices = c.args.vertices.now in
    let count = c.loop-tail.tail-index in
    let more : (u : ℕ) → ((k : ℕ) × (k < count + 1) × (slice_index vertices k ≡ u))
    → ((k : ℕ) × (k < count) × (slice_index vertices k ≡ u)) ⊎ (u ≡ slice_index vertices count) =
    λ u passed.
    elim (cases_lt passed.0 count) [
      | inl before ↦ inl (passed.0, before, passed.2)
      | inr last ↦ let here : passed.0 ≡ count = omega (arith, last, passed.1) in inr (rw here at (sym passed.2))
    ] in
    tails-next _ _ more c.loop-tail.invariant c.lead_from.ensures

pub returns-clause-exact : goal.returns-clause-exact
returns-clause-exact c =
    let rows = c.n.ensures.in_rows in
    let vertices = c.args.vertices.now in
    tails-done (λ u. (k : ℕ) × (k < c.loop-tail.tail-index) × (slice_index vertices k ≡ u)) rows.vertices rows.ends
    c.requires.led
    (λ u below some.
    elim (c.requires.all.others u below) [
      | inl within ↦ (
        within.0,
        omega (arith, within.1, c.loop-tail-test.false),
        sym (get_or_default_zero vertices within.0 u within.1) ∙ within.2,
      )
      | inr none ↦ absurd (omega (arith, none, some))
    ])
    c.loop-tail.invariant

pub returns-clause-back : goal.returns-clause-back
returns-clause-back c =
    parents-lead_back c.n.ensures.in_rows.ends c.requires.led.count (returns-clause-exact c)
