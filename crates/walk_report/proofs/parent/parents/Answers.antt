-- The rows are passed in order; the last ends with the list.
use Rattle.std.proofs.Common.{◌≡◌, ◌+◌, ◌<◌, ◌⊎◌, inl, inr, ℕ, replicate, arith, rules, take_at}
use Rattle.std.proofs.lemmas.Bool.{cases_lt}
use Rattle.walk_report.specs.declared.hop.TheConstants.{NONE}
use Rattle.walk_report.proofs.Tails.{source-led, tails-none, tails-next, tails-done, parents-lead_back}
use Rattle.walk_report.proofs.parent.parents.Goals as goal

pub loop-tail-init : goal.loop-tail-init
loop-tail-init c =
    let csr = c.args.csr.now in
    let none : c.in_ok-parents.parents.items ≡ replicate csr.n NONE = rw (← c.n-n.ensures.vertices) (search rules) in
    rw none (tails-none csr.n csr.arcs _ _ (λ u. u < 0) (λ u low. omega (arith, low)))

pub loop-tail-preserved : goal.loop-tail-preserved
loop-tail-preserved c =
    let tail = c.loop-tail.tail in
    let parents = c.lead_from.new.parents in
    let old = c.loop-tail.parents in
    let more : (u : ℕ) → u < tail + 1 → (u < tail) ⊎ (u ≡ tail) =
    λ u low.
    elim (cases_lt u tail) [
      | inl lower ↦ inl lower
      | inr high ↦ inr (omega (arith, high, low))
    ] in
    let next = tails-next (λ u. u < tail) (λ u. u < tail + 1) more c.loop-tail.invariant
    (rw c.deref_mut.ensures.value at c.lead_from.ensures) in
    rw (take_at parents _ old.len (omega arith)) next

pub returns-clause-exact : goal.returns-clause-exact
returns-clause-exact c =
    let csr = c.args.csr.now in
    let rows = c.n-n.ensures.in_rows in
    tails-done (λ u. u < c.loop-tail.tail) rows.vertices rows.ends (source-led rows.ends c.requires)
    (λ u below _. omega (arith, below, c.n-n.ensures.vertices)) c.loop-tail.invariant

pub returns-clause-back : goal.returns-clause-back
returns-clause-back c =
    parents-lead_back c.n-n.ensures.in_rows.ends c.requires.exact.count (returns-clause-exact c)
