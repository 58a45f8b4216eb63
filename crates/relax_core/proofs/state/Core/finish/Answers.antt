-- The event of its name at the seat's view, and the ranges that a lawful core keeps.
use Rattle.std.proofs.Common.{◌≡◌, ◌∙◌, sym, ap, refl, arith}
use Rattle.std.proofs.lemmas.Bool.{eq-eqb, ne_eqb}
use Rattle.relax_core.specs.State.{State}
use Rattle.relax_core.proofs.Enabled.{enabled, refused}
use Rattle.relax_core.proofs.Running.{live_at}
use Rattle.relax_core.proofs.Accounts.{total_above}
use Rattle.relax_core.proofs.state.Core.finish.Goals as goal

pub returns-then-k-end : goal.returns-then-k-end
returns-then-k-end c = (
  refused c.args.self.now c.args.seat c.in-Some.view _ _ (sym c.in-Some.ensures.view)
      (rw c.in-Open.is (ne_eqb c.in-Open.k _ (λ same. c.if-k-end.true (same ∙ sym c.end.ensures.place)))),
  refl,
)

pub overflow_sub-self : goal.overflow_sub-self
overflow_sub-self c =
    let total : c.self.inside.total ≡ c.args.self.now.total = ap (λ (s : State). s.total) c.self.view_is in
    let has = live_at c.args.self.now.views c.args.seat c.in-Some.view (sym c.in-Some.ensures.view) in
    omega (arith, total_above c.requires.1.account has, c.from.ensures)

pub returns : goal.returns
returns c =
    enabled c.args.self.now _ c.args.seat c.in-Some.view _ _ (sym c.in-Some.ensures.view)
    (rw c.in-Open.is (eq-eqb c.in-Open.k _ (c.if-k-end.false ∙ c.end.ensures.place)))
    (rw (c.finish.ensures, c.from.ensures, ← c.self.view_is) refl)
