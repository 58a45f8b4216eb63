-- The event of its name at the seat's view.
use Rattle.std.proofs.Common.{◌∙◌, sym, refl, arith}
use Rattle.std.proofs.lemmas.Bool.{eq-eqb, ne_eqb, le-leb, lt-leb}
use Rattle.relax_core.proofs.Enabled.{enabled, refused}
use Rattle.relax_core.proofs.state.Core.keep.Goals as goal
use Rattle.relax_core.proofs.state.Core.keep.Goals.{then-k-end-via-then-k-end, then-k-end-via-else-k-end+then-view-gt254}

pub returns-then-k-end : goal.returns-then-k-end
returns-then-k-end c = (
  refused c.args.self.now c.args.seat c.in-Some.view _ _ (sym c.in-Some.ensures.view)
      (elim c.then-k-end.branch [
        | then-k-end-via-then-k-end w ↦
            rw (c.in-Open.is, ne_eqb c.in-Open.k _ (λ same. w.if-k-end.true (same ∙ sym c.end.ensures.place))) refl
        | then-k-end-via-else-k-end+then-view-gt254 w ↦
            rw (c.in-Open.is, eq-eqb c.in-Open.k _ (w.if-k-end.false ∙ c.end.ensures.place))
            (lt-leb c.in-Some.view.credits 254 (omega (arith, w.if-view-gt254.true)))
      ]),
  refl,
)

pub returns : goal.returns
returns c =
    enabled c.args.self.now _ c.args.seat c.in-Some.view _ _ (sym c.in-Some.ensures.view)
    (rw (c.in-Open.is, eq-eqb c.in-Open.k _ (c.if-k-end.false ∙ c.end.ensures.place))
    (le-leb c.in-Some.view.credits 254 (omega (arith, c.if-view-gt254.false))))
    (rw (c.keep.ensures, ← c.self.view_is) refl)
