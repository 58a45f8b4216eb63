use Rattle.std.proofs.Common.{[], ◌∷◌, arith}
use Rattle.std.proofs.lemmas.List.Elements.{All-push, All-weaker, Contains-append_left, Contains-push}
use Rattle.least_costs.specs.declared.start.Start.TheVariants.{At}
use Rattle.least_costs.specs.Costs.{IsUnreached}
use Rattle.cost_examples.specs.Callers.{IsFarther}
use Rattle.cost_examples.proofs.nearest.nearer.Goals as goal

pub returns-in-None-Some : goal.returns-in-None-Some
returns-in-None-Some c net v depots before now =
    let least = rw c.in-None-Some.is-1 at now in
    let far = IsFarther net v c.in-None-Some.cost in (
      Contains-push depots c.args.depot,
      least,
      All-push far depots c.args.depot
          (All-weaker (λ depot. IsUnreached net (At depot) v) far (λ depot none cost walk. absurd (none cost walk)) depots
          (rw c.in-None-Some.is-0 at before))
          least.least,
    )

pub returns-in-None-None : goal.returns-in-None-None
returns-in-None-None c net v depots before now =
    All-push (λ depot. IsUnreached net (At depot) v) depots c.args.depot (rw c.in-None-None.is-0 at before)
    (rw c.in-None-None.is-1 at now)

pub returns-in-Some-Some : goal.returns-in-Some-Some
returns-in-Some-Some c net v depots before now =
    let least = rw c.in-Some-Some.is-1 at now in
    let best = rw c.in-Some-Some.is-0 at before in
    let far = IsFarther net v c.in-Some-Some.cost in (
      Contains-push depots c.args.depot,
      least,
      All-push far depots c.args.depot
          (All-weaker (IsFarther net v c.in-Some-Some.best.1) far
          (λ depot low cost walk. omega (arith, low cost walk, c.if-cost-best.true)) depots best.2)
          least.least,
    )

pub returns-in-Some-Some-2 : goal.returns-in-Some-Some-2
returns-in-Some-Some-2 c net v depots before now =
    let least = rw c.in-Some-Some.is-1 at now in
    let best = rw c.in-Some-Some.is-0 at before in (
      Contains-append_left depots (c.args.depot ∷ []) c.in-Some-Some.best.0 best.0,
      best.1,
      All-push (IsFarther net v c.in-Some-Some.best.1) depots c.args.depot best.2
          (λ cost walk. omega (arith, least.least cost walk, c.if-cost-best.false)),
    )

pub returns-in-Some-None : goal.returns-in-Some-None
returns-in-Some-None c net v depots before now =
    let none = rw c.in-Some-None.is-1 at now in
    let best = rw c.in-Some-None.is-0 at before in (
      Contains-append_left depots (c.args.depot ∷ []) c.in-Some-None.best.0 best.0,
      best.1,
      All-push (IsFarther net v c.in-Some-None.best.1) depots c.args.depot best.2
          (λ cost walk. absurd (none cost walk)),
    )
