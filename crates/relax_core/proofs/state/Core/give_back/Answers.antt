-- A total is at least the credits of a seat.
use Rattle.std.proofs.Common.{◌≡◌, sym, ap, arith}
use Rattle.relax_core.specs.State.{State}
use Rattle.relax_core.proofs.Running.{live_at}
use Rattle.relax_core.proofs.Accounts.{total_above}
use Rattle.relax_core.proofs.state.Core.give_back.Goals as goal

pub overflow_sub-self : goal.overflow_sub-self
overflow_sub-self c =
    let total : c.self.inside.total ≡ c.args.self.now.total = ap (λ (s : State). s.total) c.self.view_is in
    let has = live_at c.args.self.now.views c.args.seat c.in-Some.view (sym c.in-Some.ensures.view) in
    omega (arith, total_above c.requires.1.account has, c.from.ensures)
