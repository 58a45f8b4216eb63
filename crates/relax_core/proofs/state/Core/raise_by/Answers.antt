-- The total of a lawful core is far below 2^64.
use Rattle.std.proofs.Common.{◌≡◌, ap, arith}
use Rattle.relax_core.specs.State.{State}
use Rattle.relax_core.proofs.Closing.{total_is_bounded}
use Rattle.relax_core.proofs.state.Core.raise_by.Goals as goal

pub overflow_add-self : goal.overflow_add-self
overflow_add-self c =
    let total : c.self.inside.total ≡ c.args.self.now.total = ap (λ (s : State). s.total) c.self.view_is in
    omega (arith, c.requires.1.rows.vertices, c.from.ensures, total_is_bounded _ _ _ _ _ _ c.requires.1.covers c.requires.1.account)
