use Rattle.std.proofs.Common.{◌≤◌, ℕ, subst, sym}
use Rattle.std.specs.Prelude.{All, slice_index}
use Rattle.obim_engine.specs.Goal.{IsNear, IsServedBy, limit_for_all}
use Rattle.obim_engine.proofs.Stopping.{past_is_near, past_serves}
use Rattle.obim_engine.proofs.goal.Goal.limit_of.Goals as goal

pub returns-clause-served : goal.returns-clause-served
returns-clause-served c =
    let labels = c.args.labels.now in
    let near =
    subst (All (λ (t : ℕ). slice_index labels t ≤ c.farthest.result)) c.targets.ensures c.farthest.ensures in
    subst (λ (limit : ℕ). IsServedBy c.args.self.now labels (limit_for_all c.args.self.now limit))
    (sym c.limit_past.ensures) (past_serves c.args.self.now labels c.farthest.result near)

pub returns-clause-near : goal.returns-clause-near
returns-clause-near c =
    let labels = c.args.labels.now in
    let near =
    subst (All (λ (t : ℕ). slice_index labels t ≤ c.farthest.result)) c.targets.ensures c.farthest.ensures in
    subst (λ (limit : ℕ). IsNear c.args.self.now labels limit) (sym c.limit_past.ensures)
    (past_is_near c.args.self.now labels c.farthest.result near)
