-- The event of its name at the seat's view.
use Rattle.std.proofs.Common.{sym, refl, ◌<◌, length}
use Rattle.std.proofs.lemmas.Bool.{le-leb}
use Rattle.std.proofs.lemmas.List.{set-append_left}
use Rattle.relax_core.proofs.Enabled.{enabled}
use Rattle.relax_core.proofs.state.Core.split.Goals as goal

pub returns-clause-step : goal.returns-clause-step
returns-clause-step c =
    let within : c.args.seat < length c.self.inside.views.items = rw (← c.self.view_is) at c.in-Some.ensures.place in
    enabled c.args.self.now _ c.args.seat c.in-Some.view _ _ (sym c.in-Some.ensures.view)
    (rw c.in-Idle.is (le-leb 2 c.in-Some.view.share c.if-view-lt2.false))
    (rw (
      c.in_ok-push.ensures.items,
      set-append_left,
      c.split-new.ensures.this,
      c.split-new.ensures.new,
      ←
          c.self.view_is,
    ) refl)
