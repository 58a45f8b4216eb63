-- The event of its name at the seat's view.
use Rattle.std.proofs.Common.{sym, ap, refl}
use Rattle.relax_core.specs.Views.{is_fresh}
use Rattle.relax_core.proofs.Enabled.{enabled}
use Rattle.relax_core.proofs.state.Core.read.Goals as goal

pub returns : goal.returns
returns c =
    enabled c.args.self.now _ c.args.seat c.in-Some.view _ _ (sym c.in-Some.ensures.view) (ap is_fresh c.in-Fresh.is)
    (rw (c.read.ensures, c.in-Fresh.is, c.label.ensures, ← c.self.view_is, c.first.ensures.place) refl)
