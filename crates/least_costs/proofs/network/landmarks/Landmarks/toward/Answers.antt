-- What the cells of landmarks tell.
use Rattle.std.proofs.Common.{refl}
use Rattle.least_costs.proofs.Cells.{landmarks-bound}
use Rattle.least_costs.proofs.network.landmarks.Landmarks.toward.Goals as goal

pub returns-clause-bounds : goal.returns-clause-bounds
returns-clause-bounds c =
    rw (← c.self.view_is)
    (landmarks-bound _ (record {
      targets = c.args.targets;
      cells = c.cells-cells.result;
      low = c.args.low;
      high = c.args.high;
      unit = c.self.inside.unit;
      base = c.bound-base.result;
    }) c.self.invariant (rw (← c.self.view_is) at c.requires.targets) (rw (← c.self.view_is) at c.requires.low)
    (rw (← c.self.view_is) at c.requires.high) (rw (← c.self.view_is) at c.cells-cells.ensures) refl)
