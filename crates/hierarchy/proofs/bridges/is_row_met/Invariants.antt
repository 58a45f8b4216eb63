use Rattle.std.proofs.Common.{◌≡◌, take}
use Rattle.hierarchy.specs.Checked.{AreMet}
use Rattle.hierarchy.proofs.bridges.is_row_met.Given as goal

abbrev pub invariant-loop-target : goal.invariant-loop-target
invariant-loop-target l = record {
  room : l.probe ≡ l.fn.probe;
  met : AreMet l.parts.up.arcs l.parts.down.arcs l.u l.add (take l.target-index l.row);
}
