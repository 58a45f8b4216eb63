use Rattle.std.proofs.Common.{◌≡◌, take}
use Rattle.std.specs.Prelude.{All}
use Rattle.hierarchy.specs.Checked.{AreMet}
use Rattle.hierarchy.proofs.bridges.is_valley_bridged.Given as goal

abbrev pub invariant-loop-from : goal.invariant-loop-from
invariant-loop-from l = record {
  room : l.probe ≡ l.fn.probe;
  met :
      All (λ from. AreMet l.parts.up.arcs l.parts.down.arcs from.head from.weight l.rises) (take l.from-index l.falls);
}
