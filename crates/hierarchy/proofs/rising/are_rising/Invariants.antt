use Rattle.hierarchy.specs.Checked.{DoesRise}
use Rattle.hierarchy.proofs.Arcs.{AreRowsBelow}
use Rattle.hierarchy.proofs.rising.are_rising.Given as goal

abbrev pub invariant-loop-u : goal.invariant-loop-u
invariant-loop-u l = AreRowsBelow (DoesRise l.rows.n) l.rows.arcs l.u
