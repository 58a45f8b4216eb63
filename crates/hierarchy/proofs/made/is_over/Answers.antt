use Rattle.std.proofs.Common.{arith}
use Rattle.std.proofs.lemmas.Bool.Decides.{nat_tests}
use Rattle.hierarchy.proofs.Arcs.{over-of_targets}
use Rattle.hierarchy.proofs.made.is_over.Goals as goal

pub returns : goal.returns
returns c =
    λ cheap.
    over-of_targets c.args.parts.now.up c.args.parts.now.down c.row-2.ensures.in_rows c.row.ensures.in_rows c.args.middle
    c.row-2.result.now c.row.result.now c.row-2.ensures.targets c.row.ensures.targets c.args.u c.args.v c.in-Some.from
    c.in-Some-weight_to.onto c.args.most c.in-Some.ensures c.in-Some-weight_to.ensures
    (grind (arith, nat_tests, cheap, c.from.ensures, c.from-2.ensures, c.from-3.ensures))
