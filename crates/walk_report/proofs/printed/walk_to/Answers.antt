use Rattle.std.proofs.Common.{◌≡◌, ◌<◌, length, slice_index, All, sym, subst, refl, arith, rules}
use Rattle.walk_report.specs.Printed.{printed_walk}
use Rattle.walk_report.proofs.Printing.{printed_walk-within}
use Rattle.walk_report.proofs.printed.walk_to.Goals as goal

pub returns-clause-vertices : goal.returns-clause-vertices
returns-clause-vertices c =
    let hops = c.args.hops.now in
    let hop = slice_index hops c.args.v in
    let walk : c.loop-k.walk.items ≡ printed_walk (slice_index c.args.parents.now) hop c.args.v = search rules in
    subst (All (λ u. u < length hops)) (sym walk)
    (printed_walk-within c.requires.back hop c.args.v c.requires.vertex refl
    (omega (arith, c.type_inv.hops c.args.v)))
