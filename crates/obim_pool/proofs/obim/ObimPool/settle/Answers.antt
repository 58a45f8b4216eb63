use Rattle.std.proofs.Common.{◌≡◌, ◌∙◌, ap, sym, subst}
use Rattle.std.specs.Prelude.{All}
use Rattle.std.proofs.lemmas.List.{map-id}
use Rattle.std.proofs.lemmas.Iterator.Adapters.{YieldsList-from_vec}
use Rattle.std.proofs.lemmas.Iterator.Consumers.{YieldsList-end}
use Rattle.atomic_table.specs.Seated.{TableId}
use Rattle.obim_bags.specs.Logs.{IsMirrorOf}
use Rattle.obim_pool.specs.Sides.{IsSideOf, mirrors_of}
use Rattle.obim_pool.proofs.Popping.{mirrors_are}
use Rattle.obim_pool.proofs.obim.ObimPool.settle.Goals as goal

pub drain-requires : goal.drain-requires
drain-requires g c =
    let gives = c.into_iter-side-iterator.ensures.into_iter_gives in
    let list = YieldsList-from_vec {s = c.into_iter-side-iterator.result} c.args.sides.items gives.0
    (gives.1 ∙ c.args.sides.ok.0) in
    let all = YieldsList-end list c.loop-side.yielded c.loop-side.side-iterator c.loop-side.yielded_by c.next.result
    c.next.new.self c.in-None.is c.next.ensures.steps in
    let mirrors : c.loop-side.mirrors.items ≡ mirrors_of c.args.sides.items =
    c.loop-side.invariant ∙ ap mirrors_of (sym (map-id c.loop-side.yielded) ∙ all.0) in
    let are = subst (λ (log : TableId). All (IsSideOf log) c.args.sides.items) (sym c.self.view_is) c.requires in
    subst (All (IsMirrorOf c.self.inside.log)) (sym mirrors) (mirrors_are c.self.inside.log c.args.sides.items are)
