use Rattle.std.proofs.Common.{◌≡◌, ◌∙◌, sym, ap, subst, arith, Some, length, ◌++◌, ◌∷◌, [], nat_eq}
use Rattle.std.specs.Prelude.{cond}
use Rattle.std.specs.HashMap.{get}
use Rattle.obim_bags.specs.Indexes.{Lacks}
use Rattle.obim_bags.proofs.Indexing.{Gives, gives_next}
use Rattle.obim_bags.proofs.index.Index.push.Goals as goal

pub invariant_of-self-2 : goal.invariant_of-self-2
invariant_of-self-2 c metric =
    let metrics = c.self.inside.metrics.items in
    let new = c.args.metric in
    let old = get nat_eq c.self.inside.places metric in
    let items : c.push_reserved.new.self.items ≡ metrics ++ new ∷ [] =
    c.push_reserved.ensures.items ∙ ap (λ xs. xs ++ new ∷ []) c.reserve.ensures.items in
    let len : c.len.result ≡ length metrics =
    omega (arith, c.len.ensures, c.reserve.ensures.len, ap length c.reserve.ensures.items) in
    let found = subst (λ n. get nat_eq c.insert.new.self metric ≡ cond (nat_eq new metric) (Some n) old) len
    (c.in_ok-insert.ensures.updates.0 metric) in
    let lacks = subst (Lacks new) (sym c.self.view_is) c.requires in
    subst (λ xs. Gives xs metric (get nat_eq c.insert.new.self metric)) (sym items)
    (gives_next metrics new metric old (get nat_eq c.insert.new.self metric) lacks found (c.self.invariant metric))
