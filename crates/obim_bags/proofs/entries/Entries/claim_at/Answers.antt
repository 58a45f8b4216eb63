-- Only one entry is changed, and its bag isn't.
use Rattle.std.proofs.Common.{◌≡◌, ◌∙◌, ap, sym, subst, Some}
use Rattle.obim_bags.specs.Entries.{EntrySeen, HasAccessOf, HasAccessAt}
use Rattle.obim_bags.proofs.Listed.{found_at, at_map, map_kept, at_set_else, none_then}
use Rattle.std.proofs.lemmas.Option.{IfSome_then}
use Rattle.obim_bags.proofs.entries.Entries.claim_at.Goals as goal

pub invariant_of-self : goal.invariant_of-self
invariant_of-self c =
    let here = found_at c.self.inside.list.items c.args.place c.index_mut.result.now
    (rw (← c.self.view_is) at c.requires) c.index_mut.ensures.value in
    rw (map_kept (λ (entry : EntrySeen). entry.bag) c.self.inside.list.items c.args.place _ c.claim.new.self here
    c.claim.ensures.bag) c.self.invariant

pub returns-clause-bags : goal.returns-clause-bags
returns-clause-bags c =
    let here = found_at c.self.inside.list.items c.args.place c.index_mut.result.now
    (rw (← c.self.view_is) at c.requires) c.index_mut.ensures.value in
    rw (← c.self.view_is)
    (map_kept (λ (entry : EntrySeen). entry.bag) c.self.inside.list.items c.args.place _ _ here c.claim.ensures.bag)

pub returns-clause-others : goal.returns-clause-others
returns-clause-others c other apart =
    rw (← c.self.view_is) (at_set_else c.self.inside.list.items c.args.place other _ apart)

pub returns-clause-found : goal.returns-clause-found
returns-clause-found c =
    let here = found_at c.self.inside.list.items c.args.place c.index_mut.result.now
    (rw (← c.self.view_is) at c.requires) c.index_mut.ensures.value in
    let bag = at_map (λ (entry : EntrySeen). entry.bag) c.self.inside.list.items c.args.place _ here in
    rw (← c.self.view_is)
    (IfSome_then c.claim.result c.claim.ensures.place (λ place is. bag ∙ ap Some (sym is.0)))

pub returns-clause-none : goal.returns-clause-none
returns-clause-none c =
    let here = found_at c.self.inside.list.items c.args.place c.index_mut.result.now
    (rw (← c.self.view_is) at c.requires) c.index_mut.ensures.value in
    none_then (HasAccessOf c.args.worker c.index_mut.result.now → ⊥)
    (HasAccessAt c.args.worker c.args.place c.args.self.now → ⊥) c.claim.result
    (λ none has.
    let at = rw (← c.self.view_is) at has.1 in
    let same : has.0 ≡ c.index_mut.result.now = cc (at, here) in none (subst (HasAccessOf c.args.worker) same has.2))
    c.claim.ensures.none
