-- The new metric stands nowhere else.
use Rattle.std.proofs.Common.{◌≡◌, ◌∙◌, ap, sym, List, [], ◌∷◌, ◌++◌, map}
use Rattle.std.proofs.lemmas.List.{map-append}
use Rattle.obim_bags.specs.Bags.{BagSeen}
use Rattle.obim_bags.specs.Entries.{EntrySeen}
use Rattle.obim_bags.proofs.Distinct.{distinct_snoc}
use Rattle.obim_bags.proofs.entries.Entries.append.Goals as goal

-- the bags of a list of entries, with one entry more
longer : (entries new : List EntrySeen) (entry : EntrySeen) → new ≡ entries ++ entry ∷ []
    → map (λ (e : EntrySeen). e.bag) new ≡ map (λ (e : EntrySeen). e.bag) entries ++ entry.bag ∷ []
longer entries new entry e =
    ap (map (λ (e : EntrySeen). e.bag)) e ∙ map-append (λ (e : EntrySeen). e.bag) entries (entry ∷ [])

pushed : (new room entries : List EntrySeen) (entry : EntrySeen) → new ≡ room ++ entry ∷ [] → room ≡ entries
    → new ≡ entries ++ entry ∷ []
pushed new room entries entry e same = cc

pub invariant_of-self-2 : goal.invariant_of-self-2
invariant_of-self-2 g c =
    let entry = c.in_ok-open.field-0 in
    let items = pushed _ _ c.self.inside.list.items entry c.push_reserved.ensures.items c.in_ok-reserve.ensures.items in
    let lacks = rw (← c.self.view_is, ← c.in_ok-open.ensures) at c.requires.new in
    rw (longer c.self.inside.list.items _ entry items, map-append (λ (bag : BagSeen). bag.metric))
    (distinct_snoc _ entry.bag.metric c.self.invariant lacks)

pub returns-clause-distinct : goal.returns-clause-distinct
returns-clause-distinct g c = invariant_of-self-2 g c

pub returns-clause-longer : goal.returns-clause-longer
returns-clause-longer g c =
    let entry = c.in_ok-open.field-0 in
    let items = pushed _ _ c.self.inside.list.items entry c.push_reserved.ensures.items c.in_ok-reserve.ensures.items in
    rw (← c.self.view_is) (entry.bag ∷ [], sym (longer c.self.inside.list.items _ entry items))
