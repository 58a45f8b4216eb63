use Rattle.std.proofs.Common.{◌≡◌, length}
use Rattle.std.proofs.lemmas.Option.{IfSome_then}
use Rattle.route_walks.specs.Operators.{seeds_from}
use Rattle.near_labels.specs.Noted.{AreExactWithin}
use Rattle.near_labels.proofs.Bounded.{those-within}
use Rattle.near_labels.proofs.space.list_within.Goals as goal

pub returns-clause-within : goal.returns-clause-within
returns-clause-within c =
    let bound = c.args.bound in
    let graph = c.args.csr.now in
    let seeds = seeds_from c.args.source in
    let state = c.sort_noted.new.self in
    let count : length state.labels.items ≡ graph.n = rw c.sort_noted.ensures.labels c.requires.least.count in
    let exact : AreExactWithin bound graph.n graph.arcs seeds state.labels.items =
    rw c.sort_noted.ensures.labels
    (λ v below.
    c.least_up_to_a_limit.ensures.within c.args.limit bound graph.arcs seeds v _ (c.requires.least.least v below)
    c.requires.past) in
    IfSome_then c.listed.result c.listed.ensures (λ found list.
    those-within bound graph.n graph.arcs seeds state.labels.items state.marks.items state.noted.items found.items
    c.requires.bound count c.sort_noted.ensures.noted exact (rw (c.deref.ensures.value, c.deref-2.ensures.value) at list))
