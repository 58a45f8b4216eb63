-- The walks by the hops and parents that were found are told.
use Rattle.std.proofs.Common.{◌≡◌, ◌∙◌, ◌≤◌, map, slice_index, arith, take_at}
use Rattle.std.proofs.lemmas.Result.{IfOk-weaker}
use Rattle.route_walks.specs.declared.graph.TheConstants.{INF}
use Rattle.walk_report.specs.Toward.{AreTightHops}
use Rattle.walk_report.specs.Parent.{AreParents, LeadBack}
use Rattle.walk_report.specs.Told.{walk_by, walks_in, AreWalksTo}
use Rattle.walk_report.proofs.Telling.{walks-told}
use Rattle.walk_report.proofs.lists.Lists.walks_to.Goals as goal

pub returns-clause-walks : goal.returns-clause-walks
returns-clause-walks c least =
    let csr = c.args.csr.now in
    let labels = c.args.from.labels.now in
    let targets = c.args.targets.now in
    let hops = c.deref-3.result.now in
    let parents = c.deref-4.result.now in
    let same : hops ≡ c.search.new.hops =
    c.deref-3.ensures.value ∙ take_at c.search.new.hops _ c.args.self.now.hops.len (omega arith) in
    let same_among : c.deref.result.now ≡ c.search.new.hops =
    c.deref.ensures.value ∙ take_at c.search.new.hops _ c.args.self.now.hops.len (omega arith) in
    let same' : parents ≡ c.parents_among.new.parents =
    c.deref-4.ensures.value ∙ take_at c.parents_among.new.parents _ c.args.self.now.parents.len (omega arith) in
    let few : c.args.from.limit ≤ INF = c.args.from.within in
    let tight : AreTightHops c.args.from.limit csr.n csr.arcs c.args.from.source (slice_index labels) hops =
    rw same c.in_ok-search.ensures.exact in
    let led : AreParents csr.n csr.arcs labels hops parents =
    rw (same, same') (rw same_among at c.parents_among.ensures.exact) in
    let back : LeadBack hops parents = rw (same, same') (rw same_among at c.parents_among.ensures.back) in
    IfOk-weaker c.walks_by.result
    (λ walks. walks_in walks.items ≡ map (walk_by hops parents) targets)
    (λ walks. AreWalksTo c.args.from.limit csr.n csr.arcs c.args.from.source labels targets walks.items)
    (λ walks is. walks-told few c.n.ensures.in_rows.ends c.requires.source tight led back targets walks.items c.requires.targets least is)
    c.walks_by.ensures
