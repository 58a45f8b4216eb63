-- The search starts at s, goes on vertex by vertex, and ends with the queue.
use Rattle.std.proofs.Common.{◌≡◌, ◌∙◌, ℕ, ◌<◌, [], ◌∷◌, ◌++◌, slice_index, ap, refl, arith}
use Rattle.std.proofs.lemmas.List.Elements.{All-nil}
use Rattle.walk_report.specs.Toward.{AreTightHops}
use Rattle.walk_report.specs.Search.{AreQueued}
use Rattle.walk_report.proofs.Queued.{queued-none, search-queued, search-within}
use Rattle.walk_report.proofs.Searching.{search-start, search-next, search-tight, tight-none}
use Rattle.walk_report.proofs.hop.search.Goals as goal

pub returns-then-limit-eq0 : goal.returns-then-limit-eq0
returns-then-limit-eq0 c =
    let csr = c.args.csr.now in
    let queued : AreQueued csr.n c.args.hops.now c.args.queue.now.items =
    rw c.requires.blank (queued-none csr.n c.args.queue.now.items) in
    let zero : c.args.limit ≡ 0 = omega (arith, c.if-limit-eq0.true) in
    let exact : AreTightHops c.args.limit csr.n csr.arcs c.args.s (slice_index c.args.labels.now) c.args.hops.now =
    rw (c.requires.blank, zero) (tight-none csr.n csr.arcs c.args.s (slice_index c.args.labels.now) c.n.ensures.in_rows.ends) in
    record {
      exact = exact;
      within = rw c.requires.empty (All-nil (λ (v : ℕ). v < csr.n));
      queued = queued;
    }

pub loop-next-init : goal.loop-next-init
loop-next-init c =
    let s = c.args.s in
    let csr = c.args.csr.now in
    let limit = c.args.limit in
    let zero_label : slice_index c.args.labels.now s ≡ 0 = c.requires.start (omega (arith, c.if-limit-eq0.false)) in
    let queue : c.push.new.self.items ≡ s ∷ [] =
    c.in_ok-push.ensures.items ∙ ap (λ xs. xs ++ s ∷ []) c.requires.empty in
    rw (c.requires.blank, queue) (record {
      search =
          search-start limit csr.n csr.arcs (slice_index c.args.labels.now) s c.requires.source
          (omega (arith, c.if-limit-eq0.false)) zero_label;
      place = omega arith;
      some = omega arith;
      source = refl;
    })

pub loop-next-preserved : goal.loop-next-preserved
loop-next-preserved c =
    let visited = c.in_ok-visit.ensures in
    record {
      search = search-next visited.search visited.longer visited.visited;
      place = omega (arith, visited.longer);
      some = omega (arith, visited.longer);
      source = visited.source ∙ c.loop-next.invariant.source;
    }

pub returns : goal.returns
returns c =
    let inv = c.loop-next.invariant in
    record {
      exact = search-tight c.n.ensures.in_rows.ends inv.search (omega arith) inv.some inv.source;
      within = search-within inv.search;
      queued = search-queued inv.search;
    }

pub returns-in_err-visit-clause-within : goal.returns-in_err-visit-clause-within
returns-in_err-visit-clause-within c = search-within c.in_err-visit.ensures.search

pub returns-in_err-visit-clause-queued : goal.returns-in_err-visit-clause-queued
returns-in_err-visit-clause-queued c = search-queued c.in_err-visit.ensures.search
