-- With labels that are least up to the limit the hops are fewest.
use Rattle.std.proofs.Common.{◌≤◌, [], take_at, refl, arith}
use Rattle.route_walks.specs.declared.graph.TheConstants.{INF}
use Rattle.walk_report.specs.Hop.{AreHopsBelow}
use Rattle.walk_report.proofs.LeastWalks.{label-le-cost}
use Rattle.walk_report.proofs.Searching.{tight-fewest}
use Rattle.walk_report.proofs.hop.hops_below.Goals as goal

pub search-requires-clause-start : goal.search-requires-clause-start
search-requires-clause-start c some =
    let few : c.args.limit ≤ INF = omega (arith, c.ranges.limit.fits) in
    omega (
      arith,
      label-le-cost few c.n-n.ensures.in_rows.ends c.requires.least c.args.s [] c.requires.source (omega (arith, some)) refl,
    )

pub returns-clause-exact : goal.returns-clause-exact
returns-clause-exact c =
    let few : c.args.limit ≤ INF = omega (arith, c.ranges.limit.fits) in
    let exact : AreHopsBelow c.args.limit c.args.csr.now.n c.args.csr.now.arcs c.args.s c.args.labels.now c.search.new.hops =
    tight-fewest few c.n-n.ensures.in_rows.ends c.requires.source c.requires.least c.in_ok-search.ensures.exact in
    rw (take_at c.search.new.hops _ c.in_ok-hops.hops.len (omega (arith, exact.count, c.in_ok-hops.ensures.len, c.n-n.ensures.vertices)))
    exact

pub returns-clause-from_one_source : goal.returns-clause-from_one_source
returns-clause-from_one_source c = record {
  source = c.args.s;
  within = c.requires.source;
  limit = c.args.limit;
  few = omega (arith, c.ranges.limit.fits);
  least = c.requires.least;
  exact = returns-clause-exact c;
}
