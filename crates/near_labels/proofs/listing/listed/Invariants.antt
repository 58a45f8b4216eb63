use Rattle.near_labels.proofs.Bounded.{IsListing}
use Rattle.near_labels.proofs.listing.listed.Given as goal

abbrev pub invariant-loop-v : goal.invariant-loop-v
invariant-loop-v l = IsListing l.labels l.noted l.bound l.v-index l.found.items l.next
