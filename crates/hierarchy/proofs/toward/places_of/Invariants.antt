use Rattle.std.proofs.Common.{◌≡◌, map, take}
use Rattle.std.specs.Prelude.{slice_index}
use Rattle.hierarchy.proofs.toward.places_of.Given as goal

abbrev pub invariant-loop-v : goal.invariant-loop-v
invariant-loop-v l = l.found.items ≡ map (slice_index l.hierarchy.places) (take l.v-index l.vertices)
