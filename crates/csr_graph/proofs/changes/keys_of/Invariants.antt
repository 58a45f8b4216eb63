use Rattle.std.proofs.Common.{◌≡◌, ◌<◌, ◌^◌, All, map, take}
use Rattle.csr_graph.specs.Removal.{key_of}
use Rattle.csr_graph.proofs.changes.keys_of.Given as goal

abbrev pub invariant-loop-tail : goal.invariant-loop-tail
invariant-loop-tail l = record {
  keys : l.keys.items ≡ map key_of (take l.tail-index l.pairs);
  heads : All (λ pair. pair.1 < 2 ^ 32) (take l.tail-index l.pairs);
}
