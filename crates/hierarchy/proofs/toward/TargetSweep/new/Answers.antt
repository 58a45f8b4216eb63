use Rattle.hierarchy.proofs.toward.TargetSweep.new.Goals as goal

pub invariant_of-result : goal.invariant_of-result
invariant_of-result c =
    rw c.of.ensures (record {
      inside = c.requires;
      placed = rw c.deref.ensures.value at c.in-Some.ensures;
      known = rw c.down.ensures.vertices at c.in-Some-order_for.ensures.known;
      upward = rw c.down.ensures.down at c.in-Some-order_for.ensures.upward;
      within = rw c.deref-2.ensures.value at c.in-Some-order_for.ensures.within;
    })
