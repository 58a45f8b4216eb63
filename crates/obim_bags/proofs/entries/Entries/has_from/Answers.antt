-- One entry more was looked at.
use Rattle.std.proofs.Common.{◌<◌, length, arith, inl, inr}
use Rattle.std.proofs.lemmas.Bool.{cases_eq}
use Rattle.obim_bags.proofs.Listed.{found_at}
use Rattle.obim_bags.proofs.entries.Entries.has_from.Goals as goal

pub loop-place-preserved : goal.loop-place-preserved
loop-place-preserved c =
    let below : c.loop-place.place < length c.self.inside.list.items =
    omega (arith, c.len.ensures, c.loop-place-test.true, c.self.inside.list.ok) in
    let here = found_at c.self.inside.list.items c.loop-place.place c.index.result.now below c.index.ensures in
    record {
      begun = omega (arith, c.loop-place.invariant.begun);
      there = λ place from below.
          elim (cases_eq place c.loop-place.place) [
            | inl same ↦ rw (same, ← c.self.view_is) (c.index.result.now, here, c.has.ensures c.if-not-has.false)
            | inr other ↦ c.loop-place.invariant.there place from (omega arith)
          ];
    }
