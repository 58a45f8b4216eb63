-- Each turn puts the words of a vertex more.
use Rattle.std.proofs.Common.{ℕ, arith, subst}
use Rattle.label_words.proofs.Sowing.{AreCleared, cleared_more, cleared_none, cleared_sown}
use Rattle.label_words.proofs.layout.put_cleared.Goals as goal

pub loop-init : goal.loop-init
loop-init c = (rw c.requires.first cleared_none, c.requires.room)

pub push_reserved-requires : goal.push_reserved-requires
push_reserved-requires c = omega (arith, c.loop.invariant.0.count, c.loop.invariant.1, c.loop.words.ok)

pub push_reserved-requires-in-loop : goal.push_reserved-requires-in-loop
push_reserved-requires-in-loop c =
    omega (
      arith,
      c.loop.invariant.0.count,
      c.loop.invariant.1,
      c.loop.words.ok,
      c.push_reserved.ensures.len,
      c.push_reserved.ensures.capacity,
    )

pub loop-preserved : goal.loop-preserved
loop-preserved c = (
  rw (c.push_reserved-in-loop.ensures.items, c.push_reserved.ensures.items)
      (cleared_more c.loop.words.items c.loop.counter c.loop.invariant.0),
  omega (arith, c.loop.invariant.1, c.push_reserved.ensures.capacity, c.push_reserved-in-loop.ensures.capacity),
)

pub returns : goal.returns
returns c =
    cleared_sown c.loop.words.items c.args.n c.requires.vertices
    (subst (λ (k : ℕ). AreCleared c.loop.words.items k k)
    (omega (arith, c.loop-test.false, c.loop.auto.counter-end)) c.loop.invariant.0)
