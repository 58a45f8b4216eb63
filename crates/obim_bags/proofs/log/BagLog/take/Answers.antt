-- The rule allows the step, and the list in the slot begins with what the seat knew.
use Rattle.std.proofs.Common.{◌∙◌, ap, arith}
use Rattle.std.proofs.lemmas.Bool.{false≢true}
use Rattle.obim_bags.specs.Entries.{bags_of}
use Rattle.obim_bags.proofs.LogRule.{acquires, taken_within}
use Rattle.obim_bags.proofs.log.BagLog.take.Goals as goal
use Rattle.obim_bags.proofs.log.BagLog.take.Goals.{in-None, in-Some+then-swap-eq0}

pub swap-requires : goal.swap-requires
swap-requires g c =
    let same = rw (← c.self.view_is) at c.requires.table in
    let empty = ap (λ me. me.1) c.loop.invariant.me ∙ c.requires.slots in
    (c.loop.invariant.table ∙ same, omega (arith, c.self.invariant.1), acquires bags_of _ _ _ empty)

pub returns-clause-within : goal.returns-clause-within
returns-clause-within g c =
    elim c.match-next.branch [
      | in-None w ↦ absurd (false≢true w.in-None.ensures.steps)
      | in-Some+then-swap-eq0 w ↦
          rw (← c.loop.invariant.me)
          (taken_within bags_of c.loop.seat.me w.swap.new.seat.me w.swap.result c.exchange.result _ w.swap.ensures.2
          w.if-swap-eq0.true
          (rw w.seat-is at c.exchange.ensures.2))
    ]
