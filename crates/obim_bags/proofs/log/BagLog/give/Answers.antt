-- The rule allows the step.
use Rattle.std.proofs.Common.{◌≡◌, ◌∙◌, ap, arith, List, [], ◌∷◌, ℕ}
use Rattle.atomic_table.specs.Table.{Me, rest}
use Rattle.obim_bags.specs.declared.log_rule.LogKnown.{LogKnown}
use Rattle.obim_bags.specs.Entries.{EntriesSeen, bags_of}
use Rattle.obim_bags.proofs.LogRule.{releases}
use Rattle.obim_bags.proofs.log.BagLog.give.Goals as goal

pub swap-requires : goal.swap-requires
swap-requires c =
    let me = c.args.seat.now.me in
    let filled : c.exchange.new.seat.me ≡ (me.0, (0, c.args.entries) ∷ []) =
    c.exchange.ensures.3
    ∙ ap (λ (slots : List (ℕ × EntriesSeen)). (me.0, (0, c.args.entries) ∷ rest slots)) c.requires.slot.1 in
    let same = rw (← c.self.view_is) at c.requires.table in (
      c.exchange.ensures.0 ∙ same,
      omega (arith, c.self.invariant.1),
      releases bags_of _ _ c.exchange.new.seat.me c.args.entries (ap (λ (m : Me EntriesSeen LogKnown). m.1) filled)
          (ap (λ (m : Me EntriesSeen LogKnown). m.0.holds) filled ∙ c.requires.holds)
          (rw (ap (λ (m : Me EntriesSeen LogKnown). m.0.list) filled) c.requires.longer),
    )
