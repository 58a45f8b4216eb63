-- One mirror more is joined.
use Rattle.std.proofs.Common.{◌≡◌, ◌∙◌, ap, sym, ◌<◌, List, [], ◌∷◌, ◌++◌, reverse, append_assoc, Some, arith}
use Rattle.std.specs.declared.vec.Vec.{Vec}
use Rattle.std.specs.declared.alloc.Global.{Global}
use Rattle.std.proofs.lemmas.List.{map-append, reverse-append}
use Rattle.std.proofs.lemmas.List.Elements.{All-cons, All-head, All-nil, All-pop, All-push, All-tail}
use Rattle.atomic_table.specs.Table.{Me}
use mathlib.Core.List.{IsPrefix}
use Rattle.obim_bags.specs.Bags.{BagSeen}
use Rattle.obim_bags.specs.Logs.{MirrorSeen, AccessSeen, bags_in}
use Rattle.obim_bags.specs.Entries.{EntriesSeen, bags_of}
use Rattle.obim_bags.specs.LogRule.{IsWithin, joined_known}
use Rattle.obim_bags.specs.declared.log_rule.LogKnown.{LogKnown}
use Rattle.obim_bags.specs.Settling.{KnowsAllOf, lists_of, accesses_of}
use Rattle.obim_bags.proofs.LogRule.{joins}
use Rattle.obim_bags.proofs.Listed.{all_split}
use Rattle.obim_bags.proofs.Prefixes.{prefix_trans}
use Rattle.obim_bags.proofs.log.BagLog.join.Goals as goal

-- the last mirror's accesses come next
taken_last : (held : List (List AccessSeen)) (mirrors rest : List MirrorSeen) (last : MirrorSeen)
    → mirrors ≡ rest ++ last ∷ []
    → (held ++ last.accesses ∷ []) ++ reverse (accesses_of rest) ≡ held ++ reverse (accesses_of mirrors)
taken_last held mirrors rest last is =
    rw (
      is,
      map-append (λ (mirror : MirrorSeen). mirror.accesses) rest (last ∷ []),
      reverse-append (accesses_of rest)
          (last.accesses ∷ []),
    )
    (append_assoc held (last.accesses ∷ []) (reverse (accesses_of rest)))

-- one vector more
held_more : (held new : List (Vec AccessSeen Global)) (last : Vec AccessSeen Global) (accesses : List AccessSeen)
    → new ≡ held ++ last ∷ []
    → last.items ≡ accesses → lists_of new ≡ lists_of held ++ accesses ∷ []
held_more held new last accesses is same =
    ap (λ (vs : List (Vec AccessSeen Global)). lists_of vs) is
    ∙ map-append (λ (v : Vec AccessSeen Global). v.items) held (last ∷ [])
    ∙ ap (λ (ps : List AccessSeen). lists_of held ++ ps ∷ []) same

-- the joined seat knows what both knew
knows_more : (mine theirs new : LogKnown) (held : List (List AccessSeen)) (accesses : List AccessSeen)
    → new ≡ joined_known mine theirs
    → KnowsAllOf mine held → IsPrefix (bags_in accesses) theirs.list → KnowsAllOf new (held ++ accesses ∷ [])
knows_more mine theirs new held accesses is knows begins bags within =
    let both : IsWithin bags (joined_known mine theirs) = rw (← is) within in
    let P = λ (list : List BagSeen). IsPrefix list bags in
    let parts = all_split P mine.others theirs.others
    (All-tail P theirs.list (mine.others ++ theirs.others) both.others) in
    All-push (λ (ps : List AccessSeen). IsPrefix (bags_in ps) bags) held accesses
    (knows bags (record { list = both.list; others = parts.0 }))
    (prefix_trans (bags_in accesses) theirs.list bags begins
    (All-head P theirs.list (mine.others ++ theirs.others) both.others))

knows_first : (known : LogKnown) (accesses : List AccessSeen) → IsPrefix (bags_in accesses) known.list
    → KnowsAllOf known (accesses ∷ [])
knows_first known accesses begins bags within =
    let P = λ (ps : List AccessSeen). IsPrefix (bags_in ps) bags in
    All-cons P accesses [] (prefix_trans (bags_in accesses) known.list bags begins within.list) (All-nil P)

pub loop-mirror-init : goal.loop-mirror-init
loop-mirror-init c =
    let parts = c.into_parts-seat.ensures in
    let popped = All-pop (λ (mirror : MirrorSeen). mirror.log ≡ c.args.self.now) _ _
    (Some c.in-Some.mirror) c.in-Some.ensures.items c.requires in
    let held = held_more [] c.push.new.self.items c.into_parts-seat.result.1 _
    (rw c.new-held.ensures.items at c.in_ok-push.ensures.items) parts.accesses in
    record {
      log = parts.log ∙ popped.1;
      logs = popped.0;
      slots = parts.slots;
      holds = parts.holds;
      known = rw held (knows_first c.into_parts-seat.result.0.me.0 c.in-Some.mirror.accesses parts.list);
      held = rw held (taken_last [] c.args.mirrors.items c.pop.new.self.items c.in-Some.mirror c.in-Some.ensures.items);
    }

pub join_seat-requires : goal.join_seat-requires
join_seat-requires c =
    let parts = c.into_parts-other.ensures in
    let popped = All-pop (λ (mirror : MirrorSeen). mirror.log ≡ c.args.self.now) _ _
    (Some c.in-Some-pop.mirror) c.in-Some-pop.ensures.items c.loop-mirror.invariant.logs in
    let word : 0 < c.self.inside.table.shared.table_id.words = omega (arith, c.self.invariant.1) in (
      c.loop-mirror.invariant.log ∙ sym c.self.view_is,
      parts.log ∙ popped.1
          ∙ sym c.self.view_is,
      parts.slots,
      word,
      joins bags_of _ _ _ _ c.loop-mirror.invariant.holds parts.holds,
    )

pub loop-mirror-preserved : goal.loop-mirror-preserved
loop-mirror-preserved c =
    let parts = c.into_parts-other.ensures in
    let popped = All-pop (λ (mirror : MirrorSeen). mirror.log ≡ c.args.self.now) _ _
    (Some c.in-Some-pop.mirror) c.in-Some-pop.ensures.items c.loop-mirror.invariant.logs in
    let joined = c.join_seat.ensures in
    let held = held_more c.loop-mirror.held.items c.push-in-Some-pop.new.self.items c.into_parts-other.result.1 _
    c.in_ok-push-2.ensures.items parts.accesses in
    record {
      log = joined.0 ∙ c.loop-mirror.invariant.log;
      logs = popped.0;
      slots = ap (λ (me : Me EntriesSeen LogKnown). me.1) joined.2 ∙ c.loop-mirror.invariant.slots;
      holds = ap (λ (me : Me EntriesSeen LogKnown). me.0.holds) joined.2 ∙ c.loop-mirror.invariant.holds;
      known = rw held
          (knows_more c.loop-mirror.seat.me.0 c.into_parts-other.result.0.me.0 c.join_seat.new.seat.me.0
          (lists_of c.loop-mirror.held.items) c.in-Some-pop.mirror.accesses
          (ap (λ (me : Me EntriesSeen LogKnown). me.0) joined.2) c.loop-mirror.invariant.known parts.list);
      held = rw held
          (taken_last (lists_of c.loop-mirror.held.items) _ c.pop-in-loop-mirror.new.self.items c.in-Some-pop.mirror
          c.in-Some-pop.ensures.items) ∙ c.loop-mirror.invariant.held;
    }
