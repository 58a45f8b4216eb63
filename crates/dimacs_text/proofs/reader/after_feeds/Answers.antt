use Rattle.std.proofs.Common.{ap, arith, ◌≤◌, length, subst, sym}
use Rattle.std.proofs.lemmas.List.{take_all}
use Rattle.dimacs_text.specs.Lines.{lines}
use Rattle.dimacs_text.proofs.MissingLines.{feeds, few_feeds, fed_next, feed_last, other_next}
use Rattle.dimacs_text.proofs.reader.after_feeds.Goals as goal

pub loop-place-init : goal.loop-place-init
loop-place-init c = record { count = omega arith; more = c.requires.count }

pub loop-place-preserved-then-byte-ne10 : goal.loop-place-preserved-then-byte-ne10
loop-place-preserved-then-byte-ne10 c = record {
  count =
      omega (
        arith,
        c.loop-place.invariant.count,
        other_next c.args.bytes.now c.loop-place.place c.loop-place-test.true c.if-byte-ne10.true,
      );
  more = c.loop-place.invariant.more;
}

pub loop-place-preserved : goal.loop-place-preserved
loop-place-preserved c = record {
  count =
      omega (
        arith,
        c.loop-place.invariant.count,
        c.loop-place.invariant.more,
        c.saturating_sub-left.ensures,
        fed_next c.args.bytes.now c.loop-place.place c.loop-place-test.true c.if-byte-ne10.false,
      );
  more = omega (arith, c.if-left-eq0.false);
}

pub returns-then-left-eq0-clause-few : goal.returns-then-left-eq0-clause-few
returns-then-left-eq0-clause-few c =
    omega (
      arith,
      c.loop-place.invariant.count,
      c.loop-place.invariant.more,
      c.saturating_sub-left.ensures,
      c.if-left-eq0.true,
      feed_last c.args.bytes.now c.loop-place.place c.loop-place-test.true c.if-byte-ne10.false,
    )

pub returns-clause-few : goal.returns-clause-few
returns-clause-few c =
    let all = take_all c.loop-place.place c.args.bytes.now c.loop-place-test.false in
    let whole = take_all (length c.args.bytes.now) c.args.bytes.now (omega arith) in
    subst (λ l. length (lines l) ≤ c.args.count) (sym whole)
    (omega (
      arith,
      c.loop-place.invariant.count,
      c.loop-place.invariant.more,
      ap (λ l. feeds l) all,
      few_feeds c.args.bytes.now,
    ))
