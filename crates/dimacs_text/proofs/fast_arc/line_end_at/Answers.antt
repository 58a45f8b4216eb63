use Rattle.std.proofs.Common.{[], ◌∷◌, ◌+◌, drop, refl, ap, arith}
use Rattle.dimacs_text.proofs.LineLemmas.{drop_next}
use Rattle.dimacs_text.proofs.FastArcLemmas.{not_last}
use Rattle.dimacs_text.proofs.fast_arc.line_end_at.Goals as goal

pub returns-then-bytes-start-eq10-clause-ends : goal.returns-then-bytes-start-eq10-clause-ends
returns-then-bytes-start-eq10-clause-ends c = record {
  whole = 10 ∷ [];
  joined = rw (drop_next c.args.bytes.now c.args.start c.requires.inside, c.if-bytes-start-eq10.true) refl;
  line = [];
  split = λ more. refl;
  trimmed = refl;
}

pub returns-then-bytes-start-eq10-2-clause-ends : goal.returns-then-bytes-start-eq10-2-clause-ends
returns-then-bytes-start-eq10-2-clause-ends c =
    let bytes = c.args.bytes.now in
    let start = c.args.start in
    let next = not_last bytes start c.requires.ended c.requires.inside c.if-bytes-start-eq10.false in
    record {
      whole = 13 ∷ 10 ∷ [];
      joined =
          rw (
            drop_next bytes start c.requires.inside,
            c.if-bytes-start-eq13.true,
            drop_next bytes (start + 1) next,
            c.if-bytes-start-eq10-2.true,
          ) (ap (λ n. 13 ∷ 10 ∷ drop n bytes) (omega arith));
      line = 13 ∷ [];
      split = λ more. refl;
      trimmed = refl;
    }
