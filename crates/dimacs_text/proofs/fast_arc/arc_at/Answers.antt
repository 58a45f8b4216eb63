use Rattle.std.proofs.Common.{◌∷◌, ◌+◌, drop, sym, ap, ◌∙◌}
use Rattle.dimacs_text.proofs.LineLemmas.{drop_next}
use Rattle.dimacs_text.proofs.FastArcLemmas.{arc_line}
use Rattle.dimacs_text.proofs.fast_arc.arc_at.Goals as goal

pub returns-clause-line : goal.returns-clause-line
returns-clause-line c =
    let bytes = c.args.bytes.now in
    let u = c.in_ok-tail.tail in
    let v = c.in_ok-head.head in
    let w = c.in_ok-weight.weight in
    let within = sym c.admits_arc.ensures ∙ c.if-not-admits_arc.false in
    arc_line c.args.vertices (drop c.args.start bytes) (drop (c.args.start + 1) bytes)
    (drop c.in_ok-tail.end bytes) (drop c.in_ok-head.end bytes) (drop c.in_ok-weight.end bytes)
    (drop c.in_ok-after.after bytes) u v w
    (drop_next bytes c.args.start c.requires.inside
    ∙ ap (λ b. b ∷ drop (c.args.start + 1) bytes) c.if-bytes-start-ne97.false) c.in_ok-tail.ensures.number
    c.in_ok-head.ensures.number c.in_ok-weight.ensures.number c.in_ok-after.ensures.ends within
