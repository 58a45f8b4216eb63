use Rattle.std.proofs.Common.{◌≡◌, ◌-◌, ◌++◌, length, drop, take, arith, sym, ap, subst, ◌∙◌}
use Rattle.std.proofs.lemmas.List.{length-take-le}
use Rattle.dimacs_text.specs.reader.Drafts.{AreArcLines}
use Rattle.dimacs_text.proofs.ArcRunLemmas.{text_between}
use Rattle.dimacs_text.proofs.arc_runs.ArcRun.read_part.Goals as goal

pub returns-then-has_room : goal.returns-then-has_room
returns-then-has_room c =
    let bytes = c.args.bytes.now in
    let end = c.cut_at-end.result in
    let start = c.min-start.result in
    let inside = c.cut_at-end.ensures.place in
    let whole = length-take-le end bytes inside in
    let reads = c.read_run.ensures.reads in
    let place = c.read_run.ensures.place in
    let arcs : c.read_run.new.arcs.items ≡ reads.arcs =
    reads.appended ∙ ap (λ l. l ++ reads.arcs) (c.if-has_room.ensures.items ∙ c.begin.ensures.arcs) in
    rw (c.begin.ensures.start, c.begin.ensures.vertices)
    (record {
      inside = omega (arith, place.0, reads.number, ap (λ l. length l) arcs);
      ends = omega (arith, place.1, whole, inside);
      lines =
          subst (λ l. AreArcLines c.args.vertices (take (c.read_run.result.1 - start) (drop start bytes)) l) (sym arcs)
          (subst (λ t. AreArcLines c.args.vertices t reads.arcs)
          (sym (text_between bytes reads.text start c.read_run.result.1 end (omega (arith, place.0))
          (omega (arith, place.1, whole)) inside reads.joined)) reads.lines);
    })
