use Rattle.std.proofs.Common.{◌≡◌, ◌++◌, ◌+◌, drop, subst, sym, arith}
use Rattle.dimacs_text.specs.reader.Drafts.{IsReadTo, progress_of}
use Rattle.dimacs_text.proofs.LineLemmas.{line_split}
use Rattle.dimacs_text.proofs.DraftLemmas.{line_reads, line_fails, line_explained}
use Rattle.dimacs_text.proofs.draft.Draft.read_lines.Goals as goal

pub returns-in-Err-clause-fault : goal.returns-in-Err-clause-fault
returns-in-Err-clause-fault c room text more p =
    let bytes = c.args.bytes.now in
    let start = c.read_arcs-count.result.1 in
    let end = c.line_end-end in
    let so_far = c.loop-at.invariant.reads room in
    let place = c.read_arcs-count.ensures.place in
    let line : c.saturating_add-line.result ≡ c.loop-at.line + c.read_arcs-count.result.0 =
    omega (arith, room, so_far.0, place.0, place.1, c.saturating_add-line.ensures) in
    line_fails (progress_of c.read_arcs-count.new.self) text (drop start bytes ++ more) _
    (drop (end.result + 1) bytes ++ more) c.saturating_add-line.result c.in-Err.fault
    (line_split bytes start end.result end.ensures.place.0 end.ensures.place.1 end.ensures.feed end.ensures.first more)
    c.in-Err.ensures.fault
    (subst (λ n. IsReadTo text (drop start bytes ++ more) n (progress_of c.read_arcs-count.new.self)) (sym line)
    (c.read_arcs-count.ensures.reads c.loop-at.line text more (so_far.1 text more p)))

pub returns-in-Err-clause-explained : goal.returns-in-Err-clause-explained
returns-in-Err-clause-explained c room text more p =
    let bytes = c.args.bytes.now in
    let start = c.read_arcs-count.result.1 in
    let end = c.line_end-end in
    let so_far = c.loop-at.invariant.reads room in
    let place = c.read_arcs-count.ensures.place in
    let line : c.saturating_add-line.result ≡ c.loop-at.line + c.read_arcs-count.result.0 =
    omega (arith, room, so_far.0, place.0, place.1, c.saturating_add-line.ensures) in
    line_explained (progress_of c.read_arcs-count.new.self) text (drop start bytes ++ more) _
    (drop (end.result + 1) bytes ++ more) c.saturating_add-line.result c.in-Err.fault c.read.new.self.explanation
    (line_split bytes start end.result end.ensures.place.0 end.ensures.place.1 end.ensures.feed end.ensures.first more)
    c.in-Err.ensures.fault c.in-Err.ensures.explained
    (subst (λ n. IsReadTo text (drop start bytes ++ more) n (progress_of c.read_arcs-count.new.self)) (sym line)
    (c.read_arcs-count.ensures.reads c.loop-at.line text more (so_far.1 text more p)))

pub loop-at-preserved-then-at-bytes : goal.loop-at-preserved-then-at-bytes
loop-at-preserved-then-at-bytes c =
    let bytes = c.args.bytes.now in
    let start = c.read_arcs-count.result.1 in
    let end = c.line_end-end in
    let place = c.read_arcs-count.ensures.place in
    let after = end.ensures.place in
    record {
      inside = omega (arith, after.1);
      reads = λ room.
          let so_far = c.loop-at.invariant.reads room in
          let first : c.saturating_add-line.result ≡ c.loop-at.line + c.read_arcs-count.result.0 =
          omega (arith, room, so_far.0, place.0, place.1, c.saturating_add-line.ensures) in
          let next : c.saturating_add-line-in-Ok.result ≡ c.saturating_add-line.result + 1 =
          omega (arith, room, so_far.0, place.0, after.0, after.1, first, c.saturating_add-line-in-Ok.ensures) in (
            omega (arith, so_far.0, place.0, after.0, first, next),
            λ text more p.
                subst (λ n. IsReadTo text (drop (end.result + 1) bytes ++ more) n (progress_of c.read.new.self))
                (sym next)
                (line_reads (progress_of c.read_arcs-count.new.self) (progress_of c.read.new.self) text
                (drop start bytes ++ more) _ (drop (end.result + 1) bytes ++ more) c.saturating_add-line.result
                (line_split bytes start end.result after.0 after.1 end.ensures.feed end.ensures.first more)
                c.in-Ok.ensures.reads
                (subst (λ n. IsReadTo text (drop start bytes ++ more) n (progress_of c.read_arcs-count.new.self))
                (sym first)
                (c.read_arcs-count.ensures.reads c.loop-at.line text more (so_far.1 text more p)))),
          );
    }
