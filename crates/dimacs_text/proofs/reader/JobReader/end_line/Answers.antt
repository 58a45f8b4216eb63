use Rattle.std.proofs.Common.{◌++◌, sym, ap, subst, ◌∙◌, append_assoc, length-append, arith, length}
use Rattle.dimacs_text.specs.Reading.{HasReadLines, Keeps}
use Rattle.dimacs_text.proofs.ReaderLemmas.{comment_in, comment_kept, kept_whole}
use Rattle.dimacs_text.proofs.reader.JobReader.end_line.Goals as goal

pub returns-then-self-clause-reads : goal.returns-then-self-clause-reads
returns-then-self-clause-reads c text r few =
    let old = c.args.self.now in
    let end = c.args.end.now in
    let found =
    comment_in old.lines.fault r.whole old.unfinished.items text c.requires.right
    (subst (λ inside. Keeps old.lines.fault inside r.whole old.unfinished.items text) c.if-self.true r.keeps) in
    let len = ap (λ l. length l) found.1 ∙ length-append r.whole found.0 in
    subst (λ bytes. HasReadLines c.pass_comment.new.self bytes)
    (sym (ap (λ t. t ++ end) found.1 ∙ append_assoc r.whole found.0 end))
    (c.pass_comment.ensures.passes r.whole found.0 end r.lines found.2 (c.requires.comment c.if-self.true)
    (omega (arith, few, len)))

pub returns-then-self-clause-kept : goal.returns-then-self-clause-kept
returns-then-self-clause-kept c text r =
    let old = c.args.self.now in
    comment_kept old.lines.fault r.whole old.unfinished.items text c.requires.right
    (subst (λ inside. Keeps old.lines.fault inside r.whole old.unfinished.items text) c.if-self.true r.keeps)

pub returns : goal.returns
returns c =
    let old = c.args.self.now in
    let kept = old.unfinished.items in
    let end = c.args.end.now in
    let line = c.deref.result.now in
    record {
      reads = λ text r few.
          let is =
          kept_whole old.lines.fault r.whole kept text c.requires.right
          (subst (λ inside. Keeps old.lines.fault inside r.whole kept text) c.if-self.false r.keeps) in
          let line_is = c.deref.ensures.value ∙ c.in_ok-extend_from_slice.ensures.items in
          let before = ap (λ l. length l) is ∙ length-append r.whole kept in
          let here = ap (λ l. length l) line_is ∙ length-append kept end in
          subst (λ bytes. HasReadLines c.read.new.self bytes)
          (ap (λ l. r.whole ++ l) line_is ∙ sym (append_assoc r.whole kept end) ∙ ap (λ t. t ++ end) (sym is))
          (c.in_ok-read.ensures.reads r.whole r.lines (omega (arith, few, before, here)));
      kept = λ text r. c.clear.ensures.items;
      outside = c.if-self.false;
    }
