use Rattle.std.proofs.Common.{length, arith}
use Rattle.dimacs_text.proofs.ReaderLemmas.{lines_read}
use Rattle.dimacs_text.proofs.reader.LineReader.take_run.Goals as goal

pub returns-then-taken-clause-taken : goal.returns-then-taken-clause-taken
returns-then-taken-clause-taken c =
    rw c.if-taken.true
    (λ text part before are few short.
    let self = c.args.self.now in
    let count = length c.args.run.now.arcs.items in
    lines_read self.fault self.draft c.take_run-taken.new.self self.line c.saturating_add-self.result count text part
    c.requires.right before (c.take_run-taken.ensures.taken c.if-taken.true part are self.line) few
    (λ low. omega (arith, low, c.saturating_add-self.ensures, c.len.ensures, few, short)))
