use Rattle.dimacs_text.specs.reader.Drafts.{progress_of}
use Rattle.dimacs_text.proofs.RequestLemmas.{said_fault, said_ok}
use Rattle.dimacs_text.proofs.request_draft.RequestDraft.read.Goals as goal

pub returns-clause-reads : goal.returns-clause-reads
returns-clause-reads c n ls p =
    said_ok n ls (progress_of c.args.self.now.draft) (progress_of c.read_after.new.draft) c.args.text.now
    c.read_after.result c.read_after.ensures.reads p

pub returns-clause-fault : goal.returns-clause-fault
returns-clause-fault c n ls p =
    said_fault n ls (progress_of c.args.self.now.draft) c.args.text.now c.args.line c.read_after.result
    c.read_after.ensures.fault p
