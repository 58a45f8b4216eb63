use Rattle.std.proofs.Common.{List, ℕ, [], ◌≡◌, Bool, false, subst, sym, ◌∙◌, arith}
use Rattle.dimacs_text.specs.reader.Drafts.{IsReadTo, progress_of}
use Rattle.dimacs_text.specs.Reading.{HasReadText}
use Rattle.dimacs_text.specs.declared.reader.LineReader.{LineReader}
use Rattle.dimacs_text.proofs.LineLemmas.{empty_length, lines_whole, filled_length}
use Rattle.dimacs_text.proofs.ReaderLemmas.{text_read, text_fails, text_explained, job_at_end, fault_at_end}
use Rattle.dimacs_text.proofs.DraftLemmas.{line_reads, line_fails, line_explained}
use Rattle.dimacs_text.proofs.ReaderLemmas.{comment_read, explained_at_end}
use Rattle.dimacs_text.proofs.reader.LineReader.finish.Goals as goal

pub returns-in-Some-clause-fault : goal.returns-in-Some-clause-fault
returns-in-Some-clause-fault c text r =
    text_fails c.args.self c.args.in_comment c.args.last.now text c.in-Some.kind c.in-Some.is r

pub returns-in-Some-clause-explained : goal.returns-in-Some-clause-explained
returns-in-Some-clause-explained c text r =
    text_explained c.args.self c.args.in_comment c.args.last.now text c.in-Some.kind c.in-Some.is r

-- no comment was begun
outside : (reader : LineReader) (in_comment : Bool) (kept text : List ℕ)
    → in_comment ≡ false → HasReadText reader in_comment kept text → HasReadText reader false kept text
outside reader in_comment kept text not_in r = subst (λ inside. HasReadText reader inside kept text) not_in r

-- the line of a comment is the last
after_comment : (c : goal.After-finish) (text : List ℕ)
    → HasReadText c.args.self c.args.in_comment c.args.last.now text
    → IsReadTo text [] c.saturating_add.result (progress_of c.args.self.draft)
after_comment c text r =
    let read =
    comment_read c.args.self c.args.last.now text c.in_default.is
    (subst (λ inside. HasReadText c.args.self inside c.args.last.now text) c.if-in_comment.true r) in
    subst (λ n. IsReadTo text [] n (progress_of c.args.self.draft))
    (omega (arith, read.0, r.short, c.saturating_add.ensures)) read.1

pub returns-then-in_comment-clause-job : goal.returns-then-in_comment-clause-job
returns-then-in_comment-clause-job c text r =
    job_at_end text c.saturating_add.result c.args.self.draft c.finish.result (after_comment c text r)
    c.finish.ensures.job

pub returns-then-in_comment-clause-fault : goal.returns-then-in_comment-clause-fault
returns-then-in_comment-clause-fault c text r =
    fault_at_end text c.saturating_add.result c.args.self.draft c.finish.result (after_comment c text r)
    c.finish.ensures.fault

pub returns-then-in_comment-clause-explained : goal.returns-then-in_comment-clause-explained
returns-then-in_comment-clause-explained c text r =
    explained_at_end text c.saturating_add.result c.args.self.draft c.finish.result (after_comment c text r)
    c.finish.ensures.explained

none_left : (c : goal.After-finish-then-is_empty) (text : List ℕ)
    → HasReadText c.args.self c.args.in_comment c.args.last.now text
    → IsReadTo text [] c.args.self.line (progress_of c.args.self.draft)
none_left c text r =
    subst (λ rest. IsReadTo text rest c.args.self.line (progress_of c.args.self.draft))
    (empty_length c.args.last.now (sym c.is_empty.ensures ∙ c.if-is_empty.true))
    (text_read c.args.self c.args.last.now text c.in_default.is (outside c.args.self c.args.in_comment c.args.last.now text c.if-in_comment.false r)).1

pub returns-then-is_empty-clause-job : goal.returns-then-is_empty-clause-job
returns-then-is_empty-clause-job c text r =
    job_at_end text c.args.self.line c.args.self.draft c.finish-then-is_empty.result (none_left c text r) c.finish-then-is_empty.ensures.job

pub returns-then-is_empty-clause-fault : goal.returns-then-is_empty-clause-fault
returns-then-is_empty-clause-fault c text r =
    fault_at_end text c.args.self.line c.args.self.draft c.finish-then-is_empty.result (none_left c text r) c.finish-then-is_empty.ensures.fault

pub returns-then-is_empty-clause-explained : goal.returns-then-is_empty-clause-explained
returns-then-is_empty-clause-explained c text r =
    explained_at_end text c.args.self.line c.args.self.draft c.finish-then-is_empty.result (none_left c text r)
    c.finish-then-is_empty.ensures.explained

last_read : (c : goal.After-finish-in-Ok) (text : List ℕ)
    → HasReadText c.args.self c.args.in_comment c.args.last.now text
    → IsReadTo text [] c.saturating_add-in-Ok.result (progress_of c.read.new.self)
last_read c text r =
    let read = text_read c.args.self c.args.last.now text c.in_default.is (outside c.args.self c.args.in_comment c.args.last.now text c.if-in_comment.false r) in
    let filled = filled_length c.args.last.now (sym c.is_empty.ensures ∙ c.if-is_empty.false) in
    subst (λ n. IsReadTo text [] n (progress_of c.read.new.self))
    (omega (arith, read.0, r.short, c.saturating_add-in-Ok.ensures))
    (line_reads (progress_of c.args.self.draft) (progress_of c.read.new.self) text c.args.last.now
    c.args.last.now [] c.args.self.line
    (lines_whole c.args.last.now filled (λ k few. read.2 k (omega arith) few)) c.in-Ok.ensures.reads read.1)

pub returns-in-Ok-clause-job : goal.returns-in-Ok-clause-job
returns-in-Ok-clause-job c text r =
    job_at_end text c.saturating_add-in-Ok.result c.read.new.self c.finish-in-Ok.result
    (last_read c text r) c.finish-in-Ok.ensures.job

pub returns-in-Ok-clause-fault : goal.returns-in-Ok-clause-fault
returns-in-Ok-clause-fault c text r =
    fault_at_end text c.saturating_add-in-Ok.result c.read.new.self c.finish-in-Ok.result (last_read c text r)
    c.finish-in-Ok.ensures.fault

pub returns-in-Ok-clause-explained : goal.returns-in-Ok-clause-explained
returns-in-Ok-clause-explained c text r =
    explained_at_end text c.saturating_add-in-Ok.result c.read.new.self c.finish-in-Ok.result (last_read c text r)
    c.finish-in-Ok.ensures.explained

pub returns-in-Err-clause-fault : goal.returns-in-Err-clause-fault
returns-in-Err-clause-fault c text r =
    let read = text_read c.args.self c.args.last.now text c.in_default.is (outside c.args.self c.args.in_comment c.args.last.now text c.if-in_comment.false r) in
    let filled = filled_length c.args.last.now (sym c.is_empty.ensures ∙ c.if-is_empty.false) in
    line_fails (progress_of c.args.self.draft) text c.args.last.now c.args.last.now [] c.args.self.line c.in-Err.fault
    (lines_whole c.args.last.now filled (λ k few. read.2 k (omega arith) few)) c.in-Err.ensures.fault read.1

pub returns-in-Err-clause-explained : goal.returns-in-Err-clause-explained
returns-in-Err-clause-explained c text r =
    let read = text_read c.args.self c.args.last.now text c.in_default.is (outside c.args.self c.args.in_comment c.args.last.now text c.if-in_comment.false r) in
    let filled = filled_length c.args.last.now (sym c.is_empty.ensures ∙ c.if-is_empty.false) in
    line_explained (progress_of c.args.self.draft) text c.args.last.now c.args.last.now [] c.args.self.line
    c.in-Err.fault c.read.new.self.explanation
    (lines_whole c.args.last.now filled (λ k few. read.2 k (omega arith) few)) c.in-Err.ensures.fault
    c.in-Err.ensures.explained read.1
