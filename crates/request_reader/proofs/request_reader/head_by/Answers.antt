use Rattle.std.proofs.Common.{◌∙◌, sym}
use Rattle.dimacs_text.proofs.Facts.{others_no_head}
use Rattle.request_reader.proofs.request_reader.head_by.Goals as goal

pub returns-else-begins : goal.returns-else-begins
returns-else-begins c = sym (others_no_head c.args.line.now (sym c.requires.begins ∙ c.if-begins.false))
