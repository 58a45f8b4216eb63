use Rattle.std.proofs.Common.{◌∙◌, ap, None, Some, sym}
use Rattle.dimacs_text.specs.Lines.{fields}
use Rattle.dimacs_text.specs.reader.Entries.{entry_said}
use Rattle.dimacs_text.proofs.AfterGraphLemmas.{others_say, section_says_head}
use Rattle.dimacs_text.proofs.after_graph.read_line_after.Goals as goal

pub returns-in_default : goal.returns-in_default
returns-in_default c = c.read_line.ensures ∙ sym (others_say c.args.vertices c.args.line.now c.in_default.ensures)

pub returns-in_default-find_head : goal.returns-in_default-find_head
returns-in_default-find_head c =
    sym
    (section_says_head c.args.vertices c.args.line.now (fields c.in-Some.args.now) None c.in-Some.ensures.0
    c.in-Some.ensures.1 c.in_default-find_head.ensures)

pub returns-in-Ok : goal.returns-in-Ok
returns-in-Ok c =
    ap (λ r. entry_said r) (sym c.in-Ok.is)
    ∙ c.read_head.ensures
    ∙ sym
    (section_says_head c.args.vertices c.args.line.now (fields c.in-Some.args.now)
    (Some (c.in-Some-find_head.head, fields c.in-Some-find_head.args.now)) c.in-Some.ensures.0 c.in-Some.ensures.1
    c.in-Some-find_head.ensures)

pub returns-in-Err : goal.returns-in-Err
returns-in-Err c =
    ap (λ r. entry_said r) (sym c.in-Err.is)
    ∙ c.read_head.ensures
    ∙ sym
    (section_says_head c.args.vertices c.args.line.now (fields c.in-Some.args.now)
    (Some (c.in-Some-find_head.head, fields c.in-Some-find_head.args.now)) c.in-Some.ensures.0 c.in-Some.ensures.1
    c.in-Some-find_head.ensures)
