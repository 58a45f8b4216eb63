use Rattle.std.proofs.Common.{◌∙◌, ap, None, Some, sym}
use Rattle.dimacs_text.specs.Lines.{fields}
use Rattle.dimacs_text.proofs.AfterGraphLemmas.{others_no_head, section_head}
use Rattle.dimacs_text.proofs.head.SectionHead.of.Goals as goal

pub returns-in_err-args : goal.returns-in_err-args
returns-in_err-args c = c.from_residual.ensures ∙ sym (others_no_head c.args.line.now c.in_err-args.ensures)

pub returns-in_err-head : goal.returns-in_err-head
returns-in_err-head c =
    c.from_residual-in_err-head.ensures
    ∙ sym
    (section_head c.args.line.now (fields c.in_ok-args.args.now) None c.in_ok-args.ensures.0
    c.in_ok-args.ensures.1 c.in_err-head.ensures)

pub returns : goal.returns
returns c =
    ap (λ x. Some (record c.in_ok-head.head { bound = x })) c.read_bound-bound.ensures
    ∙ sym
    (section_head c.args.line.now (fields c.in_ok-args.args.now)
    (Some (c.in_ok-head.head, fields c.in_ok-head.args.now)) c.in_ok-args.ensures.0 c.in_ok-args.ensures.1
    c.in_ok-head.ensures)
