use Rattle.std.proofs.Common.{ap}
use Rattle.dimacs_text.specs.Lines.{fields, without_cr}
use Rattle.dimacs_text.specs.Heads.{begins_section, front}
use Rattle.dimacs_text.proofs.AfterGraphLemmas.{stripped}
use Rattle.dimacs_text.proofs.head.strip_front.Goals as goal

pub returns : goal.returns
unfolding begins_section
returns c =
    stripped front _ (fields (without_cr c.args.line.now)) _ c.strip_leading.result c.front.ensures
    (ap (λ l. fields l) c.trim_cr.ensures) c.strip_leading.ensures
