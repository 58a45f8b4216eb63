use Rattle.std.proofs.Common.{[], subst, sym}
use Rattle.dimacs_text.specs.reader.Requests.{HasSaid}
use Rattle.dimacs_text.proofs.RequestLemmas.{said_none}
use Rattle.dimacs_text.proofs.request_draft.RequestDraft.new.Goals as goal

pub returns-clause-read : goal.returns-clause-read
returns-clause-read c =
    subst (λ progress. HasSaid c.args.vertices [] progress) (sym c.after_graph.ensures) (said_none c.args.vertices)
