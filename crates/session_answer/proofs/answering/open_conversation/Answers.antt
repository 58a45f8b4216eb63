use Rattle.std.proofs.Common.{[], ◌∙◌, refl}
use Rattle.session_answer.proofs.WholeLemmas.{begins_heard}
use Rattle.session_answer.proofs.answering.open_conversation.Goals as goal

pub returns-clause-kept : goal.returns-clause-kept
returns-clause-kept c = record {
  kept = c.requires.kept;
  first = c.args.line;
  ls = [];
  outcomes = [];
  requests = c.new.ensures.requests;
  vertices = c.new.ensures.vertices ∙ c.n-n.ensures.vertices;
}

pub returns-clause-heard : goal.returns-clause-heard
returns-clause-heard c terms graph written holds =
    begins_heard terms graph c.args.line _ written refl c.new-2.ensures.items c.new.ensures.requests
    (c.new.ensures.vertices ∙ c.n-n.ensures.vertices ∙ holds.weights.network.vertices) holds
