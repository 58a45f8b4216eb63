use Rattle.std.proofs.Common.{rules}
use Rattle.session_answer.proofs.conversation.Conversation.refuse_last.Goals as goal

pub returns-clause-reply : goal.returns-clause-reply
returns-clause-reply g c = search rules

pub returns-clause-cut : goal.returns-clause-cut
returns-clause-cut g c = search rules
