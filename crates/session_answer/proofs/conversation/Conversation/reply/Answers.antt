use Rattle.std.proofs.Common.{[], ◌∷◌}
use Rattle.std.proofs.lemmas.Result.{on_err_weaker}
use Rattle.request_reader.specs.Reading.{outcome_of}
use Rattle.session_answer.specs.Terms.{terms_of}
use Rattle.session_answer.specs.Replies.{AreReplies, IsReplyFor}
use Rattle.session_answer.proofs.CutLemmas.{first_cut}
use Rattle.session_answer.proofs.ReplyLemmas.{replied_once}
use Rattle.session_answer.proofs.conversation.Conversation.reply.Goals as goal

pub returns-in-Some-clause-replied : goal.returns-in-Some-clause-replied
returns-in-Some-clause-replied g c graph holds =
    let terms = terms_of c.args.context.now.asked.now in
    rw c.in-Some.is
    (replied_once terms graph (outcome_of c.in-Some.request) _ _ _ c.reply.result (c.reply.ensures.reply graph holds)
    (c.reply.ensures.graph graph holds))

pub returns-in-Some-clause-cut : goal.returns-in-Some-clause-cut
returns-in-Some-clause-cut g c graph holds =
    let terms = terms_of c.args.context.now.asked.now in
    let outcome = outcome_of c.in-Some.request in
    rw c.in-Some.is
    (on_err_weaker c.reply.result
    (λ cut.
    first_cut (IsReplyFor terms graph outcome) (AreReplies terms graph (outcome ∷ [])) _ _
    (λ text is. (is.0, is.1, is.3, is.2)) cut)
    (c.reply.ensures.cut graph holds))
