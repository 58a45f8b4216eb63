use Rattle.std.proofs.Common.{◌∙◌, ◌++◌, ◌∷◌, [], ap, append_assoc, subst, sym}
use Rattle.std.proofs.lemmas.Result.{on_err_weaker, on_ok_weaker}
use Rattle.request_reader.specs.Reading.{HasRequests, IsRefusedLast, last_of, outcomes_in, outcomes_of, vertices_of}
use Rattle.request_reader.specs.Requests.{no_memory}
use Rattle.session_answer.specs.Terms.{terms_of}
use Rattle.session_answer.specs.Replies.{AreKept, vertices_in}
use Rattle.session_answer.specs.Conversations.{graph_of}
use Rattle.session_answer.specs.Replies.{AreReplies, HoldsGraph}
use Rattle.session_answer.proofs.CutLemmas.{after_cut, cut_after_lines, front_cut, nothing_cut, on_err, refusal_cut}
use Rattle.session_answer.proofs.ReplyLemmas.{refusable_last, refused_reply, replies_then, reply_not_started, reply_written}
use Rattle.session_answer.proofs.conversation.Conversation.take_line.Goals as goal

pub returns-clause-replied : goal.returns-clause-replied
returns-clause-replied g c graph first ls before is =
    let terms = terms_of c.args.context.now.asked.now in
    let events = c.read-events.result in
    let so_far = graph_of graph is.outcomes in
    let cut = reply_written _ _ _ c.in-Written.is (c.in_ok-reply.ensures.replied so_far is.replied.holds) in
    let same = c.in_ok-reply-2.ensures.requests ∙ c.in_ok-reply.ensures.requests in
    let found =
    reply_written _ _ _ c.in-Written-2.is
    (c.in_ok-reply-2.ensures.replied (graph_of so_far (outcomes_in events.ended)) cut.holds) in
    record {
      outcomes = is.outcomes ++ outcomes_of events;
      requests =
          subst (λ reader. HasRequests reader first (ls ++ c.args.line.now ∷ []) (is.outcomes ++ outcomes_of events)) (sym same)
          (c.read-events.ensures.requests first ls is.outcomes is.requests);
      vertices = ap (λ reader. vertices_of reader) same ∙ c.read-events.ensures.vertices ∙ is.vertices;
      replied =
          replies_then terms graph is.outcomes (outcomes_of events) _ _ _ _ _ is.replied
          (replies_then terms so_far (outcomes_in events.ended) (outcomes_in events.completed) _ _ _ _ _ cut found);
    }

pub returns-in_err-reply-clause-cut : goal.returns-in_err-reply-clause-cut
returns-in_err-reply-clause-cut g c graph first ls before is =
    let terms = terms_of c.args.context.now.asked.now in
    let law = c.answer_texts_by_lines_are_unique.ensures in
    let events = c.read-events.result in
    let so_far = graph_of graph is.outcomes in
    on_err
    (cut_after_lines law terms graph first c.read-events.new.self (ls ++ c.args.line.now ∷ [])
    (is.outcomes ++ outcomes_of events) before _ (c.read-events.ensures.requests first ls is.outcomes is.requests)
    (c.read-events.ensures.vertices ∙ is.vertices)
    (after_cut law terms graph is.outcomes (outcomes_of events) c.args.self.now.session before _ _ is.replied
    (front_cut law terms so_far (outcomes_in events.ended) (outcomes_in events.completed) _ _
    (c.in_err-reply.ensures.cut so_far is.replied.holds))))
    c.from_residual.result

pub returns-in_default-clause-cut : goal.returns-in_default-clause-cut
returns-in_default-clause-cut g c graph first ls before is =
    let terms = terms_of c.args.context.now.asked.now in
    let law = c.answer_texts_by_lines_are_unique.ensures in
    let events = c.read-events.result in
    let so_far = graph_of graph is.outcomes in
    let none = reply_not_started _ _ _ c.in_default.is (c.in_ok-reply.ensures.replied so_far is.replied.holds) in
    cut_after_lines law terms graph first c.read-events.new.self (ls ++ c.args.line.now ∷ [])
    (is.outcomes ++ outcomes_of events) before _ (c.read-events.ensures.requests first ls is.outcomes is.requests)
    (c.read-events.ensures.vertices ∙ is.vertices)
    (after_cut law terms graph is.outcomes (outcomes_of events) c.args.self.now.session before _ _ is.replied
    (nothing_cut (AreReplies terms so_far (outcomes_of events)) terms so_far _ _ _ none))

pub returns-in_err-reply-2-clause-cut : goal.returns-in_err-reply-2-clause-cut
returns-in_err-reply-2-clause-cut g c graph first ls before is =
    let terms = terms_of c.args.context.now.asked.now in
    let law = c.answer_texts_by_lines_are_unique.ensures in
    let events = c.read-events.result in
    let so_far = graph_of graph is.outcomes in
    let cut = reply_written _ _ _ c.in-Written.is (c.in_ok-reply.ensures.replied so_far is.replied.holds) in
    let both = outcomes_of events in
    on_err
    (cut_after_lines law terms graph first c.read-events.new.self (ls ++ c.args.line.now ∷ [])
    (is.outcomes ++ both) before _ (c.read-events.ensures.requests first ls is.outcomes is.requests)
    (c.read-events.ensures.vertices ∙ is.vertices)
    (after_cut law terms graph is.outcomes both c.args.self.now.session before _ _ is.replied
    (after_cut law terms so_far (outcomes_in events.ended) (outcomes_in events.completed) c.reply.new.self.session _ _ _ cut
    (c.in_err-reply-2.ensures.cut (graph_of so_far (outcomes_in events.ended)) cut.holds))))
    c.from_residual-in_err-reply-2.result

pub returns-in_default-2-clause-replied : goal.returns-in_default-2-clause-replied
returns-in_default-2-clause-replied g c graph first ls before is =
    let terms = terms_of c.args.context.now.asked.now in
    let events = c.read-events.result in
    let so_far = graph_of graph is.outcomes in
    let after = graph_of so_far (outcomes_in events.ended) in
    let all = ls ++ c.args.line.now ∷ [] in
    let refusal = no_memory (last_of c.reply-2.new.self.requests) ∷ [] in
    let cut = reply_written _ _ _ c.in-Written.is (c.in_ok-reply.ensures.replied so_far is.replied.holds) in
    let none = reply_not_started _ _ _ c.in_default-2.is (c.in_ok-reply-2.ensures.replied after cut.holds) in
    let asked = reply_not_started _ _ _ c.in_default-2.is c.in_ok-reply-2.ensures.asked in
    let same = c.in_ok-reply-2.ensures.requests ∙ c.in_ok-reply.ensures.requests in
    let last =
    refusable_last events.completed c.read-events.new.self first all (is.outcomes ++ outcomes_in events.ended) asked
    (c.read-events.ensures.refusable first ls is.outcomes is.requests) in
    let reply =
    c.refuse_last.ensures.requests first all (is.outcomes ++ outcomes_in events.ended)
    (subst (λ reader. IsRefusedLast reader first all (is.outcomes ++ outcomes_in events.ended)) (sym same) last) in
    on_ok_weaker c.refuse_last.result
    (λ given. record {
      outcomes = is.outcomes ++ (outcomes_in events.ended ++ refusal);
      requests =
          subst (λ outcomes. HasRequests c.refuse_last.new.self.requests first all outcomes)
          (append_assoc is.outcomes (outcomes_in events.ended) refusal) reply;
      vertices =
          c.refuse_last.ensures.vertices ∙ ap (λ reader. vertices_of reader) same ∙ c.read-events.ensures.vertices
          ∙ is.vertices;
      replied =
          replies_then terms graph is.outcomes (outcomes_in events.ended ++ refusal) _ _ _ _ _ is.replied
          (replies_then terms so_far (outcomes_in events.ended) refusal _ _ _ _ _ cut
          (replies_then terms after [] refusal _ _ _ _ _ none
          (refused_reply terms after (last_of c.reply-2.new.self.requests) c.refuse_last.new.self.session _ _
          (subst (λ session. HoldsGraph after session) (sym c.refuse_last.ensures.session) none.holds) given)));
    })
    c.refuse_last.ensures.reply

pub returns-in_default-2-clause-cut : goal.returns-in_default-2-clause-cut
returns-in_default-2-clause-cut g c graph first ls before is =
    let terms = terms_of c.args.context.now.asked.now in
    let law = c.answer_texts_by_lines_are_unique.ensures in
    let events = c.read-events.result in
    let so_far = graph_of graph is.outcomes in
    let after = graph_of so_far (outcomes_in events.ended) in
    let all = ls ++ c.args.line.now ∷ [] in
    let refusal = no_memory (last_of c.reply-2.new.self.requests) ∷ [] in
    let cut = reply_written _ _ _ c.in-Written.is (c.in_ok-reply.ensures.replied so_far is.replied.holds) in
    let none = reply_not_started _ _ _ c.in_default-2.is (c.in_ok-reply-2.ensures.replied after cut.holds) in
    let asked = reply_not_started _ _ _ c.in_default-2.is c.in_ok-reply-2.ensures.asked in
    let same = c.in_ok-reply-2.ensures.requests ∙ c.in_ok-reply.ensures.requests in
    let last =
    refusable_last events.completed c.read-events.new.self first all (is.outcomes ++ outcomes_in events.ended) asked
    (c.read-events.ensures.refusable first ls is.outcomes is.requests) in
    let reply =
    c.refuse_last.ensures.requests first all (is.outcomes ++ outcomes_in events.ended)
    (subst (λ reader. IsRefusedLast reader first all (is.outcomes ++ outcomes_in events.ended)) (sym same) last) in
    on_err_weaker c.refuse_last.result
    (λ given.
    cut_after_lines law terms graph first c.refuse_last.new.self.requests all
    (is.outcomes ++ (outcomes_in events.ended ++ refusal)) before _
    (subst (λ outcomes. HasRequests c.refuse_last.new.self.requests first all outcomes)
    (append_assoc is.outcomes (outcomes_in events.ended) refusal) reply)
    (c.refuse_last.ensures.vertices ∙ ap (λ reader. vertices_of reader) same ∙ c.read-events.ensures.vertices ∙ is.vertices)
    (after_cut law terms graph is.outcomes (outcomes_in events.ended ++ refusal) c.args.self.now.session before _ _
    is.replied
    (after_cut law terms so_far (outcomes_in events.ended) refusal c.reply.new.self.session _ _ _ cut
    (after_cut law terms after [] refusal c.reply-2.new.self.session _ _ _ none
    (refusal_cut law terms after (last_of c.reply-2.new.self.requests) _ _ given)))))
    c.refuse_last.ensures.cut

pub returns-in_default-2-clause-kept : goal.returns-in_default-2-clause-kept
returns-in_default-2-clause-kept g c =
    let kept = c.requires.kept in
    let events = c.read-events.result in
    let all = kept.ls ++ c.args.line.now ∷ [] in
    let asked = reply_not_started _ _ _ c.in_default-2.is c.in_ok-reply-2.ensures.asked in
    let same = c.in_ok-reply-2.ensures.requests ∙ c.in_ok-reply.ensures.requests in
    let last =
    refusable_last events.completed c.read-events.new.self kept.first all (kept.outcomes ++ outcomes_in events.ended) asked
    (c.read-events.ensures.refusable kept.first kept.ls kept.outcomes kept.requests) in
    let n = c.in_ok-reply-2.ensures.vertices ∙ c.in_ok-reply.ensures.vertices in
    on_ok_weaker c.refuse_last.result
    (λ given. record {
      kept = subst (λ session. AreKept session) (sym c.refuse_last.ensures.session) c.in_ok-reply-2.ensures.kept;
      first = kept.first;
      ls = all;
      outcomes = (kept.outcomes ++ outcomes_in events.ended) ++ no_memory (last_of c.reply-2.new.self.requests) ∷ [];
      requests =
          c.refuse_last.ensures.requests kept.first all (kept.outcomes ++ outcomes_in events.ended)
          (subst (λ reader. IsRefusedLast reader kept.first all (kept.outcomes ++ outcomes_in events.ended)) (sym same) last);
      vertices =
          c.refuse_last.ensures.vertices ∙ ap (λ reader. vertices_of reader) same ∙ c.read-events.ensures.vertices
          ∙ kept.vertices ∙ sym (ap (λ session. vertices_in session) c.refuse_last.ensures.session ∙ n);
    })
    c.refuse_last.ensures.reply
