use Rattle.std.proofs.Common.{◌≡◌, ◌∙◌, ◌∷◌, ◌++◌, [], List, ℕ, ap, refl, rules, subst, sym}
use Rattle.std.proofs.Common.{length}
use Rattle.std.proofs.lemmas.List.{nil_from_length}
use Rattle.std.proofs.lemmas.Result.{on_err_weaker, on_ok_weaker}
use Rattle.dimacs_text.specs.Lines.{lines}
use Rattle.dimacs_text.proofs.Facts.{comment-more}
use Rattle.session_answer.specs.Terms.{terms_of}
use Rattle.session_answer.specs.Replies.{AreKept, vertices_in}
use Rattle.session_answer.specs.Conversations.{HasRepliedTo}
use Rattle.session_answer.specs.Cuts.{AreCutAfterLines}
use Rattle.session_answer.proofs.HeardLemmas.{comment_begun, cut_at_line, heard_line, kept_begun, passed_replied}
use Rattle.session_answer.proofs.conversation.Conversation.end_line.Goals as goal

pub returns-then-self-clause-heard : goal.returns-then-self-clause-heard
returns-then-self-clause-heard g c graph first heard before is =
    let terms = terms_of c.args.context.now.asked.now in
    let self = c.args.self.now in
    let rest = c.args.rest.now in
    let begun = comment_begun self.in_comment self.unfinished.items is.begun c.if-self.true is.kept in
    heard_line terms graph first self c.end_comment.new.self heard rest before _ _ is c.requires.no_feed
    c.end_comment.ensures.outside (ap (λ list. list.items) c.end_comment.ensures.unfinished ∙ begun.0)
    (passed_replied terms graph first self c.end_comment.new.self (lines is.whole) (is.begun ++ rest) before _
    (λ outcomes requests.
    c.end_comment.ensures.requests first (lines is.whole) outcomes (is.begun ++ rest) requests
    (comment-more is.begun rest begun.1))
    c.end_comment.ensures.vertices c.end_comment.ensures.session is.replied)

pub returns-then-self-clause-kept : goal.returns-then-self-clause-kept
returns-then-self-clause-kept g c =
    let old = c.requires.kept in
    let session = c.end_comment.ensures.session in
    record {
      kept = subst (λ kept. AreKept kept) (sym session) old.kept;
      first = old.first;
      ls = old.ls ++ (99 ∷ []) ∷ [];
      outcomes = old.outcomes;
      requests = c.end_comment.ensures.requests old.first old.ls old.outcomes (99 ∷ []) old.requests refl;
      vertices = c.end_comment.ensures.vertices ∙ old.vertices ∙ sym (ap (λ kept. vertices_in kept) session);
    }

pub returns-then-is_empty-clause-heard : goal.returns-then-is_empty-clause-heard
returns-then-is_empty-clause-heard g c graph first heard before is =
    let terms = terms_of c.args.context.now.asked.now in
    let self = c.args.self.now in
    let whole = lines is.whole in
    let empty : length self.unfinished.items ≡ 0 = search rules in
    let none = nil_from_length self.unfinished.items empty in
    let begun : is.begun ≡ [] =
    sym (kept_begun self.in_comment self.unfinished.items is.begun c.if-self.false is.kept) ∙ none in
    let line : c.args.rest.now ≡ is.begun ++ c.args.rest.now =
    sym (ap (λ (kept : List ℕ). kept ++ c.args.rest.now) begun) in
    on_ok_weaker c.take_line.result
    (λ replied.
    heard_line terms graph first self c.take_line.new.self heard c.args.rest.now before _ _ is
    c.requires.no_feed (c.take_line.ensures.in_comment ∙ c.if-self.false)
    (ap (λ list. list.items) c.take_line.ensures.unfinished ∙ none)
    (subst (λ (last : List ℕ). HasRepliedTo terms graph first c.take_line.new.self (whole ++ last ∷ []) before
    (g.W.Write.contents c.take_line.new.writer)) line replied))
    (c.take_line.ensures.replied graph first whole before is.replied)

pub returns-then-is_empty-clause-cut : goal.returns-then-is_empty-clause-cut
returns-then-is_empty-clause-cut g c graph first heard before is =
    let terms = terms_of c.args.context.now.asked.now in
    let self = c.args.self.now in
    let whole = lines is.whole in
    let empty : length self.unfinished.items ≡ 0 = search rules in
    let none = nil_from_length self.unfinished.items empty in
    let begun : is.begun ≡ [] =
    sym (kept_begun self.in_comment self.unfinished.items is.begun c.if-self.false is.kept) ∙ none in
    let line : c.args.rest.now ≡ is.begun ++ c.args.rest.now =
    sym (ap (λ (kept : List ℕ). kept ++ c.args.rest.now) begun) in
    on_err_weaker c.take_line.result
    (λ cut.
    cut_at_line terms graph first self heard c.args.rest.now before _ _ is c.requires.no_feed
    (subst (λ (last : List ℕ). AreCutAfterLines terms graph first (whole ++ last ∷ []) before
    (g.W.Write.contents c.take_line.new.writer)) line cut))
    (c.take_line.ensures.cut graph first whole before is.replied)
