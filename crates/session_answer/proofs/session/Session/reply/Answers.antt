use Rattle.std.proofs.Common.{◌≡◌, refl, subst, sym}
use Rattle.std.proofs.lemmas.Bool.{both_ways}
use Rattle.std.proofs.lemmas.Result.{on_err_weaker}
use Rattle.dimacs_text.specs.Jobs.{IsAddedWithin, content_of, question_of}
use Rattle.dimacs_text.specs.declared.head.HeadForm.TheVariants.{Listed}
use Rattle.session_answer.specs.Changes.{ChangeSeen, change_seen}
use Rattle.session_answer.specs.Replies.{IsReplyTo, vertices_in}
use Rattle.session_answer.specs.Terms.{terms_by, terms_of}
use Rattle.session_answer.proofs.ReplyLemmas.{change_within, if_ok, plain_reply, replied_weaker, reply_by}
use Rattle.session_answer.proofs.session.Session.reply.Goals.{in-Listed, in_default}
use Rattle.session_answer.proofs.session.Session.reply.Goals as goal

pub returns-then-is_none-clause-reply : goal.returns-then-is_none-clause-reply
returns-then-is_none-clause-reply g c graph holds =
    let head = c.in-Asked.head in
    let terms = terms_by head (terms_of c.args.context.now.asked.now) in
    let given = terms_of c.asked_by-asked.result in
    let job = content_of c.in-Asked.job in
    let change = change_seen c.in-Ok.change in
    let question = question_of c.in-Ok.ask in
    let other : head.form ≡ Listed → ⊥ =
    elim c.match-matches.branch [
      | in-Listed w ↦ λ same. both_ways c.match-matches.matches c.if-matches.false w.matches-is
      | in_default w ↦ w.in_default.not-Listed
    ] in
    rw c.in-Asked.is
    (if_ok _ _ c.reply_asked.result
    (λ t what.
    replied_weaker t _ _ _ _
    (λ written. record {
      text = written.text;
      is_text =
          (reply_by head.form terms given graph job change question c.in-Asked.line written.text other c.asked_by-asked.ensures.terms
          (c.in-Ok.ensures.change job refl refl) c.in-Ok.ensures.question).0
          (subst (λ (x : ChangeSeen). IsReplyTo given graph x question c.in-Asked.line written.text)
          (sym (c.is_none.ensures.0 c.if-is_none.true))
          ((plain_reply given graph question c.in-Asked.line written.text).0 written.is_text));
      appended = written.appended;
    })
    (λ none. none) what)
    (c.reply_asked.ensures.answered graph holds))

pub returns-then-is_none-clause-cut : goal.returns-then-is_none-clause-cut
returns-then-is_none-clause-cut g c graph holds =
    let head = c.in-Asked.head in
    let terms = terms_by head (terms_of c.args.context.now.asked.now) in
    let given = terms_of c.asked_by-asked.result in
    let job = content_of c.in-Asked.job in
    let change = change_seen c.in-Ok.change in
    let question = question_of c.in-Ok.ask in
    let other : head.form ≡ Listed → ⊥ =
    elim c.match-matches.branch [
      | in-Listed w ↦ λ same. both_ways c.match-matches.matches c.if-matches.false w.matches-is
      | in_default w ↦ w.in_default.not-Listed
    ] in
    rw c.in-Asked.is
    (on_err_weaker c.reply_asked.result
    (λ cut. record {
      given = cut.given;
      is_prefix = λ text is.
          cut.is_prefix text
          ((plain_reply given graph question c.in-Asked.line text).1
          (subst (λ (x : ChangeSeen). IsReplyTo given graph x question c.in-Asked.line text) (c.is_none.ensures.0 c.if-is_none.true)
          ((reply_by head.form terms given graph job change question c.in-Asked.line text other c.asked_by-asked.ensures.terms
          (c.in-Ok.ensures.change job refl refl) c.in-Ok.ensures.question).1 is)));
      appended = cut.appended;
    })
    (c.reply_asked.ensures.cut graph holds))

pub reply_changed-requires-clause-added : goal.reply_changed-requires-clause-added
reply_changed-requires-clause-added g c κs within =
    let head = c.in-Asked.head in
    let job = content_of c.in-Asked.job in
    subst (λ (x : ChangeSeen). IsAddedWithin (vertices_in c.args.self.now) x.added)
    (sym (c.in-Ok.ensures.change job refl refl))
    (change_within head.form (vertices_in c.args.self.now) job (rw c.in-Asked.is at c.requires.within).1)

pub returns-else-is_none-clause-reply : goal.returns-else-is_none-clause-reply
returns-else-is_none-clause-reply g c graph holds =
    let head = c.in-Asked.head in
    let terms = terms_by head (terms_of c.args.context.now.asked.now) in
    let given = terms_of c.asked_by-asked.result in
    let job = content_of c.in-Asked.job in
    let change = change_seen c.in-Ok.change in
    let question = question_of c.in-Ok.ask in
    let other : head.form ≡ Listed → ⊥ =
    elim c.match-matches.branch [
      | in-Listed w ↦ λ same. both_ways c.match-matches.matches c.if-matches.false w.matches-is
      | in_default w ↦ w.in_default.not-Listed
    ] in
    rw c.in-Asked.is
    (if_ok _ _ c.reply_changed.result
    (λ t what.
    replied_weaker t _ _ _ _
    (λ written. record {
      text = written.text;
      is_text =
          (reply_by head.form terms given graph job change question c.in-Asked.line written.text other c.asked_by-asked.ensures.terms
          (c.in-Ok.ensures.change job refl refl) c.in-Ok.ensures.question).0 written.is_text;
      appended = written.appended;
    })
    (λ none. none) what)
    (c.reply_changed.ensures.reply graph holds))

pub returns-else-is_none-clause-cut : goal.returns-else-is_none-clause-cut
returns-else-is_none-clause-cut g c graph holds =
    let head = c.in-Asked.head in
    let terms = terms_by head (terms_of c.args.context.now.asked.now) in
    let given = terms_of c.asked_by-asked.result in
    let job = content_of c.in-Asked.job in
    let change = change_seen c.in-Ok.change in
    let question = question_of c.in-Ok.ask in
    let other : head.form ≡ Listed → ⊥ =
    elim c.match-matches.branch [
      | in-Listed w ↦ λ same. both_ways c.match-matches.matches c.if-matches.false w.matches-is
      | in_default w ↦ w.in_default.not-Listed
    ] in
    rw c.in-Asked.is
    (on_err_weaker c.reply_changed.result
    (λ cut. record {
      given = cut.given;
      is_prefix = λ text is.
          cut.is_prefix text
          ((reply_by head.form terms given graph job change question c.in-Asked.line text other c.asked_by-asked.ensures.terms
          (c.in-Ok.ensures.change job refl refl) c.in-Ok.ensures.question).1 is);
      appended = cut.appended;
    })
    (c.reply_changed.ensures.cut graph holds))
