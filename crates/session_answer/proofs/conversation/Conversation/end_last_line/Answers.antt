use Rattle.std.proofs.Common.{◌≡◌, ◌∙◌, ◌<◌, ◌∷◌, ◌++◌, [], List, ℕ, length, ap, refl, rules, subst, sym}
use Rattle.std.proofs.lemmas.List.{nil_from_length}
use Rattle.std.proofs.lemmas.Result.{on_err_weaker, on_ok_weaker}
use Rattle.dimacs_text.specs.Lines.{lines}
use Rattle.dimacs_text.proofs.Facts.{comment_filled}
use Rattle.session_answer.specs.Terms.{terms_of}
use Rattle.session_answer.specs.Conversations.{HasRepliedTo}
use Rattle.session_answer.proofs.CutLemmas.{cut_here}
use Rattle.session_answer.proofs.HeardLemmas.{comment_begun, kept_begun, lines_at_end, lines_heard, passed_replied, same_replied}
use Rattle.session_answer.proofs.conversation.Conversation.end_last_line.Goals as goal

pub returns-then-self-clause-replied : goal.returns-then-self-clause-replied
returns-then-self-clause-replied g c graph first heard before is =
    let terms = terms_of c.args.context.now.asked.now in
    let self = c.args.self.now in
    let begun = comment_begun self.in_comment self.unfinished.items is.begun c.if-self.true is.kept in
    subst (λ (ls : List (List ℕ)). HasRepliedTo terms graph first c.end_comment.new.self ls before
    (g.W.Write.contents c.args.writer.now))
    (sym (lines_at_end terms graph first self heard before _ is (comment_filled is.begun begun.1)))
    (passed_replied terms graph first self c.end_comment.new.self (lines is.whole) is.begun before _
    (λ outcomes requests.
    c.end_comment.ensures.requests first (lines is.whole) outcomes is.begun requests begun.1)
    c.end_comment.ensures.vertices c.end_comment.ensures.session is.replied)

pub returns-then-is_empty-clause-replied : goal.returns-then-is_empty-clause-replied
returns-then-is_empty-clause-replied g c graph first heard before is =
    let terms = terms_of c.args.context.now.asked.now in
    let empty : length c.args.self.now.unfinished.items ≡ 0 = search rules in
    let none =
    sym (kept_begun c.args.self.now.in_comment c.args.self.now.unfinished.items is.begun c.if-self.false is.kept)
    ∙ nil_from_length c.args.self.now.unfinished.items empty in
    rw (lines_heard terms graph first c.args.self.now heard before _ is none)
    (same_replied terms graph first c.args.self.now _ (lines is.whole) before _ refl refl is.replied)

pub returns-clause-replied : goal.returns-clause-replied
returns-clause-replied g c graph first heard before is =
    let terms = terms_of c.args.context.now.asked.now in
    let self = c.args.self.now in
    let whole = lines is.whole in
    let kept = kept_begun self.in_comment self.unfinished.items is.begun c.if-self.false is.kept in
    let filled : 0 < length self.unfinished.items = search rules in
    let some : 0 < length is.begun = subst (λ (bytes : List ℕ). 0 < length bytes) kept filled in
    let line : c.deref.result.now ≡ is.begun =
    c.deref.ensures.value ∙ ap (λ list. list.items) c.replace-line.ensures.value ∙ kept in
    on_ok_weaker c.take_line.result
    (λ replied.
    subst (λ (ls : List (List ℕ)). HasRepliedTo terms graph first c.take_line.new.self ls before
    (g.W.Write.contents c.take_line.new.writer))
    (ap (λ (last : List ℕ). whole ++ last ∷ []) line
    ∙ sym (lines_at_end terms graph first self heard before _ is some)) replied)
    (c.take_line.ensures.replied graph first whole before
    (same_replied terms graph first self _ whole before _ refl refl is.replied))

pub returns-clause-cut : goal.returns-clause-cut
returns-clause-cut g c graph first heard before is =
    let terms = terms_of c.args.context.now.asked.now in
    let self = c.args.self.now in
    let whole = lines is.whole in
    let kept = kept_begun self.in_comment self.unfinished.items is.begun c.if-self.false is.kept in
    let filled : 0 < length self.unfinished.items = search rules in
    let some : 0 < length is.begun = subst (λ (bytes : List ℕ). 0 < length bytes) kept filled in
    let line : c.deref.result.now ≡ is.begun =
    c.deref.ensures.value ∙ ap (λ list. list.items) c.replace-line.ensures.value ∙ kept in
    on_err_weaker c.take_line.result
    (λ cut.
    cut_here terms graph first (whole ++ c.deref.result.now ∷ []) (lines heard) before _
    (ap (λ (last : List ℕ). whole ++ last ∷ []) line
    ∙ sym (lines_at_end terms graph first self heard before _ is some))
    cut)
    (c.take_line.ensures.cut graph first whole before
    (same_replied terms graph first self _ whole before _ refl refl is.replied))
