use Rattle.std.proofs.Common.{◌≡◌, ◌∙◌, ◌∷◌, ◌++◌, [], List, ℕ, ap, refl, subst}
use Rattle.std.proofs.lemmas.Result.{on_err_weaker, on_ok_weaker}
use Rattle.dimacs_text.specs.Lines.{lines}
use Rattle.session_answer.specs.Terms.{terms_of}
use Rattle.session_answer.specs.Conversations.{HasRepliedTo}
use Rattle.session_answer.specs.Cuts.{AreCutAfterLines}
use Rattle.session_answer.proofs.CutLemmas.{cut_longer, heard_cut, on_err}
use Rattle.session_answer.proofs.HeardLemmas.{cut_at_line, heard_line, kept_begun, same_replied}
use Rattle.session_answer.proofs.conversation.Conversation.end_unfinished.Goals as goal

pub returns-clause-heard : goal.returns-clause-heard
returns-clause-heard g c graph first heard before is =
    let terms = terms_of c.args.context.now.asked.now in
    let self = c.args.self.now in
    let whole = lines is.whole in
    let line : c.deref.result.now ≡ is.begun ++ c.args.rest.now =
    c.deref.ensures.value
    ∙ ap (λ list. list.items) c.replace-line.ensures.value
    ∙ c.in_ok-extend_from_slice.ensures.items
    ∙ ap (λ (kept : List ℕ). kept ++ c.args.rest.now)
    (kept_begun self.in_comment self.unfinished.items is.begun c.requires.outside is.kept) in
    let none : c.take_line.new.self.unfinished.items ≡ [] =
    ap (λ list. list.items) c.take_line.ensures.unfinished
    ∙ ap (λ list. list.items) c.replace-line.ensures.after
    ∙ c.new.ensures.items in
    on_ok_weaker c.take_line.result
    (λ replied.
    heard_line terms graph first self c.take_line.new.self heard c.args.rest.now before _ _ is
    c.requires.no_feed (c.take_line.ensures.in_comment ∙ c.requires.outside) none
    (subst (λ (last : List ℕ). HasRepliedTo terms graph first c.take_line.new.self (whole ++ last ∷ []) before
    (g.W.Write.contents c.take_line.new.writer)) line replied))
    (c.take_line.ensures.replied graph first whole before
    (same_replied terms graph first self _ whole before _ refl refl is.replied))

pub returns-in_err-extend_from_slice-clause-cut : goal.returns-in_err-extend_from_slice-clause-cut
returns-in_err-extend_from_slice-clause-cut g c graph first heard before is =
    let terms = terms_of c.args.context.now.asked.now in
    let law = c.answer_texts_by_lines_are_unique.ensures in
    let came = c.args.rest.now in
    on_err
    (cut_longer terms graph first (heard ++ came) (10 ∷ []) before _
    (cut_longer terms graph first heard came before _
    (heard_cut law terms graph first c.args.self.now heard before _ is)))
    c.from_residual.result

pub returns-clause-cut : goal.returns-clause-cut
returns-clause-cut g c graph first heard before is =
    let terms = terms_of c.args.context.now.asked.now in
    let self = c.args.self.now in
    let whole = lines is.whole in
    let line : c.deref.result.now ≡ is.begun ++ c.args.rest.now =
    c.deref.ensures.value
    ∙ ap (λ list. list.items) c.replace-line.ensures.value
    ∙ c.in_ok-extend_from_slice.ensures.items
    ∙ ap (λ (kept : List ℕ). kept ++ c.args.rest.now)
    (kept_begun self.in_comment self.unfinished.items is.begun c.requires.outside is.kept) in
    on_err_weaker c.take_line.result
    (λ cut.
    cut_at_line terms graph first self heard c.args.rest.now before _ _ is c.requires.no_feed
    (subst (λ (last : List ℕ). AreCutAfterLines terms graph first (whole ++ last ∷ []) before
    (g.W.Write.contents c.take_line.new.writer)) line cut))
    (c.take_line.ensures.cut graph first whole before
    (same_replied terms graph first self _ whole before _ refl refl is.replied))
