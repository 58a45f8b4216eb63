use Rattle.std.proofs.Common.{◌≡◌, ◌∙◌, ◌+◌, ◌-◌, ◌∷◌, ◌++◌, [], List, ℕ, length, take, drop, ap, subst, sym, arith}
use Rattle.std.proofs.Common.{append_assoc, length-drop, take-append-drop}
use Rattle.std.proofs.lemmas.List.{take_all}
use Rattle.session_answer.specs.Terms.{terms_of}
use Rattle.session_answer.specs.Conversations.{HasHeard, IsKeptOf}
use Rattle.session_answer.specs.Cuts.{AreCutAfterBytes}
use Rattle.session_answer.proofs.CutLemmas.{cut_in_all, heard_cut, on_err}
use Rattle.session_answer.proofs.HeardLemmas.{heard_rest, no_feed_after, taken_line}
use Rattle.session_answer.proofs.conversation.Conversation.take.Goals as goal

pub loop-end-preserved : goal.loop-end-preserved
loop-end-preserved g c =
    let terms = terms_of c.args.context.now.asked.now in
    let bytes = c.args.bytes.now in
    let at = c.loop-end.at in
    let end = c.in-Some.end in
    let found = c.in-Some.ensures.some in
    let line = take (end - at) (drop at bytes) in
    record {
      inside = omega (arith, found.1);
      kept = c.in_ok-end_line.ensures.kept;
      heard = λ graph first heard before is.
          subst (λ (all : List ℕ). HasHeard terms graph first c.end_line.new.self all before
          (g.W.Write.contents c.end_line.new.writer))
          (append_assoc (heard ++ take at bytes) line (10 ∷ [])
          ∙ append_assoc heard (take at bytes) (line ++ 10 ∷ [])
          ∙ ap (λ (more : List ℕ). heard ++ more) (taken_line bytes at end found.0 found.1 found.2))
          (c.in_ok-end_line.ensures.heard graph first (heard ++ take at bytes) before
          (c.loop-end.invariant.heard graph first heard before is));
    }

pub returns-clause-heard : goal.returns-clause-heard
returns-clause-heard g c graph first heard before is =
    let terms = terms_of c.args.context.now.asked.now in
    let bytes = c.args.bytes.now in
    let at = c.loop-end.at in
    let all : heard ++ bytes ≡ (heard ++ take at bytes) ++ drop at bytes =
    ap (λ (more : List ℕ). heard ++ more) (sym (take-append-drop at bytes))
    ∙ sym (append_assoc heard (take at bytes) (drop at bytes)) in
    rw all
    (heard_rest terms graph first c.loop-end.self _ (heard ++ take at bytes) (drop at bytes) before _
    (c.loop-end.invariant.heard graph first heard before is)
    (no_feed_after bytes at c.in_default.ensures.none)
    (λ begun kept.
    subst (λ (rest : List ℕ). IsKeptOf c.keep.new.self.in_comment c.keep.new.self.unfinished.items (begun ++ rest))
    (take_all (length bytes - at) (drop at bytes) (omega (arith, length-drop at bytes)))
    (c.in_ok-keep.ensures.kept begun kept)) c.keep.ensures.requests c.keep.ensures.session)

pub returns-in_err-end_line-clause-cut : goal.returns-in_err-end_line-clause-cut
returns-in_err-end_line-clause-cut g c graph first heard before is =
    let terms = terms_of c.args.context.now.asked.now in
    let bytes = c.args.bytes.now in
    let at = c.loop-end.at in
    let end = c.in-Some.end in
    let found = c.in-Some.ensures.some in
    let line = take (end - at) (drop at bytes) in
    on_err
    (cut_in_all terms graph first heard bytes (end + 1) before _
    (subst (λ (all : List ℕ). AreCutAfterBytes terms graph first all before
    (g.W.Write.contents c.end_line.new.writer))
    (append_assoc (heard ++ take at bytes) line (10 ∷ [])
    ∙ append_assoc heard (take at bytes) (line ++ 10 ∷ [])
    ∙ ap (λ (more : List ℕ). heard ++ more) (taken_line bytes at end found.0 found.1 found.2))
    (c.in_err-end_line.ensures.cut graph first (heard ++ take at bytes) before
    (c.loop-end.invariant.heard graph first heard before is))))
    c.from_residual.result

pub returns-in_err-keep-clause-cut : goal.returns-in_err-keep-clause-cut
returns-in_err-keep-clause-cut g c graph first heard before is =
    let terms = terms_of c.args.context.now.asked.now in
    let law = c.answer_texts_by_lines_are_unique.ensures in
    let bytes = c.args.bytes.now in
    let at = c.loop-end.at in
    on_err
    (cut_in_all terms graph first heard bytes at before _
    (heard_cut law terms graph first c.loop-end.self (heard ++ take at bytes) before _
    (c.loop-end.invariant.heard graph first heard before is)))
    c.from_residual-in_err-keep.result
