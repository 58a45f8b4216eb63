use Rattle.std.proofs.Common.{refl, subst}
use Rattle.dimacs_text.specs.Lines.{lines}
use Rattle.std.proofs.lemmas.Result.{err_from_is_err_and}
use Rattle.request_reader.specs.Requests.{AreRequests, AreShort}
use Rattle.session_answer.specs.Terms.{terms_of}
use Rattle.session_answer.proofs.CutLemmas.{cut_here, replied_cut}
use Rattle.session_answer.proofs.EndLemmas.{writing_is_short}
use Rattle.session_answer.proofs.conversation.Conversation.end.Goals as goal

pub returns-in-None-clause-answered : goal.returns-in-None-clause-answered
returns-in-None-clause-answered g c graph first heard before is =
    let replied = c.in_ok-end_last_line.ensures.replied graph first heard before is in
    record {
      outcomes = replied.outcomes;
      requests =
          subst (λ n. AreRequests n first (lines heard) replied.outcomes) replied.vertices
          (c.in-None.ensures.none first (lines heard) replied.outcomes replied.requests);
      replies = replied.replied.text;
      replied = replied.replied.replied;
      written = replied.replied.written;
    }

pub returns-in-Some-clause-cut : goal.returns-in-Some-clause-cut
returns-in-Some-clause-cut g c graph first heard before is =
    let terms = terms_of c.args.context.now.asked.now in
    cut_here terms graph first (lines heard) (lines heard) before _ refl
    (replied_cut c.answer_texts_by_lines_are_unique.ensures terms graph first c.end_last_line.new.self
    (lines heard) before _ (c.in_ok-end_last_line.ensures.replied graph first heard before is))

pub returns-in_err-end_last_line-clause-says : goal.returns-in_err-end_last_line-clause-says
returns-in_err-end_last_line-clause-says g c graph first heard before is =
    let p = err_from_is_err_and c.from_residual.result c.from_residual.ensures.1 in
    rw (p.1, p.2)
    (writing_is_short graph.n first (lines heard) c.in_err-end_last_line.field-0.0 c.in_err-end_last_line.ensures.kinds)

pub returns-in-Some-clause-says : goal.returns-in-Some-clause-says
returns-in-Some-clause-says g c graph first heard before is =
    let replied = c.in_ok-end_last_line.ensures.replied graph first heard before is in (
      (
        replied.outcomes,
        subst (λ n. AreShort n first (lines heard) replied.outcomes c.in-Some.line) replied.vertices
            (c.in-Some.ensures.some first (lines heard) replied.outcomes replied.requests),
      ),
      refl,
    )
