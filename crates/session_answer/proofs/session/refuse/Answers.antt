use Rattle.std.proofs.Common.{◌≡◌, ◌∙◌, ◌++◌, List, ℕ, ap, subst}
use Rattle.std.specs.Prelude.{OnErr}
use Rattle.answer_lines.specs.Lines.{refusal_text}
use Rattle.job_answer.specs.Bytes.{GivesPrefix}
use Rattle.session_answer.proofs.CutLemmas.{no_prefix, on_err}
use Rattle.session_answer.proofs.session.refuse.Goals as goal

pub returns-in_err-put_refusal-clause-cut : goal.returns-in_err-put_refusal-clause-cut
returns-in_err-put_refusal-clause-cut g c = on_err (no_prefix _ _) c.from_residual.result

pub returns-clause-cut : goal.returns-clause-cut
returns-clause-cut g c =
    let line : c.deref.result.now ≡ refusal_text c.args.line c.args.words.now =
    c.deref.ensures.value
    ∙ c.in_ok-put_refusal.ensures.ok
    ∙ ap (λ initial. initial ++ refusal_text c.args.line c.args.words.now) c.new-text.ensures.items in
    subst
    (λ (bytes : List ℕ).
    OnErr c.write_whole.result
    (GivesPrefix (g.W.Write.contents c.args.writer.now) (g.W.Write.contents c.write_whole.new.writer) bytes))
    line c.write_whole.ensures.prefix
