use Rattle.std.proofs.Common.{◌≡◌, ◌∙◌, ◌-◌, drop, take, length, refl, rules, subst, sym, arith, true}
use Rattle.std.proofs.lemmas.List.{length-drop, take_rest}
use Rattle.std.proofs.lemmas.List.Elements.{All-drop, All-take}
use Rattle.dimacs_text.specs.Jobs.{IsPairWithin}
use Rattle.job_answer.specs.declared.question.asked.Lines.TheVariants as lines
use Rattle.job_answer.specs.AnswerText.{AreBlocks}
use Rattle.job_answer.specs.Graphs.{growth_of}
use Rattle.job_answer.specs.Tasks.{IsWalkedBlock}
use Rattle.job_answer.proofs.Existence.{growth-within, pairs-exist}
use Rattle.job_answer.proofs.Sinks.{kept-text}
use Rattle.job_answer.proofs.output.walked_pairs.held_lines.Goals as goal

pub returns : goal.returns
returns g c =
    let graphs = c.args.queries.now.graphs.now in
    let net = graphs.network in
    let pairs = c.args.queries.now.pairs.now in
    let first = c.args.first in
    let solve = c.of_queries-solve.result in
    let is = c.of_queries-solve.ensures.queries in
    let at_start = c.of_queries-solve.ensures.first in
    let block = IsWalkedBlock graphs in
    let rest = take (length pairs - first) (drop first pairs) in
    let within = All-take (IsPairWithin net.n) (solve.end - 0) rest
    (All-take (IsPairWithin net.n) (length pairs - first) (drop first pairs)
    (All-drop (IsPairWithin net.n) first pairs c.args.queries.now.within)) in
    let some = pairs-exist c.least_labels_exist.ensures c.hops_and_parents_exist.ensures net.n c.requires.graphs.is.few
    net.arcs (growth_of graphs.grown) c.requires.graphs.is.ends (growth-within net graphs.grown c.requires.graphs.grows)
    (lines.Each true) (take (solve.end - 0) rest) within in
    let bytes = c.put_solved_pairs.new.sink.waiting.now.items in
    let all : solve.end - 0 ≡ solve.end = omega arith in
    let kept : AreBlocks block (take (solve.end - 0) rest) bytes =
    kept-text _ some _ _ refl c.new-bytes.ensures.items refl refl (sym c.has_stopped.ensures ∙ c.if-has_stopped.false)
    (rw at_start at c.put_solved_pairs.ensures) in
    let lines : AreBlocks block (take solve.end rest) bytes =
    subst (λ k. AreBlocks block (take k rest) bytes) all kept in
    let told : AreBlocks block (take solve.end (drop first pairs)) bytes =
    subst (λ xs. AreBlocks block (take solve.end xs) bytes) (take_rest pairs first) lines in
    let same = c.put_solved_pairs.ensures.still.waiting in
    record {
      some = omega (arith, is.some, at_start);
      within =
          omega (arith, rw (take_rest pairs first) at is.within, length-drop first pairs, c.requires.place);
      lines = search rules;
    }
