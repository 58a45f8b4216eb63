use Rattle.std.proofs.Common.{arith}
use Rattle.dimacs_text.proofs.ReaderLemmas.{comment_passed}
use Rattle.dimacs_text.proofs.reader.LineReader.pass_comment.Goals as goal

pub returns : goal.returns
returns c = record {
  passes = λ text comment end before begun ended few.
      let self = c.args.self.now in
      comment_passed self.fault self.draft self.line c.saturating_add-self.result text comment end
      c.requires.right before begun ended
      (λ low. omega (arith, low, c.saturating_add-self.ensures, few));
}
