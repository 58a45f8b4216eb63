use Rattle.std.proofs.Common.{ℕ, ◌<◌, List, Option, length}
use Rattle.dimacs_text.specs.Jobs.{Content}
use Rattle.session_answer.specs.Terms.{terms_of}
use Rattle.session_answer.specs.Conversations.{HasHeard, IsConsistent}
use Rattle.session_answer.proofs.EndLemmas.{TakesEach}
use Rattle.session_answer.proofs.WholeLemmas.{HasTaken}
use Rattle.session_answer.proofs.answering.converse.Given as goal

abbrev pub invariant-loop : goal.invariant-loop
invariant-loop g l = record {
  kept : IsConsistent l.conversation;
  room : 0 < length l.buffer;
  taken : (graph : Content) (first : ℕ) (heard : List ℕ) (before : Option (List ℕ))
      → HasHeard (terms_of l.context.asked.now) graph first l.initial.conversation
      heard before (g.W.Write.contents l.initial.writer)
      → HasTaken (terms_of l.context.asked.now) graph first l.conversation heard
      (g.R.Read.remaining l.initial.reader) (g.R.Read.remaining l.reader) before (g.W.Write.contents l.writer);
  often : TakesEach l.counter (g.R.Read.remaining l.initial.reader) (g.R.Read.remaining l.reader);
}
