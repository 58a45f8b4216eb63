use Rattle.std.proofs.Common.{◌-◌, ◌≤◌, ◌++◌, ℕ, List, Option, length, take}
use Rattle.dimacs_text.specs.Jobs.{Content}
use Rattle.session_answer.specs.Terms.{terms_of}
use Rattle.session_answer.specs.Conversations.{HasHeard, IsConsistent}
use Rattle.session_answer.proofs.conversation.Conversation.take.Given as goal

abbrev pub invariant-loop-end : goal.invariant-loop-end
invariant-loop-end g l = record {
  inside : l.at ≤ length l.bytes;
  kept : IsConsistent l.self;
  heard : (graph : Content) (first : ℕ) (heard : List ℕ) (before : Option (List ℕ))
      → HasHeard (terms_of l.context.asked.now) graph first l.initial.self heard before
      (g.W.Write.contents l.initial.writer)
      → HasHeard (terms_of l.context.asked.now) graph first l.self
      (heard ++ take l.at l.bytes) before (g.W.Write.contents l.writer);
}

abbrev pub decreases-loop-end : goal.decreases-loop-end
decreases-loop-end g l = length l.bytes - l.at
