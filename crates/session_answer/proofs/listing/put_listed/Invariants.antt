use Rattle.std.proofs.Common.{◌≡◌, ◌++◌, List, take, flat_map}
use Rattle.route_walks.specs.declared.graph.ArcRec.{ArcRec}
use Rattle.least_costs.specs.Network.{HasArcs}
use Rattle.session_answer.specs.Replies.{between_text}
use Rattle.session_answer.proofs.listing.put_listed.Given as goal

abbrev pub invariant-loop-tail : goal.invariant-loop-tail
invariant-loop-tail l = (arcs : List ArcRec) → HasArcs arcs l.network
    → l.out.items ≡ l.initial.out.items ++ flat_map (between_text arcs) (take l.tail-index l.pairs)
