use Rattle.std.proofs.Common.{◌≡◌, ◌+◌, ◌<◌, length}
use Rattle.std.specs.Slice.Iter.{chunks_rest}
use Rattle.std.specs.Prelude.{All}
use Rattle.route_walks.specs.declared.graph.TheConstants.{INF}
use Rattle.answer_lines.specs.Lines.{component_lines, components_text}
use Rattle.job_answer.proofs.Sinks.{Lacks}
use Rattle.job_answer.proofs.output.lines.put_component_lines.Given as goal

abbrev pub invariant-loop-group : goal.invariant-loop-group
invariant-loop-group g l = record {
  can_next : (goal.iterator-loop-group g).can_next l.group-iterator;
  is_finite : (goal.iterator-loop-group g).is_finite l.group-iterator;
  count : l.v + length (chunks_rest l.group-iterator) ≡ length l.labels;
  finite : All (λ label. label < INF) (chunks_rest l.group-iterator);
  put : Lacks g.W.Write.contents (component_lines l.v (chunks_rest l.group-iterator)) (components_text l.labels) l.fn.sink
      l.sink;
}
