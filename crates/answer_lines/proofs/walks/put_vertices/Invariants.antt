use Rattle.std.proofs.Common.{◌≡◌, ◌≤◌, ◌++◌, length, drop}
use Rattle.answer_lines.specs.Lines.{vertices_text}
use Rattle.answer_lines.proofs.walks.put_vertices.Given as goal

abbrev pub invariant-loop-vertex : goal.invariant-loop-vertex
invariant-loop-vertex l = record {
  whole : l.out.items ++ vertices_text (drop l.vertex-index l.walk) ≡ l.fn.out.items ++ vertices_text l.walk;
  longer : length l.fn.out.items ≤ length l.out.items;
  before : l.before ≡ length l.fn.out.items;
}
