use Rattle.std.specs.Prelude.{◌≡◌, ℕ, ◌<◌, length, slice_index}
use Rattle.relax_core.specs.Lawful.{marks_below}
use Rattle.relax_core.specs.State.{mark_of as is_marked}
use Rattle.label_words.specs.Layout.{word_count, label_of, mark_of}
use Rattle.label_words.proofs.opening.put_rest.Given as goal

abbrev pub invariant-loop-v : goal.invariant-loop-v
invariant-loop-v l = record {
  count : length l.words ≡ word_count l.n;
  total : l.total ≡ marks_below (is_marked l.marks) l.v;
  labels : (u : ℕ) → u < l.v → label_of l.words u ≡ slice_index l.labels u;
  marks : (u : ℕ) → u < l.v → mark_of l.words u ≡ is_marked l.marks u;
}
