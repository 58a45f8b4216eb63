-- Where the words of a run lie. The total has a line of the cache of its own, and a vertex's label and mark lie in one.
use Rattle.std.specs.Prelude.{ℕ, ◌+◌, ◌-◌, ◌*◌, ◌/◌, nat_lt, Bool, List, slice_index}

-- the label of v is in this word, and its mark in the next; the total is in word 0
abbrev pub label_word : ℕ → ℕ
label_word v = 2 * v + 8

abbrev pub mark_word : ℕ → ℕ
mark_word v = 2 * v + 9

-- the number of words for n vertices
abbrev pub word_count : ℕ → ℕ
word_count n = 2 * n + 8

-- the number of vertices of so many words
abbrev pub vertex_count : ℕ → ℕ
vertex_count words = (words - 8) / 2

abbrev pub total_of : List ℕ → ℕ
total_of words = slice_index words 0

abbrev pub label_of : List ℕ → ℕ → ℕ
label_of words v = slice_index words (label_word v)

-- v is marked where the word of its mark isn't 0
abbrev pub mark_of : List ℕ → ℕ → Bool
mark_of words v = nat_lt 0 (slice_index words (mark_word v))
