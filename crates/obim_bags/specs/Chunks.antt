-- A chunk, as contracts see it.
use Rattle.std.specs.Prelude.{ℕ, List}
use Rattle.obim_bags.specs.declared.chunk.ChunkId.{ChunkId}

-- its name, how many vertices it takes, and its vertices, of which the last comes out first
pub record ChunkSeen : Type 0 where
  pub id : ChunkId
  pub size : ℕ
  pub vertices : List ℕ

-- the chunk with these vertices
abbrev pub with_vertices : List ℕ → ChunkSeen → ChunkSeen
with_vertices vertices chunk = record chunk { vertices = vertices }
