-- What a side holds of its bags.
use Rattle.std.specs.Prelude.{ℕ, List, [], ◌++◌, map, Option, Some, None, Box}
use Rattle.std.specs.declared.alloc.Global.{Global}
use Rattle.obim_bags.specs.Chunks.{ChunkSeen}
use Rattle.obim_pool.specs.declared.chunks.BagChunks.{BagChunks}

abbrev pub vertices_in : Option (Box ChunkSeen Global) → List ℕ
vertices_in None = []
vertices_in (Some chunk) = chunk.value.vertices

-- the vertices of the filling and of the draining chunk
abbrev pub held_of : BagChunks → List ℕ
held_of chunks = vertices_in chunks.filling ++ vertices_in chunks.draining

-- the same of each bag, by place
abbrev pub all_held : List BagChunks → List (List ℕ)
all_held chunks = map held_of chunks
