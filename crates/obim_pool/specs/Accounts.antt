-- What a side did with a bag, and what it holds of it.
use Rattle.std.specs.Prelude.{◌≡◌, ℕ, ◌+◌, ◌%◌, ◌^◌, List, [], ◌∷◌, ◌++◌, Option, Some, None, sum_by}
use Rattle.obim_bags.specs.Chunks.{ChunkSeen}
use Rattle.obim_bags.specs.Logs.{AccessSeen}

-- the chunks that the side's pass put and got, how often it found the bag empty, modulo 2^64, and the vertices in the
-- side's two chunks
pub record Account : Type 0 where
  pub put : List ChunkSeen
  pub got : List ChunkSeen
  pub empties : ℕ
  pub held : List ℕ

-- the account of a place with these vertices held; a side that has no such place did nothing with it
abbrev pub account_of : Option AccessSeen → List ℕ → Account
account_of None held = record { put = []; got = []; empties = 0; held = held }
account_of (Some place) held = record {
  put = place.pass.tally.put;
  got = place.pass.tally.got;
  empties = place.pass.empties;
  held = held;
}

-- the same vertices, each as often, however they are weighed
abbrev pub AreSame : List ℕ → List ℕ → Type 0
AreSame xs ys = (weight : ℕ → ℕ) → sum_by weight xs ≡ sum_by weight ys

-- the vertices of these chunks
abbrev pub vertices_of : List ChunkSeen → List ℕ
vertices_of [] = []
vertices_of (chunk ∷ chunks) = chunk.vertices ++ vertices_of chunks

-- Chunks were put: what is held, with their vertices, is what was held and what came.
pub record Puts (came : List ℕ) (old new : Account) : Type 0 where
  pub chunks : List ChunkSeen
  pub put : new.put ≡ old.put ++ chunks
  pub got : new.got ≡ old.got
  pub account : AreSame (new.held ++ vertices_of chunks) (old.held ++ came)

-- Chunks were got, and this vertex was taken out: with it, what is held is what was held and their vertices.
pub record Gets (vertex : ℕ) (old new : Account) : Type 0 where
  pub chunks : List ChunkSeen
  pub put : new.put ≡ old.put
  pub got : new.got ≡ old.got ++ chunks
  pub account : AreSame (vertex ∷ new.held) (old.held ++ vertices_of chunks)

-- nothing but the count of empty finds changed
pub record OnlyLooks (old new : Account) : Type 0 where
  pub put : new.put ≡ old.put
  pub got : new.got ≡ old.got
  pub held : new.held ≡ old.held

-- this many empty finds more
abbrev pub FindsMore : ℕ → Account → Account → Type 0
FindsMore count old new = new.empties ≡ (old.empties + count) % 2 ^ 64
