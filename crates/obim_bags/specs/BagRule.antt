-- The account of a bag: what its passes know, and the rule of its queue.
use Rattle.std.specs.Prelude.{◌≡◌, ◌≢◌, ℕ, ◌+◌, ◌-◌, List, [], ◌∷◌, ◌++◌, All, sum_by}
use mathlib.Core.Option.{some}
use lib.ListN.{get_elem?}
use Rattle.obim_bags.specs.Chunks.{ChunkSeen}
use Rattle.obim_bags.specs.declared.bag_rule.Tally.{Tally}

-- the weights of these chunks, added up
abbrev pub weight_of : (ChunkSeen → ℕ) → List ChunkSeen → ℕ
weight_of weight chunks = sum_by weight chunks

-- what the passes with these tallies put, weighed
abbrev pub put_by : (ChunkSeen → ℕ) → List Tally → ℕ
put_by weight tallies = sum_by (λ (tally : Tally). weight_of weight tally.put) tallies

-- what they got, weighed
abbrev pub got_by : (ChunkSeen → ℕ) → List Tally → ℕ
got_by weight tallies = sum_by (λ (tally : Tally). weight_of weight tally.got) tallies

-- their shares, added up
abbrev pub shares_of : List Tally → ℕ
shares_of tallies = sum_by (λ (tally : Tally). tally.share) tallies

-- nothing was put and nothing got
abbrev pub IsSpent : Tally → Type 0
IsSpent tally = (tally.put ≡ []) × (tally.got ≡ [])

-- With this many shares in all, a tally with a share has this number as that of the workers, and one without a share
-- has put and got nothing.
abbrev pub IsFair : ℕ → Tally → Type 0
IsFair shares tally = (tally.share ≢ 0 → tally.workers ≡ shares) × (tally.share ≡ 0 → IsSpent tally)

-- The rule of a bag. However chunks are weighed, what was put weighs what was got and what the bag holds: each chunk is
-- as often among those put. No chunk held is empty, and each tally is fair.
pub record AreLawful (chunks : List ChunkSeen) (tallies : List Tally) : Type 0 where
  pub account : (weight : ChunkSeen → ℕ) → put_by weight tallies ≡ got_by weight tallies + weight_of weight chunks
  pub filled : All (λ (chunk : ChunkSeen). chunk.vertices ≢ []) chunks
  pub fair : All (IsFair (shares_of tallies)) tallies

-- at a moment when the bag was lawful and held these chunks, one of its passes knew this
abbrev pub IsSeenIn : List ChunkSeen → Tally → Type 0
IsSeenIn chunks tally =
    (tallies : List Tally)
    × (place : ℕ)
    × AreLawful chunks tallies
    × (get_elem? tallies place ≡ some tally)

-- The bag was empty, if the pass is alone in it, with all shares: what it put is what it got, however chunks are
-- weighed. Of a bag with other passes it says nothing.
abbrev pub WasEmptyIfAlone : Tally → Type 0
WasEmptyIfAlone tally =
    tally.share ≡ tally.workers → (weight : ChunkSeen → ℕ) → weight_of weight tally.put ≡ weight_of weight tally.got

-- ---- what each step makes of a tally

-- the chunk was put
abbrev pub with_put : ChunkSeen → Tally → Tally
with_put chunk tally = record tally { put = tally.put ++ chunk ∷ [] }

-- the chunk was got
abbrev pub with_got : ChunkSeen → Tally → Tally
with_got chunk tally = record tally { got = tally.got ++ chunk ∷ [] }

-- a tally of this share, among these workers, by which nothing was put or got
abbrev pub new_tally : ℕ → ℕ → Tally
new_tally share workers = record { share = share; workers = workers; put = []; got = [] }

-- that of the first pass of a queue
abbrev pub first_tally : Tally
first_tally = new_tally 1 1

-- that of a pass that was joined into another, and of one that is made for a worker more
abbrev pub spent_tally : Tally
spent_tally = new_tally 0 0

-- the tally with all shares, once there is a worker more
abbrev pub grown : Tally → Tally
grown tally = record tally { share = tally.share + 1; workers = tally.workers + 1 }

-- a share was cut off
abbrev pub rest_of_shares : Tally → Tally
rest_of_shares tally = record tally { share = tally.share - 1 }

-- the share that was cut off
abbrev pub cut_share : Tally → Tally
cut_share tally = new_tally 1 tally.workers

-- both as one
abbrev pub joined : Tally → Tally → Tally
joined tally other = record tally {
  share = tally.share + other.share;
  put = tally.put ++ other.put;
  got = tally.got ++ other.got;
}
