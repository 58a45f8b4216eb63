-- Bags and their passes, as contracts see them.
use Rattle.std.specs.Prelude.{◌≡◌, ℕ, ◌+◌, ◌%◌, ◌^◌, List, ◌++◌, map, All}
use Rattle.std.specs.declared.alloc.Global.{Global}
use Rattle.crossbeam_queue.specs.SegTies.{SegId}
use Rattle.obim_bags.specs.Chunks.{ChunkSeen}
use Rattle.obim_bags.specs.BagRule.{with_put, with_got, new_tally, put_by, got_by, weight_of, shares_of}
use Rattle.obim_bags.specs.declared.bag_rule.Tally.{Tally}

-- a bag: its metric, how many workers it has, and its queue by name
pub record BagSeen : Type 0 where
  pub metric : ℕ
  pub workers : ℕ
  pub queue : SegId Global

-- a pass: of which queue, what it knows, and how often it found the bag empty, modulo 2^64
pub record PassSeen : Type 0 where
  pub queue : SegId Global
  pub tally : Tally
  pub empties : ℕ

-- a pass of this queue, which counts this number of workers
abbrev pub IsPassAmong : SegId Global → ℕ → PassSeen → Type 0
IsPassAmong queue workers pass = (pass.queue ≡ queue) × (pass.tally.workers ≡ workers)

-- a pass of this bag
abbrev pub IsPassOf : BagSeen → PassSeen → Type 0
IsPassOf bag = IsPassAmong bag.queue bag.workers

-- a worker's pass of a new queue: it has put and got nothing
abbrev pub pass_among : SegId Global → ℕ → PassSeen
pass_among queue workers = record { queue = queue; tally = new_tally 1 workers; empties = 0 }

-- a worker's pass of a new bag
abbrev pub new_pass : BagSeen → PassSeen
new_pass bag = pass_among bag.queue bag.workers

-- the chunk was put through it
abbrev pub after_put : ChunkSeen → PassSeen → PassSeen
after_put chunk pass = record pass { tally = with_put chunk pass.tally }

-- the chunk was got through it
abbrev pub after_get : ChunkSeen → PassSeen → PassSeen
after_get chunk pass = record pass { tally = with_got chunk pass.tally }

-- it found the bag empty
abbrev pub after_empty_find : PassSeen → PassSeen
after_empty_find pass = record pass { empties = (pass.empties + 1) % 2 ^ 64 }

-- what the passes know
abbrev pub tallies_of : List PassSeen → List Tally
tallies_of passes = map (λ (pass : PassSeen). pass.tally) passes

-- these passes have all the shares of the bag
abbrev pub AreAllPasses : BagSeen → List PassSeen → Type 0
AreAllPasses bag passes = shares_of (tallies_of passes) ≡ bag.workers

-- passes of this bag that have put and got nothing were put last
pub record AreAdded (bag : BagSeen) (old new : List PassSeen) : Type 0 where
  pub added : List PassSeen
  pub last : new ≡ old ++ added
  pub are_new : All (λ (pass : PassSeen). pass ≡ new_pass bag) added

-- what these passes put is what they got and what was left, however chunks are weighed
abbrev pub AreSettled : List PassSeen → List ChunkSeen → Type 0
AreSettled passes left =
    (weight : ChunkSeen → ℕ)
    → put_by weight (tallies_of passes) ≡ got_by weight (tallies_of passes) + weight_of weight left

-- all but the rest of these passes were joined to this tally, which has their shares, and has put and got what they
-- did, however chunks are weighed
pub record AreJoined (all rest : List PassSeen) (tally : Tally) : Type 0 where
  pub shares : tally.share + shares_of (tallies_of rest) ≡ shares_of (tallies_of all)
  pub put : (weight : ChunkSeen → ℕ)
      → weight_of weight tally.put + put_by weight (tallies_of rest) ≡ put_by weight (tallies_of all)
  pub got : (weight : ChunkSeen → ℕ)
      → weight_of weight tally.got + got_by weight (tallies_of rest) ≡ got_by weight (tallies_of all)
