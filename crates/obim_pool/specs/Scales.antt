-- Which bucket a label has, and the limits of a scale of buckets.
use Rattle.std.specs.Prelude.{ℕ, ◌+◌, ◌*◌, ◌-◌, ◌/◌, ◌^◌, ◌<◌, ◌≤◌, if◌then◌else◌, nat_lt}
use lib.Count.{count_leading_zeros}
use Rattle.atomic_table.specs.Seated.{TableId}

-- even buckets of 2 ^ shift labels each, and even of them
pub record AreWidths (shift even : ℕ) : Type 0 where
  pub small_shift : shift ≤ 51
  pub few_even : even ≤ 8192

-- a scale, as contracts see it
pub record Widths : Type 0 where
  pub shift : ℕ
  pub even : ℕ

-- a pool with a bag for each bucket by a scale: its log of bags, and the scale
pub record ScaledPool : Type 0 where
  pub log : TableId
  pub scale : Widths

-- how many bits a label of 64 bits has after its leading eight
abbrev pub bits_after : ℕ → ℕ
bits_after label = 56 - count_leading_zeros 64 label

-- the bucket of a label: its leading eight bits, after the 128 buckets for each bit that follows them
abbrev pub widening_bucket : ℕ → ℕ
widening_bucket label = bits_after label * 128 + label / 2 ^ bits_after label

-- the bucket of a label that is this many widths, 256 or more: even ones, and then wider ones again
abbrev pub bucket_beyond : Widths → ℕ → ℕ → ℕ
bucket_beyond scale widths label =
    if nat_lt widths scale.even then scale.shift * 128 + widths else widening_bucket label + scale.even

-- and of any label that is so many
abbrev pub bucket_among : Widths → ℕ → ℕ → ℕ
bucket_among scale widths label =
    if nat_lt widths 256 then widening_bucket label else bucket_beyond scale widths label

-- the bucket of a label by a scale
abbrev pub scale_bucket : Widths → ℕ → ℕ
scale_bucket scale label = bucket_among scale (label / 2 ^ scale.shift) label

-- of labels of 64 bits a larger one has the same bucket or a larger one
abbrev pub BucketsRise : (ℕ → ℕ) → Type 0
BucketsRise bucket = (label larger : ℕ) → label ≤ larger → larger < 2 ^ 64 → bucket label ≤ bucket larger
