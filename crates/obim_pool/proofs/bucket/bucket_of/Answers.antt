-- The leading eight bits are few enough, and all bits of a label below 256.
use Rattle.std.proofs.Common.{arith}
use Rattle.obim_pool.proofs.Buckets.{eight_bits, narrow_bucket}
use Rattle.obim_pool.proofs.bucket.bucket_of.Goals as goal

pub overflow_add-result : goal.overflow_add-result
overflow_add-result c =
    rw c.from.ensures (rw c.saturating_sub-bits.ensures (omega (arith, eight_bits c.args.label c.ranges.label.fits)))

pub returns-clause-few : goal.returns-clause-few
returns-clause-few c =
    rw c.from.ensures (rw c.saturating_sub-bits.ensures (omega (arith, eight_bits c.args.label c.ranges.label.fits)))

pub returns-then-label-lt-NARROW_LABELS-clause-exact : goal.returns-then-label-lt-NARROW_LABELS-clause-exact
returns-then-label-lt-NARROW_LABELS-clause-exact c = narrow_bucket c.args.label (omega arith)
