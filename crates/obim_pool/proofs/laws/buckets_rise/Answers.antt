-- Buckets rise.
use Rattle.obim_pool.proofs.Buckets.{scale_rises, widening_rises}
use Rattle.obim_pool.proofs.laws.buckets_rise.Goals as goal

pub returns : goal.returns
returns c = record { widening = widening_rises; scaled = scale_rises }
