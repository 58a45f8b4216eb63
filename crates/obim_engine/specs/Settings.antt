-- The limits of a run's settings.
use Rattle.std.specs.Prelude.{ℕ, ◌≤◌}
use Rattle.obim_engine.specs.declared.settings.Buckets.{Buckets}
use Rattle.obim_engine.specs.declared.settings.Buckets.TheVariants.{Even, Widening}
use Rattle.obim_engine.specs.declared.settings.TheConstants.{MAX_WORKERS, MAX_SHIFT, MAX_CHUNK}

-- by how many bits labels are shifted right; where buckets widen, by none
abbrev pub shift_of : Buckets → ℕ
shift_of (Even shift) = shift
shift_of Widening = 0

-- some workers, a shift and chunks of some vertices, all within their limits
pub record AreSettings (workers shift chunk : ℕ) : Type 0 where
  pub some_worker : 1 ≤ workers
  pub few_workers : workers ≤ MAX_WORKERS
  pub small_shift : shift ≤ MAX_SHIFT
  pub some_chunk : 1 ≤ chunk
  pub small_chunk : chunk ≤ MAX_CHUNK
