use Rattle.std.proofs.Common.{◌≡◌, ℕ, ◌≤◌, ◌==◌, Bool, true, false, Option, None, Some, ◌∙◌, is_some, unwrap_or, if◌then◌else◌, ap, sym, arith}
use Rattle.clap.specs.Words.{Text}
use Rattle.obim_engine.specs.Settings.{AreSettings}
use Rattle.command_line.specs.CommandLine.{AsksNumber, usual_chunk}
use Rattle.command_line.proofs.values.settings_in.Goals as goal

-- a number that is asked for is within the limits, and so is one that stands for none
within_limits : (has_auto : Bool) (least most : ℕ) (text : Option Text) (asked : Option ℕ) (usual : ℕ)
    → AsksNumber has_auto least most text asked → least ≤ usual → usual ≤ most
    → (least ≤ unwrap_or asked usual) × (unwrap_or asked usual ≤ most)
within_limits has_auto least most None None usual asks low high = (low, high)
within_limits has_auto least most None (Some number) usual asks low high =
    let bad : Some number ≡ None = asks in absurd (cc)
within_limits has_auto least most (Some text) None usual asks low high = (low, high)
within_limits has_auto least most (Some text) (Some number) usual asks low high = (asks.1, asks.2)

-- a chunk has a usual size
usual_fits : (workers : ℕ) → (1 ≤ usual_chunk workers) × (usual_chunk workers ≤ 256)
usual_fits workers = go (workers == 1) (workers == 2)
  where
    go : (one two : Bool) → let size : ℕ = if one then 256 else (if two then 128 else 64) in (1 ≤ size) × (size ≤ 256)
    go true two = (omega arith, omega arith)
    go false true = (omega arith, omega arith)
    go false false = (omega arith, omega arith)

pub returns-in_default : goal.returns-in_default
returns-in_default c value asks =
    let workers = within_limits true 1 64 _ _ 2 c.in_ok-asked_in.ensures (omega arith) (omega arith) in
    let shift = within_limits true 0 63 _ _ 0 c.in_ok-shift.ensures (omega arith) (omega arith) in
    let usual = usual_fits c.unwrap_or-workers.result in
    let chunk = within_limits false 1 256 _ _ _ c.in_ok-asked_in-2.ensures usual.0 usual.1 in
    let fits : AreSettings c.unwrap_or-workers.result c.unwrap_or.result c.chunk_of-chunk.result = record {
      some_worker = omega (arith, c.unwrap_or-workers.ensures, workers.0);
      few_workers = omega (arith, c.unwrap_or-workers.ensures, workers.1);
      small_shift = omega (arith, c.unwrap_or.ensures, shift.1);
      some_chunk = omega (arith, c.chunk_of-chunk.ensures, chunk.0);
      small_chunk = omega (arith, c.chunk_of-chunk.ensures, chunk.1);
    } in
    let bad : false ≡ true = sym (ap is_some c.in_default.is) ∙ c.new.ensures.within.1 fits in absurd (cc)
