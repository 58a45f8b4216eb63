use Rattle.std.proofs.Common.{◌-◌, take, ℕ, sym, subst, arith, length-append}
use Rattle.std.proofs.lemmas.List.{length-drop, length-take}
use Rattle.std.specs.Io.KnownBytes.{Consumes}
use Rattle.job_reader.proofs.Feeding.{take-filled}
use Rattle.std.proofs.KnownBytes.{Consumes-trans}
use Rattle.job_reader.proofs.piece.read_block.Goals as goal

pub loop-filled-preserved : goal.loop-filled-preserved
loop-filled-preserved g c =
    let filled = c.loop-filled.filled in
    let count = c.in_ok-count.count in
    let buffer = c.loop-filled.buffer in
    let part = c.read_some.new.buffer in
    let few = c.in_ok-count.ensures.count in
    record {
      inside =
          omega (
            arith,
            few,
            c.loop-filled.invariant.inside,
            c.read_some.auto.buffer,
            length-append {A = ℕ},
            length-take {A = ℕ},
            length-drop {A = ℕ},
          );
      within =
          omega (
            arith,
            c.loop-filled.invariant.within,
            c.read_some.auto.buffer,
            length-append {A = ℕ},
            length-take {A = ℕ},
            length-drop {A = ℕ},
          );
      taken =
          subst (λ l. Consumes (g.R.Read.remaining c.args.reader.now) (g.R.Read.remaining c.read_some.new.reader) l)
          (sym (take-filled filled (c.args.room - filled) count buffer part (omega arith) few))
          (Consumes-trans (g.R.Read.remaining c.args.reader.now) (g.R.Read.remaining c.loop-filled.reader)
          (g.R.Read.remaining c.read_some.new.reader) (take filled buffer) (take count part)
          c.loop-filled.invariant.taken c.in_ok-count.ensures.bytes.0);
    }
