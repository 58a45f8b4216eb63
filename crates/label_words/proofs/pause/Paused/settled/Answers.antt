-- Least labels are a pause with any marks.
use Rattle.std.proofs.Common.{◌≡◌, length, arith}
use Rattle.label_words.proofs.Pauses.{least_pause}
use Rattle.label_words.proofs.pause.Paused.settled.Goals as goal

pub returns-clause-pause : goal.returns-clause-pause
returns-clause-pause c =
    let count : length c.in_ok-marks.marks.items ≡ length c.args.labels.items =
    omega (arith, c.in_ok-marks.ensures.len, c.len.ensures) in
    λ graph seeds rows within least. least_pause graph seeds _ c.in_ok-marks.marks.items rows within least count
