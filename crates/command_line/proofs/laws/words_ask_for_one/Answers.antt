use Rattle.std.proofs.Common.{◌≡◌, ◌∙◌, sym}
use Rattle.job_answer.specs.LineWalks.{has_walks}
use Rattle.command_line.specs.CommandLine.{AsksLines}
use Rattle.command_line.proofs.Same.{same_asked, same_options}
use Rattle.command_line.proofs.Unique.{one_auto, one_flag, one_hyphen, one_kind, one_landmarks, one_lines, one_plan, one_settings, one_use}
use Rattle.command_line.proofs.laws.words_ask_for_one.Goals as goal

pub returns : goal.returns
returns c words one other is too =
    let a = is.ask in
    let b = too.ask in
    let kind : one.asked.answer ≡ other.asked.answer = one_kind _ _ _ a.answer b.answer in
    let walks : has_walks one.asked.lines ≡ has_walks other.asked.lines = one_flag _ _ _ a.walks b.walks in
    let lines : AsksLines _ _ _ other.asked.answer (has_walks other.asked.lines) one.asked.lines =
    rw (← kind, ← walks) a.lines in
    same_options one other
    (same_asked _ _ kind (one_lines _ _ _ _ _ _ _ lines b.lines) (one_settings _ _ _ _ _ a.settings b.settings)
    (a.limit ∙ sym b.limit) (one_plan _ _ _ a.at_once b.at_once)
    (one_landmarks _ _ _ a.landmarks b.landmarks) (one_use _ _ _ a.hierarchy b.hierarchy) (one_auto _ _ _ a.saves b.saves))
    (one_flag _ _ _ a.session b.session) (one_flag _ _ _ a.stats b.stats)
    (one_flag _ _ _ a.progress b.progress) (one_flag _ _ _ a.explain b.explain) (one_hyphen _ _ _ a.typed b.typed)
