use Rattle.std.proofs.Common.{◌∙◌, ap}
use Rattle.job_answer.specs.LineWalks.{bound_in, is_raw, is_totals}
use Rattle.command_line.proofs.Finding.{none_passed}
use Rattle.command_line.proofs.Unique.{one_cost, one_flag, one_form}
use Rattle.command_line.proofs.lines.lines_in.Goals as goal

pub returns-in_err-refuse_components : goal.returns-in_err-refuse_components
returns-in_err-refuse_components c =
    none_passed _ _ _ _ c.from_residual-in_err-refuse_components.ensures.1 c.in_err-refuse_components.ensures
    (λ lines asks. (
      tt,
      λ components.
          let plain = asks.plain components in (
            one_cost _ _ _ c.in_ok-within.ensures asks.asks_within ∙ ap bound_in plain,
            one_form _ _ _ c.in_ok-raw.ensures asks.asks_labels ∙ ap is_raw plain,
            one_flag _ _ _ c.has_flag-totals.ensures asks.asks_totals ∙ ap is_totals plain,
          ),
    ))
