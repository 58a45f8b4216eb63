use Rattle.std.proofs.Common.{◌≡◌, ℕ, Bool, true, false, not, List, Option, Some, None, inl, inr, refl, sym, arith}
use Rattle.std.specs.Io.KnownBytes.{Keeps}
use Rattle.clap.specs.Words.{Text}
use Rattle.command_line.specs.CommandLine.{AskForNothing, AskForText, IsLine, IsText}
use Rattle.command_line.specs.declared.refusals.Refusal.{Refusal}
use Rattle.command_line.specs.declared.refusals.Refusal.TheVariants as refusal
use Rattle.obim_query.specs.declared.Ran.{Ran}
use Rattle.obim_query.specs.Replied.{HasRun, IsEndOf}
use Rattle.obim_query.proofs.run.Goals as goal
use Rattle.obim_query.proofs.run.Goals.{then-not-options+else-terminals, else-not-options}

-- what nobody touches stays
untouched : (bytes : Option (List ℕ)) → Keeps bytes bytes
untouched None = tt
untouched (Some bytes) = refl

-- whether there is a hyphen
untyped : (b : Bool) → not b ≡ true → b ≡ false
untyped false is = refl
untyped true is = sym is

typed : (b : Bool) → not b ≡ false → b ≡ true
typed true is = refl
typed false is = sym is

-- what a refusal of words comes to, where nothing was touched
refused_by : (why : Refusal) (end : Ran) (words : List Text) (is_terminal : Bool) (taken given : Option (List ℕ))
    → IsEndOf why end
    → (IsText why → AskForText words)
    → (IsLine why → AskForNothing words)
    → HasRun words is_terminal taken taken given given end
refused_by (refusal.Text text) end words is_terminal taken given is text_asked nothing_asked =
    rw is (record { taken = untouched taken; written = untouched given; asked = text_asked tt })
refused_by (refusal.Line line) end words is_terminal taken given is text_asked nothing_asked =
    rw is (inl (record {
      taken = untouched taken;
      written = untouched given;
      status_is = inl refl;
      refused = λ one. inl (nothing_asked tt);
    }))
refused_by refusal.Memory end words is_terminal taken given is text_asked nothing_asked =
    rw is (inl (record {
      taken = untouched taken;
      written = untouched given;
      status_is = inr refl;
      refused = λ one. absurd (omega (arith, one));
    }))

pub returns-in-Ok : goal.returns-in-Ok
returns-in-Ok g c =
    inl (record {
      taken = untouched _;
      written = untouched _;
      status_is = inl c.print_error.ensures;
      refused = λ is. inr (record {
        options = c.in-Ok.options;
        asked = c.in-Ok.ensures.asked;
        terminal = c.if-terminals.true;
        untyped = untyped _ c.if-not-options.true;
      });
    })

pub returns-in-Ok-2 : goal.returns-in-Ok-2
returns-in-Ok-2 g c =
    inr (inr (record {
      options = c.in-Ok.options;
      asked = c.in-Ok.ensures.asked;
      job = elim c.if-not-options.branch [
        | then-not-options+else-terminals w ↦ inl w.if-terminals.false
        | else-not-options w ↦ inr (typed _ w.if-not-options.false)
      ];
      more = c.if-options.true;
      served = c.serve.ensures;
    }))

pub returns-in-Ok-3 : goal.returns-in-Ok-3
returns-in-Ok-3 g c =
    inr (inl (record {
      options = c.in-Ok.options;
      asked = c.in-Ok.ensures.asked;
      job = elim c.if-not-options.branch [
        | then-not-options+else-terminals w ↦ inl w.if-terminals.false
        | else-not-options w ↦ inr (typed _ w.if-not-options.false)
      ];
      one = c.if-options.false;
      replied = c.run_job.ensures;
    }))

pub returns-in-Err : goal.returns-in-Err
returns-in-Err g c =
    refused_by c.in-Err.refusal _ _ _ _ _ c.refused.ensures c.in-Err.ensures.text c.in-Err.ensures.refused
