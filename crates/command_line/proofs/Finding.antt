-- What a misuse says of what is asked for.
use Rattle.std.proofs.Common.{◌≡◌, List, Result, Ok, Err, IfErr, IsErrAnd, sym, subst}
use Rattle.clap.specs.Words.{Text}
use Rattle.command_line.specs.CommandLine.{AskForNothing, IsLine, WordsAskFor}
use Rattle.command_line.specs.Misuses.{refusal_of}
use Rattle.command_line.specs.declared.options.Options.{Options}
use Rattle.command_line.specs.declared.refusals.Refusal.{Refusal}
use Rattle.command_line.specs.Misuses.{Finds}
use Rattle.command_line.specs.declared.values.Misuse.{Misuse}
use Rattle.command_line.specs.declared.values.Misuse.TheVariants as misuse

-- where the one is not asked for, the other isn't
pub none_of : {X Y : Type 0} (P : X → Type 0) (Q : Y → Type 0) (m : Misuse)
    → Finds P (Err m) → ((y : Y) → Q y → (x : X) × P x) → Finds Q (Err m)
none_of P Q (misuse.Line line) none back = λ y asks. none (back y asks).0 (back y asks).1
none_of P Q misuse.Memory none back = tt

-- a sentence where nothing is asked for
pub none_asked : {X : Type 0} (P : X → Type 0) (m : Misuse) → ((x : X) → P x → ⊥) → Finds P (Err m)
none_asked P (misuse.Line line) none = none
none_asked P misuse.Memory none = tt

-- the same of a misuse that is passed on
pub none_passed : {X Y : Type 0} (P : X → Type 0) (Q : Y → Type 0) (m : Misuse) (passed : Result Y Misuse)
    → IsErrAnd passed (λ e. e ≡ m) → Finds P (Err m) → ((y : Y) → Q y → (x : X) × P x) → Finds Q passed
none_passed P Q m (Ok value) is none back = absurd is
none_passed P Q m (Err e) is none back = subst (λ (n : Misuse). Finds Q (Err n)) (sym is) (none_of P Q m none back)

-- a refusal that is a sentence is a misuse that is one
line_of : (P : Options → Type 0) (m : Misuse) → IsLine (refusal_of m) → Finds P (Err m) → (options : Options)
    → P options → ⊥
line_of P (misuse.Line line) is none = none
line_of P misuse.Memory is none = absurd is

-- so where the misuse is passed on as a refusal, no options are asked for
pub none_refused : (words : List Text) (P : Options → Type 0) (m : Misuse) (passed : Result Options Refusal)
    → IsErrAnd passed (λ e. e ≡ refusal_of m) → Finds P (Err m)
    → ((options : Options) → WordsAskFor words options → P options)
    → IfErr passed (λ e. IsLine e → AskForNothing words)
none_refused words P m (Ok value) is none back = tt
none_refused words P m (Err e) is none back = λ line options asks.
    line_of P m (subst IsLine is line) none options (back options asks)
