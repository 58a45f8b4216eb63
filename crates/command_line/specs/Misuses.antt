-- What comes of the values of options: what they ask for, or a misuse.
use Rattle.std.specs.Prelude.{◌≡◌, ℕ, ⊤, Bool, false, Option, None, Result, Ok, Err}
use Rattle.job_answer.specs.LineWalks.{bound_in, has_raw_pairs, has_walks, is_raw, is_totals}
use Rattle.job_answer.specs.declared.question.asked.Answer.{Answer}
use Rattle.job_answer.specs.declared.question.asked.Answer.TheVariants.{Components}
use Rattle.job_answer.specs.declared.question.asked.Lines.{Lines}
use Rattle.command_line.specs.declared.refusals.Refusal.{Refusal}
use Rattle.command_line.specs.declared.refusals.Refusal.TheVariants as refusal
use Rattle.command_line.specs.declared.values.Misuse.{Misuse}
use Rattle.command_line.specs.declared.values.Misuse.TheVariants as misuse

-- What is asked for is found. A misuse that is a sentence comes only where nothing is asked for.
abbrev pub Finds : {X : Type 0} → (X → Type 0) → Result X Misuse → Type 0
Finds {X} Asks (Ok value) = Asks value
Finds {X} Asks (Err (misuse.Line line)) = (value : X) → Asks value → ⊥
Finds {X} Asks (Err misuse.Memory) = ⊤

-- the refusal that a misuse becomes
abbrev pub refusal_of : Misuse → Refusal
refusal_of (misuse.Line line) = refusal.Line line
refusal_of misuse.Memory = refusal.Memory

-- of components there is nothing that they don't have
abbrev pub SuitsKind : Answer → Option ℕ → Bool → Bool → Type 0
SuitsKind kind within raw totals = kind ≡ Components → (within ≡ None) × (raw ≡ false) × (totals ≡ false)

-- the lines with walks or not, within this bound, as bytes or not, in short or not, and those of pairs as text
pub record AreLines (walks : Bool) (within : Option ℕ) (raw totals : Bool) (lines : Lines) : Type 0 where
  pub walked : has_walks lines ≡ walks
  pub bound : bound_in lines ≡ within
  pub bytes : is_raw lines ≡ raw
  pub short : is_totals lines ≡ totals
  pub pairs : has_raw_pairs lines ≡ false
