-- What tasks give that are done before their turn.
use Rattle.std.specs.Prelude.{ℕ, List, All, Option, Some}
use Rattle.least_costs.specs.declared.workers.task_queue.FinishedTask.{FinishedTask}

-- each is what the task at its place gives
abbrev pub AreFinished : {P : Type 0} → (ℕ → P → Type 0) → List (FinishedTask P) → Type 0
AreFinished IsPart made = All (λ one. IsPart one.place one.part) made

-- whatever comes of a call is what the task at its place gives, whatever the workers are before and after it
abbrev pub Makes : {W P : Type 0} → (ℕ → P → Type 0) → (ℕ → W → Option P → W → Type 0) → Type 0
Makes {W} {P} IsPart gives =
    (place : ℕ) (old new : W) (part : P) → gives place old (Some part) new → IsPart place part
