-- Laws of texts.
use Rattle.std.specs.Prelude.{◌≡◌, ◌⊎◌, ℕ, List}
use Rattle.dimacs_text.specs.declared.fault.LineKind.{LineKind}
use Rattle.dimacs_text.specs.Jobs.{Content, IsJobText}
use Rattle.dimacs_text.specs.Faults.{IsFirstFault}

-- no text is a job's and has a fault
abbrev pub JobTextsHaveNoFault : Type 0
JobTextsHaveNoFault =
    (text : List ℕ) (job : Content) (line : ℕ) (kind : LineKind)
    → IsJobText text job
    → IsFirstFault text line kind
    → ⊥

-- no text is that of two jobs
abbrev pub ATextHasOneJob : Type 0
ATextHasOneJob =
    (text : List ℕ) (a b : Content)
    → IsJobText text a
    → IsJobText text b
    → a ≡ b

-- no text has two first faults
abbrev pub ATextHasOneFirstFault : Type 0
ATextHasOneFirstFault =
    (text : List ℕ) (i j : ℕ) (k l : LineKind)
    → IsFirstFault text i k
    → IsFirstFault text j l
    → (i ≡ j) × (k ≡ l)

-- each text is a job's, or has a first fault
abbrev pub EachTextIsAJobOrFails : Type 0
EachTextIsAJobOrFails =
    (text : List ℕ)
    → ((job : Content) × IsJobText text job)
    ⊎ ((line : ℕ) × (kind : LineKind) × IsFirstFault text line kind)
