-- The requests that follow a graph: which lines are one, and what becomes of it.
use Rattle.std.specs.Prelude.{◌≡◌, ◌⊎◌, ◌≤◌, ◌<◌, ◌+◌, ◌-◌, ◌^◌, ℕ, true, List, [], ◌∷◌, ◌++◌, length, min, count_by}
use Rattle.dimacs_text.specs.declared.head.SectionHead.{SectionHead}
use Rattle.dimacs_text.specs.declared.fault.LineKind.{LineKind}
use Rattle.dimacs_text.specs.declared.fault.LineKind.TheVariants.{TooFew}
use Rattle.dimacs_text.specs.Faults.{IsFirstAmong}
use Rattle.dimacs_text.specs.Jobs.{Content}
use Rattle.dimacs_text.specs.AfterGraph.{after_graph, head_among, head_or_plain, AreSilent, IsWhole}
use Rattle.dimacs_text.specs.Heads.{begins_section}

-- what becomes of a request
pub data Outcome : Type 0 where
  -- it is whole with the line of this number: its items, as a job whose graph has no arcs, and its head
  whole : ℕ → Content → SectionHead → Outcome
  -- the line of this number is wrong
  wrong : ℕ → LineKind → Outcome
  -- memory was refused at the line of this number
  no_memory : ℕ → Outcome

-- the number of a line as it is told: numbers end at 2^64 - 1
abbrev pub told : ℕ → ℕ
told number = min number (2 ^ 64 - 1)

-- no front of the lines is a whole request
abbrev pub IsUnanswered : ℕ → List (List ℕ) → Type 0
IsUnanswered n ls =
    (front rest : List (List ℕ)) (job : Content)
    → ls ≡ front ++ rest
    → IsWhole n front job
    → ⊥

-- the first of the lines is a section line
abbrev pub BeginsSection : List (List ℕ) → Type 0
BeginsSection [] = ⊥
BeginsSection (l ∷ ls) = begins_section l ≡ true

-- a request that is refused ends before the second section line in it, or where the lines end
abbrev pub IsCut : List (List ℕ) → List (List ℕ) → Type 0
IsCut ls rest =
    ((count_by begins_section ls ≡ 1) × BeginsSection rest)
    ⊎ ((count_by begins_section ls ≤ 1) × (rest ≡ []))

-- The lines, of which the first has the number given, are a whole request, and no shorter front of them is one. The last
-- of them has the number line.
pub record IsAnswered (n first : ℕ) (ls : List (List ℕ)) (line : ℕ) (job : Content) (head : SectionHead) : Type 0 where
  pub front : List (List ℕ)
  pub last : List ℕ
  pub parts : ls ≡ front ++ last ∷ []
  pub number : line ≡ told (first + length front)
  pub unanswered : IsUnanswered n front
  pub is_whole : IsWhole n ls job
  pub head_is : head ≡ head_or_plain (head_among ls)

-- They are refused at their first wrong line, which comes after this many of them. It is one of them, or the
-- section line that cuts them off.
pub record IsRefused (n first : ℕ) (ls rest : List (List ℕ)) (line : ℕ) (kind : LineKind) : Type 0 where
  pub before : ℕ
  pub number : line ≡ told (first + before)
  pub unanswered : IsUnanswered n ls
  pub fault : IsFirstAmong (after_graph n ls) (before + 2) kind
  pub cut : IsCut ls rest
  pub inside : (before < length ls) ⊎ BeginsSection rest

-- Memory was refused at one of them, before they were a whole request.
pub record IsStarved (n first : ℕ) (ls rest : List (List ℕ)) (line : ℕ) : Type 0 where
  pub front : List (List ℕ)
  pub here : List ℕ
  pub after : List (List ℕ)
  pub parts : ls ≡ front ++ here ∷ after
  pub number : line ≡ told (first + length front)
  pub unanswered : IsUnanswered n front
  pub cut : IsCut ls rest

-- the lines, of which the first has the number given, are a request that comes to this, and the rest follows
abbrev pub IsRequest : ℕ → ℕ → List (List ℕ) → List (List ℕ) → Outcome → Type 0
IsRequest n first ls rest (whole line job head) = IsAnswered n first ls line job head
IsRequest n first ls rest (wrong line kind) = IsRefused n first ls rest line kind
IsRequest n first ls rest (no_memory line) = IsStarved n first ls rest line

-- All lines up to an end are requests in order, after a graph of n vertices, and come to this. The first line has the
-- number first, and the first of the end has the number next.
abbrev pub AreRequestsTo : ℕ → ℕ → List (List ℕ) → ℕ → List (List ℕ) → List Outcome → Type 0
AreRequestsTo n next end first all [] = (first ≡ next) × (all ≡ end)
AreRequestsTo n next end first all (outcome ∷ outcomes) =
    (ls : List (List ℕ))
    × (rest : List (List ℕ))
    × (all ≡ ls ++ rest)
    × IsRequest n first ls rest outcome
    × AreRequestsTo n next end (first + length ls) rest outcomes

-- the lines are these requests, and what is left of them says nothing
pub record AreRequests (n first : ℕ) (all : List (List ℕ)) (outcomes : List Outcome) : Type 0 where
  pub next : ℕ
  pub end : List (List ℕ)
  pub requests : AreRequestsTo n next end first all outcomes
  pub silent : AreSilent n end

-- The lines are these requests, and then one that was begun and lacks lines. One past the last has this number.
pub record AreShort (n first : ℕ) (all : List (List ℕ)) (outcomes : List Outcome) (line : ℕ) : Type 0 where
  pub next : ℕ
  pub end : List (List ℕ)
  pub requests : AreRequestsTo n next end first all outcomes
  pub unanswered : IsUnanswered n end
  pub short : IsFirstAmong (after_graph n end) (length end + 2) TooFew
  pub number : line ≡ told (first + length all)
