-- What the seats of a log know, and the rule of its table of one word and one slot.
use Rattle.std.specs.Prelude.{◌≡◌, ◌≢◌, ◌⊎◌, ℕ, true, false, List, [], ◌∷◌, ◌++◌, All}
use mathlib.Core.Option.{Option, none, some}
use mathlib.Core.List.{IsPrefix}
use lib.ListN.{get_elem?}
use Rattle.atomic_table.specs.Table.{Me}
use Rattle.obim_bags.specs.Bags.{BagSeen}
use Rattle.obim_bags.specs.declared.log_rule.LogKnown.{LogKnown}

-- the list of bags begins with all that the seat, and seats joined into it, saw
pub record IsWithin (bags : List BagSeen) (known : LogKnown) : Type 0 where
  pub list : IsPrefix known.list bags
  pub others : All (λ (list : List BagSeen). IsPrefix list bags) known.others

-- what each seat knows has this
abbrev pub EachKnown : (LogKnown → Type 0) → List LogKnown → Type 0
EachKnown P all_known = (seat : ℕ) (known : LogKnown) → get_elem? all_known seat ≡ some known → P known

-- no seat but this one holds the slot
abbrev pub IsOnlyHolder : ℕ → List LogKnown → Type 0
IsOnlyHolder holder all_known =
    (seat : ℕ) (known : LogKnown) → get_elem? all_known seat ≡ some known → seat ≢ holder → known.holds ≡ false

-- ---- what each step makes of what a seat knows

abbrev pub new_known : LogKnown
new_known = record { list = []; others = []; holds = false }

-- the slot was taken, with this list in it
abbrev pub with_slot : List BagSeen → LogKnown → LogKnown
with_slot bags known = record known { list = bags; holds = true }

-- the slot was given back, with this list in it
abbrev pub without_slot : List BagSeen → LogKnown → LogKnown
without_slot bags known = record known { list = bags; holds = false }

-- another seat was joined into it: nothing that either saw is lost
abbrev pub joined_known : LogKnown → LogKnown → LogKnown
joined_known known other = record known { others = other.list ∷ (known.others ++ other.others) }

-- the seat has the slot, with some value in it
abbrev pub HoldsSlot : {S : Type 0} → Me S LogKnown → Type 0
HoldsSlot {S} me = (value : S) × (me.1 ≡ (0, value) ∷ [])

module _ {S : Type 0} (bags_of : S → List BagSeen) where
  -- the word is 0, the slot is at home with the list, and no seat holds it
  pub record IsFree (bags : List BagSeen) (words : List ℕ) (homes : List (Option S))
      (all_known : List LogKnown) : Type 0 where
    pub word : words ≡ 0 ∷ []
    pub value : S
    pub home : homes ≡ some value ∷ []
    pub list : bags_of value ≡ bags
    pub holds : EachKnown (λ (known : LogKnown). known.holds ≡ false) all_known

  -- the word is 1, and one seat holds the slot and knows the whole list
  pub record IsTaken (bags : List BagSeen) (words : List ℕ) (homes : List (Option S))
      (all_known : List LogKnown) : Type 0 where
    pub word : words ≡ 1 ∷ []
    pub home : homes ≡ none ∷ []
    pub holder : ℕ
    pub known : LogKnown
    pub holder_is : get_elem? all_known holder ≡ some known
    pub holds : known.holds ≡ true
    pub list : known.list ≡ bags
    pub only : IsOnlyHolder holder all_known

  -- The rule: there is one list of bags, which begins with all that any seat saw.
  pub record IsLog (words : List ℕ) (homes : List (Option S)) (all_known : List LogKnown) : Type 0 where
    pub bags : List BagSeen
    pub within : EachKnown (IsWithin bags) all_known
    pub slot : IsFree bags words homes all_known ⊎ IsTaken bags words homes all_known

  -- If the word was 0 the seat takes the slot, and knows the list in it, which begins with all that it knew. Otherwise
  -- nothing changes.
  abbrev pub MayTake : Me S LogKnown → ℕ → Me S LogKnown → Type 0
  MayTake old found new =
      (found ≡ 0 → (value : S) × (new ≡ (with_slot (bags_of value) old.0, (0, value) ∷ []))
      × IsWithin (bags_of value) old.0)
      × (found ≢ 0 → new ≡ old)

  -- the seat gives back the slot, and knows the list in it
  abbrev pub GivesBack : Me S LogKnown → Me S LogKnown → Type 0
  GivesBack old new = (value : S) → old.1 ≡ (0, value) ∷ [] → new ≡ (without_slot (bags_of value) old.0, [])
