-- How a log is drained: the accesses of its mirrors, and what is left in its bags.
use Rattle.std.specs.Prelude.{◌≡◌, ℕ, ◌+◌, ◌≤◌, List, [], ◌∷◌, ◌++◌, map, Some, slice_get, All}
use Rattle.std.specs.declared.vec.Vec.{Vec}
use Rattle.std.specs.declared.alloc.Global.{Global}
use mathlib.Core.List.{IsPrefix}
use Rattle.obim_bags.specs.Chunks.{ChunkSeen}
use Rattle.obim_bags.specs.Bags.{AreSettled, BagSeen, PassSeen}
use Rattle.obim_bags.specs.Logs.{MirrorSeen, AccessSeen, bags_in, pass_in}
use Rattle.obim_bags.specs.Entries.{AreAllOf, EntriesSeen, EntrySeen, IsEntry}
use Rattle.obim_bags.specs.LogRule.{IsWithin}
use Rattle.obim_bags.specs.declared.log_rule.LogKnown.{LogKnown}

abbrev pub lists_of : {X : Type 0} → List (Vec X Global) → List (List X)
lists_of vectors = map (λ vector. vector.items) vectors

abbrev pub accesses_of : List MirrorSeen → List (List AccessSeen)
accesses_of mirrors = map (λ (mirror : MirrorSeen). mirror.accesses) mirrors

-- the passes that these lists of accesses have at a place
abbrev pub passes_in : ℕ → List (List AccessSeen) → List PassSeen
passes_in place [] = []
passes_in place (accesses ∷ held) = pass_in (slice_get accesses place) ++ passes_in place held

-- each of these lists of accesses is of the first of these bags
abbrev pub AreOf : List BagSeen → List (List AccessSeen) → Type 0
AreOf bags held = All (λ (accesses : List AccessSeen). IsPrefix (bags_in accesses) bags) held

-- the seat knows that its log's list begins with the bags of each of these lists of accesses
abbrev pub KnowsAllOf : LogKnown → List (List AccessSeen) → Type 0
KnowsAllOf known held = (bags : List BagSeen) → IsWithin bags known → AreOf bags held

-- from the bag at this place on, each part is what is left in its bag
abbrev pub AreDrainedFrom : ℕ → List (List AccessSeen) → List (List ChunkSeen) → Type 0
AreDrainedFrom first held parts =
    (place : ℕ) (part : List ChunkSeen) → slice_get parts place ≡ Some part
    → AreSettled (passes_in (first + place) held) part

-- with the passes that are still in it, the passes of these lists at this place are all of the entry's bag
pub record IsWholeAt (place : ℕ) (held : List (List AccessSeen)) (entry : EntrySeen) : Type 0 where
  pub entry_is : IsEntry entry
  pub all : AreAllOf entry (passes_in place held)

-- so it is of each entry from this place on
abbrev pub AreWholeFrom : ℕ → List (List AccessSeen) → EntriesSeen → Type 0
AreWholeFrom first held entries =
    (place : ℕ) (entry : EntrySeen) → first ≤ place → slice_get entries.list place ≡ Some entry
    → IsWholeAt place held entry

-- of one entry's bag they aren't all
pub record LackSome (held : List (List AccessSeen)) (entries : EntriesSeen) : Type 0 where
  pub place : ℕ
  pub entry : EntrySeen
  pub there : slice_get entries.list place ≡ Some entry
  pub entry_is : IsEntry entry
  pub missing : AreAllOf entry (passes_in place held) → ⊥
