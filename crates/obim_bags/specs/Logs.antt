-- The log of bags and its mirrors, as contracts see them.
use Rattle.std.specs.Prelude.{◌≡◌, ℕ, List, [], ◌∷◌, ◌++◌, map, length, drop, slice_set, Option, Some, None}
use Rattle.std.specs.Prelude.{slice_get, All}
use mathlib.Core.List.{IsPrefix}
use Rattle.atomic_table.specs.Seated.{TableId}
use Rattle.obim_bags.specs.Chunks.{ChunkSeen}
use Rattle.obim_bags.specs.BagRule.{WasEmptyIfAlone}
use Rattle.obim_bags.specs.Bags.{BagSeen, PassSeen, AreSettled, after_put, after_get}
use Rattle.obim_bags.specs.Bags.{after_empty_find, new_pass}
use Rattle.obim_bags.specs.Indexes.{AreDistinct}

-- a bag of the log, and a pass of it
pub record AccessSeen : Type 0 where
  pub bag : BagSeen
  pub pass : PassSeen

-- a mirror: of which log, and its accesses
pub record MirrorSeen : Type 0 where
  pub log : TableId
  pub accesses : List AccessSeen

abbrev pub bags_in : List AccessSeen → List BagSeen
bags_in accesses = map (λ (access : AccessSeen). access.bag) accesses

abbrev pub metrics_of : List BagSeen → List ℕ
metrics_of bags = map (λ (bag : BagSeen). bag.metric) bags

abbrev pub metrics_in : List AccessSeen → List ℕ
metrics_in accesses = metrics_of (bags_in accesses)

abbrev pub IsMirrorOf : TableId → MirrorSeen → Type 0
IsMirrorOf log mirror = mirror.log ≡ log

abbrev pub new_mirror : TableId → MirrorSeen
new_mirror log = record { log = log; accesses = [] }

-- a place whose pass has put and got nothing and found nothing
abbrev pub IsNew : AccessSeen → Type 0
IsNew place = place.pass ≡ new_pass place.bag

-- The mirror is longer by new accesses, or as it was: its accesses are as before, and no metric is there twice.
pub record Gains (old new : MirrorSeen) : Type 0 where
  pub log : new.log ≡ old.log
  pub kept : IsPrefix old.accesses new.accesses
  pub gained : All IsNew (drop (length old.accesses) new.accesses)
  pub distinct : AreDistinct (metrics_in new.accesses)

-- ---- what `put_at` and `get_at` make of a place

abbrev pub access_after_put : ChunkSeen → AccessSeen → AccessSeen
access_after_put chunk place = record place { pass = after_put chunk place.pass }

abbrev pub access_after_get : ChunkSeen → AccessSeen → AccessSeen
access_after_get chunk place = record place { pass = after_get chunk place.pass }

abbrev pub access_after_empty_find : AccessSeen → AccessSeen
access_after_empty_find place = record place { pass = after_empty_find place.pass }

-- one place is changed by this, and no other
abbrev pub ChangesAccess : ℕ → (AccessSeen → AccessSeen) → List AccessSeen → List AccessSeen → Type 0
ChangesAccess place change old new =
    (was : AccessSeen) × (slice_get old place ≡ Some was) × (new ≡ slice_set old place (change was))

-- one place is changed by this, and nothing else of the mirror
abbrev pub ChangesAt : ℕ → (AccessSeen → AccessSeen) → MirrorSeen → MirrorSeen → Type 0
ChangesAt place change old new =
    (was : AccessSeen) × (slice_get old.accesses place ≡ Some was)
    × (new ≡ record old { accesses = slice_set old.accesses place (change was) })

-- the bag at this place was empty, if its pass is alone in it
abbrev pub WasEmptyIfAloneIn : ℕ → List AccessSeen → Type 0
WasEmptyIfAloneIn place accesses =
    (was : AccessSeen) × (slice_get accesses place ≡ Some was) × WasEmptyIfAlone was.pass.tally

-- the same of a mirror
abbrev pub WasEmptyIfAloneAt : ℕ → MirrorSeen → Type 0
WasEmptyIfAloneAt place mirror = WasEmptyIfAloneIn place mirror.accesses

-- ---- draining

abbrev pub pass_in : Option AccessSeen → List PassSeen
pass_in None = []
pass_in (Some here) = here.pass ∷ []

-- the pass that a mirror has at a place, if it has one
abbrev pub pass_at : ℕ → MirrorSeen → List PassSeen
pass_at place mirror = pass_in (slice_get mirror.accesses place)

-- the passes that these mirrors have at a place
abbrev pub passes_at : ℕ → List MirrorSeen → List PassSeen
passes_at place [] = []
passes_at place (mirror ∷ mirrors) = pass_at place mirror ++ passes_at place mirrors

abbrev pub all_of : List (List ChunkSeen) → List ChunkSeen
all_of [] = []
all_of (part ∷ parts) = part ++ all_of parts

-- Each mirror has a prefix of one list of bags with distinct metrics. What is left is the chunks of each bag, by place;
-- and in each bag the chunks that the mirrors put are those that they got and those left.
pub record IsLogSettled (mirrors : List MirrorSeen) (left : List ChunkSeen) : Type 0 where
  pub bags : List BagSeen
  pub distinct : AreDistinct (metrics_of bags)
  pub prefixes : All (λ (mirror : MirrorSeen). IsPrefix (bags_in mirror.accesses) bags) mirrors
  pub parts : List (List ChunkSeen)
  pub left_is : left ≡ all_of parts
  pub whole : length parts ≡ length bags
  pub settled : (place : ℕ) (part : List ChunkSeen) → slice_get parts place ≡ Some part
      → AreSettled (passes_at place mirrors) part
