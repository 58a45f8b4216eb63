-- What a loop over many sources has kept.
use Rattle.std.specs.Prelude.{◌≡◌, ℕ, List, [], ◌∷◌, ◌++◌, ⊤}

-- each entry of a list has one of its own in another list, in the same order
abbrev pub AreFor : {A B : Type 0} → (A → B → Type 0) → List A → List B → Type 0
AreFor IsFor [] [] = ⊤
AreFor IsFor [] (y ∷ ys) = ⊥
AreFor IsFor (x ∷ xs) [] = ⊥
AreFor IsFor (x ∷ xs) (y ∷ ys) = IsFor x y × AreFor IsFor xs ys

-- the sources that are not left were taken, and each of them has an entry
pub record AreTaken {B : Type 0} (IsFor : ℕ → B → Type 0) (sources left : List ℕ) (entries : List B) : Type 0 where
  pub taken : List ℕ
  pub whole : sources ≡ taken ++ left
  pub each : AreFor IsFor taken entries
