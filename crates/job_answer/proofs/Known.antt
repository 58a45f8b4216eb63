-- Known bytes given, one piece after another.
use Rattle.std.proofs.Common.{◌≡◌, ℕ, List, [], ◌++◌, take, drop, Option, Some, None, sym, ap, ◌∙◌, append_assoc}
use Rattle.std.proofs.lemmas.List.{append-nil, take-append-drop}
use Rattle.std.specs.Io.KnownBytes.{Appends}

pub appends-then : (first second third : Option (List ℕ)) (some more : List ℕ)
    → Appends first second some → Appends second third more
    → Appends first third (some ++ more)
appends-then None second third some more one two = tt
appends-then (Some xs) None third some more one two = absurd one
appends-then (Some xs) (Some ys) None some more one two = absurd two
appends-then (Some xs) (Some ys) (Some zs) some more one two =
    two ∙ ap (λ (xs : List ℕ). xs ++ more) one ∙ append_assoc xs some more

pub appends-nothing : (before : Option (List ℕ)) → Appends before before []
appends-nothing None = tt
appends-nothing (Some xs) = sym (append-nil xs)

-- bytes of which a part was given, and the rest
pub record Splits (before after : Option (List ℕ)) (rest bytes : List ℕ) : Type 0 where
  pub given : List ℕ
  pub whole : bytes ≡ given ++ rest
  pub appended : Appends before after given

-- one write takes a prefix of the rest
pub splits-more : (before between after : Option (List ℕ)) (rest bytes : List ℕ) (count : ℕ)
    → Splits before between rest bytes → Appends between after (take count rest)
    → Splits before after (drop count rest) bytes
splits-more before between after rest bytes count one more = record {
  given = one.given ++ take count rest;
  whole =
      one.whole
      ∙ ap (λ (xs : List ℕ). one.given ++ xs) (sym (take-append-drop count rest))
      ∙ sym (append_assoc one.given (take count rest) (drop count rest));
  appended = appends-then before between after one.given (take count rest) one.appended more;
}
