-- The blocks of some queries and then of others: as texts, and as they are put.
use Rattle.std.proofs.Common.{◌≡◌, ℕ, ◌+◌, ◌<◌, ◌≤◌, List, [], ◌∷◌, ◌++◌, length, get_or, drop, take}
use Rattle.std.proofs.Common.{Option, refl, sym, subst, ap, ◌∙◌, append_assoc}
use Rattle.std.proofs.Math.Seq.{take-add}
use Rattle.std.proofs.lemmas.List.{append-nil, take_all, take_more}
use Rattle.job_answer.specs.AnswerText.{AreBlocks}
use Rattle.job_answer.specs.Sinks.{Puts}
use Rattle.job_answer.specs.declared.output.sink.Sink.{Sink}
use Rattle.job_answer.proofs.Sinks.{puts-as, puts-nothing, puts-then}

-- ---- as texts

pub blocks-push : {Query : Type 0} (IsBlockOf : Query → List ℕ → Type 0) (queries : List Query) (query : Query)
    (text block : List ℕ)
    → AreBlocks IsBlockOf queries text → IsBlockOf query block
    → AreBlocks IsBlockOf (queries ++ query ∷ []) (text ++ block)
blocks-push IsBlockOf [] query text block blocks is_block =
    (block, [], is_block, refl, ap (λ (xs : List ℕ). xs ++ block) blocks ∙ sym (append-nil block))
blocks-push IsBlockOf (first ∷ queries) query text block blocks is_block = (
  blocks.0,
  blocks.1 ++ block,
  blocks.2,
  blocks-push IsBlockOf queries query blocks.1 block blocks.3 is_block,
  ap (λ (xs : List ℕ). xs ++ block) blocks.4 ∙ append_assoc blocks.0 blocks.1 block,
)

pub blocks-append : {Query : Type 0} (IsBlockOf : Query → List ℕ → Type 0) (first second : List Query)
    (text more : List ℕ)
    → AreBlocks IsBlockOf first text → AreBlocks IsBlockOf second more
    → AreBlocks IsBlockOf (first ++ second) (text ++ more)
blocks-append IsBlockOf [] second text more one two =
    subst (λ (xs : List ℕ). AreBlocks IsBlockOf second (xs ++ more)) (sym one) two
blocks-append IsBlockOf (query ∷ first) second text more one two = (
  one.0,
  one.1 ++ more,
  one.2,
  blocks-append IsBlockOf first second one.1 more one.3 two,
  ap (λ (xs : List ℕ). xs ++ more) one.4 ∙ append_assoc one.0 one.1 more,
)

pub blocks-split : {Query : Type 0} (IsBlockOf : Query → List ℕ → Type 0) (first second : List Query) (text : List ℕ)
    → AreBlocks IsBlockOf (first ++ second) text
    → (a : List ℕ) × (b : List ℕ) × AreBlocks IsBlockOf first a × AreBlocks IsBlockOf second b × (text ≡ a ++ b)
blocks-split IsBlockOf [] second text all = ([], text, refl, all, refl)
blocks-split IsBlockOf (query ∷ first) second text all =
    let rest = blocks-split IsBlockOf first second all.1 all.3 in (
      all.0 ++ rest.0,
      rest.1,
      (all.0, rest.0, all.2, rest.2, refl),
      rest.3,
      all.4 ∙ ap (λ (xs : List ℕ). all.0 ++ xs) rest.4 ∙ sym (append_assoc all.0 rest.0 rest.1),
    )

-- ---- as they are put

module _ {Query W : Type 0} (IsBlockOf : Query → List ℕ → Type 0) (contents : W → Option (List ℕ)) where
  -- no block is put yet
  pub blocks-none : (sink : Sink W) → Puts contents (AreBlocks IsBlockOf []) sink sink
  blocks-none sink = puts-as contents (λ text is. is) (puts-nothing contents sink)

  -- a block more is put
  pub blocks-more : (queries : List Query) (i : ℕ) (d : Query) {old between new : Sink W} → i < length queries
      → Puts contents (AreBlocks IsBlockOf (take i queries)) old between
      → Puts contents (IsBlockOf (get_or queries i d)) between new
      → Puts contents (AreBlocks IsBlockOf (take (i + 1) queries)) old new
  blocks-more queries i d here put more =
      let query = get_or queries i d in
      puts-then contents
      (λ text are.
      let parts =
      blocks-split IsBlockOf (take i queries) (query ∷ []) text
      (subst (λ (xs : List Query). AreBlocks IsBlockOf xs text) (take_more queries i d here) are) in
      let last = parts.3 in
      let only : last.0 ≡ parts.1 =
      sym (append-nil last.0) ∙ sym (last.4 ∙ ap (λ (xs : List ℕ). last.0 ++ xs) last.3) in
      (parts.0, parts.1, parts.2, subst (IsBlockOf query) only last.2, parts.4))
      put more

  -- some blocks more are put
  pub blocks-on : (queries : List Query) (i count : ℕ) {old between new : Sink W}
      → Puts contents (AreBlocks IsBlockOf (take i queries)) old between
      → Puts contents (AreBlocks IsBlockOf (take count (drop i queries))) between new
      → Puts contents (AreBlocks IsBlockOf (take (i + count) queries)) old new
  blocks-on queries i count put more =
      puts-then contents
      (λ text are.
      blocks-split IsBlockOf (take i queries) (take count (drop i queries)) text
      (subst (λ (xs : List Query). AreBlocks IsBlockOf xs text) (take-add i count queries) are))
      put more

  -- all blocks are put
  pub blocks-all : (queries : List Query) (i : ℕ) {old new : Sink W} → length queries ≤ i
      → Puts contents (AreBlocks IsBlockOf (take i queries)) old new
      → Puts contents (AreBlocks IsBlockOf queries) old new
  blocks-all queries i {old} {new} past put =
      subst (λ (xs : List Query). Puts contents (AreBlocks IsBlockOf xs) old new) (take_all i queries past) put
