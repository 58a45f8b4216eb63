-- Lines that are whole requests, and their fronts.
use Rattle.std.proofs.Common.{◌≡◌, ◌⊎◌, inl, inr, ℕ, ◌+◌, Bool, true, false, cond, ◌&&◌, ◌||◌, List, [], ◌∷◌, ◌++◌}
use Rattle.std.proofs.Common.{refl, sym, ap, ap₂, subst, ◌∙◌, arith, count_by}
use Rattle.std.proofs.lemmas.List.Sums.{sum_by-append}
use Rattle.dimacs_text.specs.declared.fault.LineKind.{LineKind}
use Rattle.dimacs_text.specs.Faults.{IsFirstAmong}
use Rattle.dimacs_text.specs.Jobs.{Content}
use Rattle.dimacs_text.specs.AfterGraph.{after_graph, AreSilent, IsWhole}
use Rattle.dimacs_text.specs.Heads.{begins_section}
use Rattle.dimacs_text.proofs.Facts.{empty_unasked, no_fault_among, silent_begins}
use Rattle.request_reader.specs.Requests.{IsUnanswered}
use Rattle.request_reader.specs.Reading.{section_count}

-- of two ways to part a list, one has the longer front
pub parted : {X : Type 0} (xs ys us vs : List X)
    → xs ++ ys ≡ us ++ vs
    → ((ws : List X) × (xs ≡ us ++ ws) × (vs ≡ ws ++ ys))
    ⊎ ((w : X) × (ws : List X) × (us ≡ xs ++ w ∷ ws) × (ys ≡ w ∷ ws ++ vs))
parted [] ys [] vs e = inl ([], refl, sym e)
parted [] ys (u ∷ us) vs e = inr (u, us, refl, e)
parted (x ∷ xs) ys [] vs e = inl (x ∷ xs, refl, sym e)
parted {X} (x ∷ xs) ys (u ∷ us) vs e =
    let first : x ≡ u = cc in
    let rest : xs ++ ys ≡ us ++ vs = cc in
    longer first (parted xs ys us vs rest)
  where
    longer : x ≡ u
        → ((ws : List X) × (xs ≡ us ++ ws) × (vs ≡ ws ++ ys))
        ⊎ ((w : X) × (ws : List X) × (us ≡ xs ++ w ∷ ws) × (ys ≡ w ∷ ws ++ vs))
        → ((ws : List X) × (x ∷ xs ≡ (u ∷ us) ++ ws) × (vs ≡ ws ++ ys))
        ⊎ ((w : X) × (ws : List X) × (u ∷ us ≡ (x ∷ xs) ++ w ∷ ws) × (ys ≡ w ∷ ws ++ vs))
    longer first (inl (ws, is, more)) = inl (ws, ap₂ (λ a l. a ∷ l) first is, more)
    longer first (inr (w, ws, is, more)) = inr (w, ws, ap₂ (λ a l. a ∷ l) (sym first) is, more)

-- no line is no whole request
pub none_unanswered : (n : ℕ) → IsUnanswered n []
none_unanswered n [] rest job e whole = empty_unasked n job whole
none_unanswered n (l ∷ front) rest job e whole = absurd (cc)

-- one line more that makes no whole request
pub unanswered_more : (n : ℕ) (ls : List (List ℕ)) (line : List ℕ)
    → IsUnanswered n ls → ((job : Content) → IsWhole n (ls ++ line ∷ []) job → ⊥)
    → IsUnanswered n (ls ++ line ∷ [])
unanswered_more n ls line none never front rest job e whole = by_parts (parted ls (line ∷ []) front rest e)
  where
    by_parts : ((ws : List (List ℕ)) × (ls ≡ front ++ ws) × (rest ≡ ws ++ line ∷ []))
        ⊎ ((w : List ℕ) × (ws : List (List ℕ)) × (front ≡ ls ++ w ∷ ws) × (line ∷ [] ≡ w ∷ ws ++ rest))
        → ⊥
    by_parts (inl (ws, is, more)) = none front ws job is whole
    by_parts (inr (w, [], is, more)) =
        let same : line ≡ w = cc in
        never job
        (subst (λ l. IsWhole n l job) (is ∙ ap (λ x. ls ++ x ∷ []) (sym same)) whole)
    by_parts (inr (w, v ∷ ws, is, more)) = absurd (cc)

-- lines that go on with one that is wrong are no whole request
pub unanswered_wrong : (n : ℕ) (ls : List (List ℕ)) (line : List ℕ) (number : ℕ) (kind : LineKind)
    → IsUnanswered n ls
    → ((more : List (List ℕ)) → IsFirstAmong (after_graph n (ls ++ line ∷ more)) number kind)
    → (more : List (List ℕ))
    → IsUnanswered n (ls ++ line ∷ more)
unanswered_wrong n ls line number kind none fault more front rest job e whole =
    by_parts (parted ls (line ∷ more) front rest e)
  where
    by_parts : ((ws : List (List ℕ)) × (ls ≡ front ++ ws) × (rest ≡ ws ++ line ∷ more))
        ⊎ ((w : List ℕ) × (ws : List (List ℕ)) × (front ≡ ls ++ w ∷ ws) × (line ∷ more ≡ w ∷ ws ++ rest))
        → ⊥
    by_parts (inl (ws, is, after)) = none front ws job is whole
    by_parts (inr (w, ws, is, after)) =
        let same : line ≡ w = cc in
        no_fault_among (after_graph n front) job number kind whole.is_job
        (subst (λ l. IsFirstAmong (after_graph n l) number kind) (ap (λ x. ls ++ x ∷ ws) same ∙ sym is) (fault ws))

-- how many section lines there are with one line more
pub count-more : (ls : List (List ℕ)) (line : List ℕ) (old new : Bool)
    → count_by begins_section ls ≡ section_count old → (old && begins_section line) ≡ false
    → new ≡ (old || begins_section line)
    → count_by begins_section (ls ++ line ∷ []) ≡ section_count new
count-more ls line old new count few is =
    sum_by-append (λ l. cond (begins_section l) 1 0) ls (line ∷ [])
    ∙ by_line old (begins_section line) count few
    ∙ ap section_count (sym is)
  where
    by_line : (b x : Bool) → count_by begins_section ls ≡ section_count b → (b && x) ≡ false
        → count_by begins_section ls + (0 + cond x 1 0) ≡ section_count (b || x)
    by_line true true c f = absurd (cc)
    by_line true false c f = omega (arith, c)
    by_line false true c f = omega (arith, c)
    by_line false false c f = omega (arith, c)

-- lines that say nothing have no section line
pub silent_count : (n : ℕ) (ls : List (List ℕ)) → AreSilent n ls → count_by begins_section ls ≡ 0
silent_count n [] silent = refl
silent_count n (l ∷ ls) silent =
    sum_by-append (λ x. cond (begins_section x) 1 0) (l ∷ []) ls
    ∙ ap₂ (λ b k. (0 + cond b 1 0) + k) (silent_begins n l silent.0) (silent_count n ls silent.1)
