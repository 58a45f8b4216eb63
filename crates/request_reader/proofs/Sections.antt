-- Each request has its section line.
use Rattle.std.proofs.Common.{◌≡◌, ◌≤◌, ◌<◌, ◌⊎◌, inl, inr, ℕ, zero, suc, ◌+◌, cond, List, [], ◌∷◌, ◌++◌, length, count_by}
use Rattle.std.proofs.Common.{refl, sym, ap, ◌∙◌, arith}
use Rattle.std.proofs.lemmas.List.Sums.{sum_by-append}
use Rattle.dimacs_text.specs.declared.head.SectionHead.{SectionHead}
use Rattle.dimacs_text.specs.declared.fault.LineKind.TheVariants.{TooFew}
use Rattle.dimacs_text.specs.Jobs.{Content}
use Rattle.dimacs_text.specs.Heads.{begins_section}
use Rattle.dimacs_text.proofs.Facts.{one_section, short_section, IsAnsweredEarlier}
use Rattle.request_reader.specs.Requests.{Outcome, whole, wrong, no_memory, AreRequests, AreRequestsTo, AreShort}
use Rattle.request_reader.specs.Requests.{BeginsSection, IsAnswered, IsCut, IsRequest, IsUnanswered}
use Rattle.request_reader.specs.Laws.{EachRequestHasItsSectionLine}
use Rattle.request_reader.proofs.Splits.{parted, silent_count}

-- a list with something in it is not empty
filled : {X : Type 0} (xs : List X) (x : X) (ys : List X) → [] ≡ xs ++ x ∷ ys → ⊥
filled [] x ys e = cc
filled (w ∷ xs) x ys e = cc

-- no line but the last ends a whole request
never_earlier : (n : ℕ) (ls front : List (List ℕ)) (last : List ℕ)
    → ls ≡ front ++ last ∷ [] → IsUnanswered n front → IsAnsweredEarlier n ls
    → ⊥
never_earlier n ls front last is none one =
    by_parts (parted front (last ∷ []) one.front (one.next ∷ one.rest) (sym is ∙ one.parts))
  where
    by_parts : ((ws : List (List ℕ)) × (front ≡ one.front ++ ws) × (one.next ∷ one.rest ≡ ws ++ last ∷ []))
        ⊎ ((w : List ℕ) × (ws : List (List ℕ)) × (one.front ≡ front ++ w ∷ ws) × (last ∷ [] ≡ w ∷ ws ++ one.next ∷ one.rest))
        → ⊥
    by_parts (inl (ws, parts, more)) = none one.front ws one.job parts one.is_whole
    by_parts (inr (w, ws, parts, more)) =
        let empty : [] ≡ ws ++ one.next ∷ one.rest = cc in
        filled ws one.next one.rest empty

-- a whole request has one section line
answered_count : (n first : ℕ) (ls : List (List ℕ)) (line : ℕ) (job : Content) (head : SectionHead)
    → IsAnswered n first ls line job head
    → count_by begins_section ls ≡ 1
answered_count n first ls line job head p = by_parts (one_section n ls job p.is_whole)
  where
    by_parts : (count_by begins_section ls ≡ 1) ⊎ IsAnsweredEarlier n ls → count_by begins_section ls ≡ 1
    by_parts (inl one) = one
    by_parts (inr earlier) = absurd (never_earlier n ls p.front p.last p.parts p.unanswered earlier)

-- so has one that is refused, or it ends where the lines end
abbrev HasItsLine : List (List ℕ) → List (List ℕ) → Type 0
HasItsLine ls rest =
    (count_by begins_section ls ≡ 1)
    ⊎ ((count_by begins_section ls ≡ 0) × (rest ≡ []))

cut_count : (ls rest : List (List ℕ)) → IsCut ls rest → HasItsLine ls rest
cut_count ls rest (inl (one, begins)) = inl one
cut_count ls rest (inr (few, none)) = by_count (count_by begins_section ls) refl few
  where
    by_count : (k : ℕ) → count_by begins_section ls ≡ k → k ≤ 1 → HasItsLine ls rest
    by_count zero e small = inr (e, none)
    by_count (suc zero) e small = inl e
    by_count (suc (suc k)) e small = absurd (omega arith)

request_count : (n first : ℕ) (ls rest : List (List ℕ)) (outcome : Outcome)
    → IsRequest n first ls rest outcome
    → HasItsLine ls rest
request_count n first ls rest (whole line job head) p = inl (answered_count n first ls line job head p)
request_count n first ls rest (wrong line kind) p = cut_count ls rest p.cut
request_count n first ls rest (no_memory line) p = cut_count ls rest p.cut

-- no lines are no request
none_requested : (n first : ℕ) (ls rest : List (List ℕ)) (outcome : Outcome)
    → [] ≡ ls ++ rest → IsRequest n first ls rest outcome
    → ⊥
none_requested n first (l ∷ ls) rest outcome e p = cc
none_requested n first [] (l ∷ rest) outcome e p = cc
none_requested n first [] [] (whole line job head) e p = filled p.front p.last [] p.parts
none_requested n first [] [] (wrong line kind) e p = by_place p.inside
  where
    by_place : (p.before < 0) ⊎ BeginsSection [] → ⊥
    by_place (inl few) = omega arith
    by_place (inr begins) = begins
none_requested n first [] [] (no_memory line) e p = filled p.front p.here p.after p.parts

none_left : (n next : ℕ) (end : List (List ℕ)) (first : ℕ) (rest : List (List ℕ)) (outcomes : List Outcome)
    → rest ≡ [] → AreRequestsTo n next end first rest outcomes
    → (outcomes ≡ []) × (end ≡ [])
none_left n next end first rest [] none p = (refl, sym p.1 ∙ none)
none_left n next end first rest (outcome ∷ outcomes) none (ls, more, parts, request, later) =
    absurd (none_requested n first ls more outcome (sym none ∙ parts) request)

-- as many requests as section lines before the end, or one more where nothing is left
abbrev AreCounted : List (List ℕ) → List (List ℕ) → List Outcome → Type 0
AreCounted end all outcomes =
    (length outcomes + count_by begins_section end ≡ count_by begins_section all)
    ⊎ ((length outcomes ≡ count_by begins_section all + 1) × (end ≡ []))

counted_to : (n next : ℕ) (end : List (List ℕ)) (first : ℕ) (all : List (List ℕ)) (outcomes : List Outcome)
    → AreRequestsTo n next end first all outcomes
    → AreCounted end all outcomes
counted_to n next end first all [] p = inl (omega (arith, ap (λ l. count_by begins_section l) p.1))
counted_to n next end first all (outcome ∷ outcomes) (ls, rest, parts, request, later) =
    by_line (request_count n first ls rest outcome request) (counted_to n next end (first + length ls) rest outcomes later)
  where
    sum : count_by begins_section all ≡ count_by begins_section ls + count_by begins_section rest
    sum = ap (λ l. count_by begins_section l) parts ∙ sum_by-append (λ x. cond (begins_section x) 1 0) ls rest

    by_line : HasItsLine ls rest → AreCounted end rest outcomes → AreCounted end all (outcome ∷ outcomes)
    by_line (inl one) (inl same) = inl (omega (arith, sum))
    by_line (inl one) (inr (more, none)) = inr (omega (arith, sum), none)
    by_line (inr (zero_there, empty)) c =
        let left = none_left n next end (first + length ls) rest outcomes empty later in
        inr (
          omega
              (arith, sum, ap (λ l. count_by begins_section l) empty, ap (λ (l : List Outcome). length l) left.0),
          left.1,
        )

each_counted : (n first : ℕ) (all : List (List ℕ)) (outcomes : List Outcome)
    → AreRequests n first all outcomes
    → (length outcomes ≡ count_by begins_section all) ⊎ (length outcomes ≡ count_by begins_section all + 1)
each_counted n first all outcomes p = by_count (counted_to n p.next p.end first all outcomes p.requests)
  where
    by_count : AreCounted p.end all outcomes
        → (length outcomes ≡ count_by begins_section all) ⊎ (length outcomes ≡ count_by begins_section all + 1)
    by_count (inl same) = inl (omega (arith, silent_count n p.end p.silent))
    by_count (inr (more, none)) = inr more

-- so it is where the last request lacks lines
short_counted : (n first : ℕ) (all : List (List ℕ)) (outcomes : List Outcome) (line : ℕ)
    → AreShort n first all outcomes line
    → length outcomes + 1 ≡ count_by begins_section all
short_counted n first all outcomes line p = by_count (counted_to n p.next p.end first all outcomes p.requests)
  where
    last : (count_by begins_section p.end ≡ 1) ⊎ IsAnsweredEarlier n p.end → count_by begins_section p.end ≡ 1
    last (inl one) = one
    last (inr earlier) =
        absurd (p.unanswered earlier.front (earlier.next ∷ earlier.rest) earlier.job earlier.parts earlier.is_whole)

    one : count_by begins_section p.end ≡ 1
    one = last (short_section n p.end TooFew p.short)

    by_count : AreCounted p.end all outcomes → length outcomes + 1 ≡ count_by begins_section all
    by_count (inl same) = omega (arith, one)
    by_count (inr (more, none)) = absurd (omega (arith, one, ap (λ l. count_by begins_section l) none))

pub each_has_its_line : EachRequestHasItsSectionLine
each_has_its_line n first all outcomes =
    (each_counted n first all outcomes, λ line short. short_counted n first all outcomes line short)
