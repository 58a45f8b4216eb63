-- Lines come to one list of outcomes.
use Rattle.std.proofs.Common.{◌≡◌, ◌≤◌, ◌<◌, ◌⊎◌, inl, inr, ℕ, ◌+◌, true, cond, List, [], ◌∷◌, ◌++◌, length, count_by}
use Rattle.std.proofs.Common.{refl, sym, ap, ap₂, subst, ◌∙◌, append-nil, length-append, arith}
use Rattle.std.specs.List.{AllByRecursion}
use Rattle.std.proofs.lemmas.List.Sums.{sum_by-append}
use Rattle.dimacs_text.specs.declared.head.SectionHead.{SectionHead}
use Rattle.dimacs_text.specs.declared.fault.LineKind.{LineKind}
use Rattle.dimacs_text.specs.Faults.{IsFirstAmong}
use Rattle.dimacs_text.specs.Jobs.{Content}
use Rattle.dimacs_text.specs.AfterGraph.{after_graph, head_among, head_or_plain, AreSilent, IsWhole}
use Rattle.dimacs_text.specs.Heads.{begins_section}
use Rattle.dimacs_text.proofs.Facts.{fault_or_end, no_fault_among, one_fault_among, one_job_among, silent_right, silent_unasked}
use Rattle.request_reader.specs.Requests.{Outcome, whole, wrong, no_memory, told, AreRequests, AreRequestsTo, BeginsSection}
use Rattle.request_reader.specs.Requests.{IsAnswered, IsCut, IsRefused, IsRequest}
use Rattle.request_reader.specs.Laws.{IsHeard}
use Rattle.request_reader.proofs.Splits.{parted}

-- no longer lines are whole first
longest : (n first : ℕ) (ls us : List (List ℕ)) (line : ℕ) (i j : Content) (v : SectionHead)
    → IsAnswered n first ls line i v → IsWhole n us j
    → (ws : List (List ℕ))
    → ls ≡ us ++ ws
    → ws ≡ []
longest n first ls us line i j v one second ws is =
    by_parts (parted one.front (one.last ∷ []) us ws (sym one.parts ∙ is))
  where
    by_parts : ((xs : List (List ℕ)) × (one.front ≡ us ++ xs) × (ws ≡ xs ++ one.last ∷ []))
        ⊎ ((x : List ℕ) × (xs : List (List ℕ)) × (us ≡ one.front ++ x ∷ xs) × (one.last ∷ [] ≡ x ∷ xs ++ ws))
        → ws ≡ []
    by_parts (inl (xs, front, rest)) = absurd (one.unanswered us xs j front second)
    by_parts (inr (x, [], more, rest)) = cc
    by_parts (inr (x, y ∷ xs, more, rest)) = absurd (cc)

-- lines that part in two ways part alike, if neither front is longer
alike : (ls rest us others : List (List ℕ))
    → ls ++ rest ≡ us ++ others
    → ((ws : List (List ℕ)) → ls ≡ us ++ ws → others ≡ ws ++ rest → ws ≡ [])
    → ((ws : List (List ℕ)) → us ≡ ls ++ ws → rest ≡ ws ++ others → ws ≡ [])
    → (ls ≡ us) × (rest ≡ others)
alike ls rest us others e first second = by_parts (parted ls rest us others e)
  where
    by_parts : ((ws : List (List ℕ)) × (ls ≡ us ++ ws) × (others ≡ ws ++ rest))
        ⊎ ((w : List ℕ) × (ws : List (List ℕ)) × (us ≡ ls ++ w ∷ ws) × (rest ≡ w ∷ ws ++ others))
        → (ls ≡ us) × (rest ≡ others)
    by_parts (inl (ws, is, more)) =
        let none = first ws is more in (
          is ∙ ap (λ l. us ++ l) none ∙ append-nil us,
          sym (more ∙ ap (λ l. l ++ rest) none),
        )
    by_parts (inr (w, ws, is, more)) = absurd (let none = second (w ∷ ws) is more in cc)

count-apart : (us : List (List ℕ)) (l : List ℕ) (ws : List (List ℕ))
    → begins_section l ≡ true
    → count_by begins_section (us ++ l ∷ ws) ≡ count_by begins_section us + (1 + count_by begins_section ws)
count-apart us l ws begins =
    sum_by-append (λ x. cond (begins_section x) 1 0) us (l ∷ ws)
    ∙ ap (λ k. count_by begins_section us + k)
    (sum_by-append (λ x. cond (begins_section x) 1 0) (l ∷ []) ws
    ∙ ap (λ b. (0 + cond b 1 0) + count_by begins_section ws) begins)

-- no request that is refused goes on past a second section line
at_most_one : (ls rest : List (List ℕ)) → IsCut ls rest → count_by begins_section ls ≤ 1
at_most_one ls rest (inl (one, begins)) = omega (arith, one)
at_most_one ls rest (inr (few, none)) = few

longest_cut : (ls rest us others : List (List ℕ))
    → IsCut ls rest → IsCut us others
    → (ws : List (List ℕ))
    → ls ≡ us ++ ws → others ≡ ws ++ rest
    → ws ≡ []
longest_cut ls rest us others first second [] is more = refl
longest_cut ls rest us others first (inr (few, none)) (l ∷ ws) is more = absurd (cc)
longest_cut ls rest us others first (inl (one, begins)) (l ∷ ws) is more =
    absurd
    (let section : begins_section l ≡ true = subst BeginsSection more begins in
    let few = at_most_one ls rest first in
    let all = ap (λ x. count_by begins_section x) is ∙ count-apart us l ws section in
    omega (arith, few, all, one))

-- no lines are a whole request and one that is refused
clash : (n first : ℕ) (ls rest us others : List (List ℕ)) (last : ℕ) (job : Content) (head : SectionHead) (line : ℕ)
    (kind : LineKind)
    → ls ++ rest ≡ us ++ others → IsAnswered n first ls last job head → IsRefused n first us others line kind
    → ⊥
clash n first ls rest us others last job head line kind e one other = by_parts (parted ls rest us others e)
  where
    after_cut : (ws : List (List ℕ)) → ls ≡ us ++ ws → others ≡ ws ++ rest
        → ((l : List ℕ) (more : List (List ℕ)) → begins_section l ≡ true
        → (k : LineKind) × IsFirstAmong (after_graph n (us ++ l ∷ more)) (other.before + 2) k)
        → BeginsSection others
        → ⊥
    after_cut [] is more soon begins =
        other.unanswered us [] job (sym (append-nil us)) (subst (λ l. IsWhole n l job) (is ∙ append-nil us) one.is_whole)
    after_cut (l ∷ ws) is more soon begins =
        let wrong_there = soon l ws (subst BeginsSection more begins) in
        no_fault_among (after_graph n (us ++ l ∷ ws)) job (other.before + 2) wrong_there.0
        (subst (λ x. IsWhole n x job) is one.is_whole).is_job wrong_there.1

    by_fault : (ws : List (List ℕ)) → ls ≡ us ++ ws → others ≡ ws ++ rest
        → ((more : List (List ℕ)) → IsFirstAmong (after_graph n (us ++ more)) (other.before + 2) kind)
        ⊎ ((other.before ≡ length us)
        × ((l : List ℕ) (more : List (List ℕ)) → begins_section l ≡ true
        → (k : LineKind) × IsFirstAmong (after_graph n (us ++ l ∷ more)) (other.before + 2) k))
        → (other.before < length us) ⊎ BeginsSection others
        → ⊥
    by_fault ws is more (inl stays) inside =
        no_fault_among (after_graph n (us ++ ws)) job (other.before + 2) kind
        (subst (λ x. IsWhole n x job) is one.is_whole).is_job (stays ws)
    by_fault ws is more (inr (end, soon)) (inl few) = omega (arith, end, few)
    by_fault ws is more (inr (end, soon)) (inr begins) = after_cut ws is more soon begins

    by_parts : ((ws : List (List ℕ)) × (ls ≡ us ++ ws) × (others ≡ ws ++ rest))
        ⊎ ((w : List ℕ) × (ws : List (List ℕ)) × (us ≡ ls ++ w ∷ ws) × (rest ≡ w ∷ ws ++ others))
        → ⊥
    by_parts (inl (ws, is, more)) =
        by_fault ws is more (fault_or_end n us other.before kind other.fault) other.inside
    by_parts (inr (w, ws, is, more)) = other.unanswered ls (w ∷ ws) job is one.is_whole

-- lines that end with a line each have as many before it
as_many : (ls front us more : List (List ℕ)) (last final : List ℕ)
    → ls ≡ us → ls ≡ front ++ last ∷ [] → us ≡ more ++ final ∷ []
    → length front ≡ length more
as_many ls front us more last final same one other =
    omega (
      arith,
      ap (λ l. length l) (sym one ∙ same ∙ other),
      length-append front (last ∷ []),
      length-append more (final ∷ []),
    )

-- one request is the same
pub same_request : (n first : ℕ) (ls rest us others : List (List ℕ)) (a b : Outcome)
    → ls ++ rest ≡ us ++ others → IsHeard a → IsHeard b → IsRequest n first ls rest a → IsRequest n first us others b
    → (ls ≡ us) × (rest ≡ others) × (a ≡ b)
same_request n first ls rest us others (whole k i v) (whole l j w) e heard_a heard_b one other =
    let same =
    alike ls rest us others e
    (λ ws is more. longest n first ls us k i j v one other.is_whole ws is)
    (λ ws is more. longest n first us ls l j i w other one.is_whole ws is) in
    let before = as_many ls one.front us other.front one.last other.last same.0 one.parts other.parts in (
      same.0,
      same.1,
      ap (λ line. whole line i v) (one.number ∙ ap (λ k. told (first + k)) before ∙ sym other.number)
          ∙ ap₂ (λ job head. whole l job head)
          (one_job_among (after_graph n us) i j (subst (λ l. IsWhole n l i) same.0 one.is_whole).is_job other.is_whole.is_job)
          (one.head_is ∙ ap (λ l. head_or_plain (head_among l)) same.0 ∙ sym other.head_is),
    )
same_request n first ls rest us others (whole l i v) (wrong k kind) e heard_a heard_b one other =
    absurd (clash n first ls rest us others l i v k kind e one other)
same_request n first ls rest us others (wrong k kind) (whole l j w) e heard_a heard_b one other =
    absurd (clash n first us others ls rest l j w k kind (sym e) other one)
same_request n first ls rest us others (wrong k kind) (wrong l sort) e heard_a heard_b one other =
    let same =
    alike ls rest us others e (longest_cut ls rest us others one.cut other.cut)
    (longest_cut us others ls rest other.cut one.cut) in
    let fault =
    one_fault_among (after_graph n us) (one.before + 2) (other.before + 2) kind sort
    (subst (λ x. IsFirstAmong (after_graph n x) (one.before + 2) kind) same.0 one.fault) other.fault in
    let before : one.before ≡ other.before = omega (arith, fault.0) in (
      same.0,
      same.1,
      ap₂ (λ number sort. wrong number sort) (one.number ∙ ap (λ k. told (first + k)) before ∙ sym other.number) fault.1,
    )
same_request n first ls rest us others (no_memory k) b e heard_a heard_b one other = absurd heard_a
same_request n first ls rest us others (whole k i v) (no_memory l) e heard_a heard_b one other = absurd heard_b
same_request n first ls rest us others (wrong k kind) (no_memory l) e heard_a heard_b one other = absurd heard_b

-- lines that say nothing are no request
pub silent_front : (n : ℕ) (ls rest : List (List ℕ)) → AreSilent n (ls ++ rest) → AreSilent n ls
silent_front n [] rest silent = tt
silent_front n (l ∷ ls) rest silent = (silent.0, silent_front n ls rest silent.1)

pub none_asked : (n first : ℕ) (ls rest : List (List ℕ)) (a : Outcome)
    → IsHeard a → AreSilent n ls → IsRequest n first ls rest a
    → ⊥
none_asked n first ls rest (whole line job head) heard silent one = silent_unasked n ls job silent one.is_whole
none_asked n first ls rest (wrong line kind) heard silent one = silent_right n ls (one.before + 2) kind silent one.fault
none_asked n first ls rest (no_memory line) heard silent one = heard

none_follow : (n : ℕ) (next first : ℕ) (end all : List (List ℕ)) (a : Outcome) (later : List Outcome)
    → IsHeard a → AreSilent n all → AreRequestsTo n next end first all (a ∷ later)
    → ⊥
none_follow n next first end all a later heard silent (ls, rest, parts, one, on) =
    none_asked n first ls rest a heard (silent_front n ls rest (subst (λ l. AreSilent n l) parts silent)) one

one_list_to : (n first : ℕ) (all : List (List ℕ)) (a b : List Outcome) (next last : ℕ) (end finish : List (List ℕ))
    → AreRequestsTo n next end first all a → AreSilent n end
    → AreRequestsTo n last finish first all b → AreSilent n finish
    → AllByRecursion IsHeard a → AllByRecursion IsHeard b
    → a ≡ b
one_list_to n first all [] [] next last end finish one silent other quiet heard_a heard_b = refl
one_list_to n first all [] (b ∷ bs) next last end finish one silent other quiet heard_a heard_b =
    absurd
    (none_follow n last first finish all b bs heard_b.0 (subst (λ l. AreSilent n l) (sym one.1) silent) other)
one_list_to n first all (a ∷ later) [] next last end finish one silent other quiet heard_a heard_b =
    absurd
    (none_follow n next first end all a later heard_a.0 (subst (λ l. AreSilent n l) (sym other.1) quiet) one)
one_list_to n first all (a ∷ later) (b ∷ bs) next last end finish (ls, rest, parts, one, on) silent
    (us, others, apart, other, further) quiet heard_a heard_b =
    let same = same_request n first ls rest us others a b (sym parts ∙ apart) heard_a.0 heard_b.0 one other in
    ap₂ (λ o os. o ∷ os) same.2
    (one_list_to n (first + length ls) rest later bs next last end finish on silent
    (subst (λ k. AreRequestsTo n last finish (first + length k) rest bs) (sym same.0)
    (subst (λ l. AreRequestsTo n last finish (first + length us) l bs) (sym same.1) further))
    quiet heard_a.1 heard_b.1)

pub one_list : (n first : ℕ) (all : List (List ℕ)) (a b : List Outcome)
    → AreRequests n first all a → AreRequests n first all b → AllByRecursion IsHeard a → AllByRecursion IsHeard b
    → a ≡ b
one_list n first all a b one other heard_a heard_b =
    one_list_to n first all a b one.next other.next one.end other.end one.requests one.silent other.requests
    other.silent heard_a heard_b
