-- What lines come to so far is a front of what all lines come to, whatever follows.
use Rattle.std.proofs.Common.{◌≡◌, ◌≤◌, ◌<◌, ◌⊎◌, inl, inr, ℕ, ◌+◌, Bool, true, false, ◌&&◌, ◌||◌, List, [], ◌∷◌, ◌++◌, length}
use Rattle.std.proofs.Common.{refl, sym, ap, ap₂, subst, ◌∙◌, append-nil, append_assoc, length-append, arith, count_by}
use Rattle.std.specs.List.{AllByRecursion}
use Rattle.dimacs_text.specs.declared.fault.LineKind.{LineKind}
use Rattle.dimacs_text.specs.declared.fault.LineKind.TheVariants.{TooFew}
use Rattle.dimacs_text.specs.Faults.{IsFirstAmong}
use Rattle.dimacs_text.specs.AfterGraph.{after_graph, AreSilent}
use Rattle.dimacs_text.specs.Heads.{begins_section}
use Rattle.dimacs_text.proofs.Facts.{fault_or_end, fault_inside, one_fault_among}
use Rattle.request_reader.specs.declared.request_reader.RequestReader.{RequestReader}
use Rattle.request_reader.specs.Requests.{Outcome, whole, wrong, no_memory, AreRequestsTo}
use Rattle.request_reader.specs.Requests.{BeginsSection, IsCut, IsRequest, IsUnanswered}
use Rattle.request_reader.specs.Reading.{section_count, vertices_of, HasRequests, IsAmong}
use Rattle.request_reader.specs.Laws.{IsHeard, ComeToAtLast}
use Rattle.request_reader.proofs.Splits.{count-more}
use Rattle.request_reader.proofs.Steps.{then_one}
use Rattle.request_reader.proofs.Unique.{none_asked, same_request, silent_front}

-- no request is among the lines
abbrev NoneFollow : ℕ → List (List ℕ) → Type 0
NoneFollow n end =
    (first : ℕ) (ls rest : List (List ℕ)) (a : Outcome)
    → end ≡ ls ++ rest
    → IsHeard a
    → IsRequest n first ls rest a
    → ⊥

silent_spent : (n : ℕ) (end : List (List ℕ)) → AreSilent n end → NoneFollow n end
silent_spent n end silent first ls rest a parts heard one =
    none_asked n first ls rest a heard (silent_front n ls rest (subst (λ l. AreSilent n l) parts silent)) one

-- lines that lack records have no other fault
short_spent : (n : ℕ) (end : List (List ℕ))
    → IsUnanswered n end → IsFirstAmong (after_graph n end) (length end + 2) TooFew
    → NoneFollow n end
short_spent n end none short first ls rest (whole line job head) parts heard one = none ls rest job parts one.is_whole
short_spent n end none short first ls rest (no_memory line) parts heard one = heard
short_spent n end none short first ls rest (wrong line kind) parts heard one =
    by_fault (fault_or_end n ls one.before kind one.fault) one.inside
  where
    long : length end ≡ length ls + length rest
    long = ap (λ l. length l) parts ∙ length-append ls rest

    at_end : (other : LineKind) → IsFirstAmong (after_graph n (ls ++ rest)) (one.before + 2) other → one.before ≡ length end
    at_end other fault =
        let same =
        one_fault_among (after_graph n end) (one.before + 2) (length end + 2) other TooFew
        (subst (λ l. IsFirstAmong (after_graph n l) (one.before + 2) other) (sym parts) fault) short in
        omega (arith, same.0)

    after_cut : (others : List (List ℕ)) → rest ≡ others → BeginsSection others
        → ((l : List ℕ) (more : List (List ℕ)) → begins_section l ≡ true
        → (k : LineKind) × IsFirstAmong (after_graph n (ls ++ l ∷ more)) (one.before + 2) k)
        → one.before ≡ length ls
        → ⊥
    after_cut [] is begins soon end_is = begins
    after_cut (l ∷ more) is begins soon end_is =
        let fault = soon l more begins in
        let there =
        at_end fault.0 (subst (λ x. IsFirstAmong (after_graph n (ls ++ x)) (one.before + 2) fault.0) (sym is) fault.1) in
        omega (arith, there, end_is, long, ap (λ x. length x) is)

    cut_stays : (others : List (List ℕ)) → rest ≡ others → BeginsSection others → one.before ≡ length end → ⊥
    cut_stays [] is begins there = begins
    cut_stays (l ∷ more) is begins there =
        let low = fault_inside n ls one.before kind one.fault in
        omega (arith, there, low, long, ap (λ x. length x) is)

    by_fault : ((more : List (List ℕ)) → IsFirstAmong (after_graph n (ls ++ more)) (one.before + 2) kind)
        ⊎ ((one.before ≡ length ls)
        × ((l : List ℕ) (more : List (List ℕ)) → begins_section l ≡ true
        → (k : LineKind) × IsFirstAmong (after_graph n (ls ++ l ∷ more)) (one.before + 2) k))
        → (one.before < length ls) ⊎ BeginsSection rest
        → ⊥
    by_fault (inl stays) (inl few) = let there = at_end kind (stays rest) in omega (arith, there, few, long)
    by_fault (inl stays) (inr begins) = cut_stays rest refl begins (at_end kind (stays rest))
    by_fault (inr (end_is, soon)) (inl few) = omega (arith, end_is, few)
    by_fault (inr (end_is, soon)) (inr begins) = after_cut rest refl begins soon end_is

front_list : (n first : ℕ) (all : List (List ℕ)) (a b : List Outcome) (next last : ℕ) (end finish : List (List ℕ))
    → AreRequestsTo n next end first all a → AreRequestsTo n last finish first all b → NoneFollow n finish
    → AllByRecursion IsHeard a → AllByRecursion IsHeard b
    → (later : List Outcome) × (b ≡ a ++ later)
front_list n first all [] b next last end finish one other spent heard_a heard_b = (b, refl)
front_list n first all (a ∷ more) [] next last end finish (ls, rest, parts, one, on) other spent heard_a heard_b =
    absurd (spent first ls rest a (sym other.1 ∙ parts) heard_a.0 one)
front_list n first all (a ∷ more) (b ∷ bs) next last end finish (ls, rest, parts, one, on)
    (us, others, apart, other, further) spent heard_a heard_b =
    let same = same_request n first ls rest us others a b (sym parts ∙ apart) heard_a.0 heard_b.0 one other in
    let later =
    front_list n (first + length ls) rest more bs next last end finish on
    (subst (λ k. AreRequestsTo n last finish (first + length k) rest bs) (sym same.0)
    (subst (λ l. AreRequestsTo n last finish (first + length us) l bs) (sym same.1) further))
    spent heard_a.1 heard_b.1 in
    (later.0, ap₂ (λ o os. o ∷ os) (sym same.2) later.1)

-- where a request that was refused ends
cut_of : (ls more : List (List ℕ)) (c : Bool)
    → count_by begins_section ls ≡ section_count c
    → (passed : List (List ℕ)) × (rest : List (List ℕ)) × (more ≡ passed ++ rest) × IsCut (ls ++ passed) rest
cut_of ls [] c count =
    ([], [], refl, inr (few c (ap (λ l. count_by begins_section l) (append-nil ls) ∙ count), refl))
  where
    few : (b : Bool) → count_by begins_section (ls ++ []) ≡ section_count b → count_by begins_section (ls ++ []) ≤ 1
    few true e = omega (arith, e)
    few false e = omega (arith, e)
cut_of ls (l ∷ more) c count =
    by_line (λ d is. cut_of (ls ++ l ∷ []) more d is) c (begins_section l) count refl
  where
    on : ((d : Bool) → count_by begins_section (ls ++ l ∷ []) ≡ section_count d
        → (passed : List (List ℕ)) × (rest : List (List ℕ)) × (more ≡ passed ++ rest)
        × IsCut ((ls ++ l ∷ []) ++ passed) rest)
        → (d b : Bool) → count_by begins_section ls ≡ section_count d → begins_section l ≡ b → (d && b) ≡ false
        → (passed : List (List ℕ)) × (rest : List (List ℕ)) × (l ∷ more ≡ passed ++ rest) × IsCut (ls ++ passed) rest
    on go d b is begins first =
        let later =
        go (d || b)
        (count-more ls l d (d || b) is (ap (λ x. d && x) begins ∙ first) (ap (λ x. d || x) (sym begins))) in (
          l ∷ later.0,
          later.1,
          ap (λ x. l ∷ x) later.2,
          subst (λ x. IsCut x later.1) (append_assoc ls (l ∷ []) later.0) later.3,
        )

    by_line : ((d : Bool) → count_by begins_section (ls ++ l ∷ []) ≡ section_count d
        → (passed : List (List ℕ)) × (rest : List (List ℕ)) × (more ≡ passed ++ rest)
        × IsCut ((ls ++ l ∷ []) ++ passed) rest)
        → (d b : Bool) → count_by begins_section ls ≡ section_count d → begins_section l ≡ b
        → (passed : List (List ℕ)) × (rest : List (List ℕ)) × (l ∷ more ≡ passed ++ rest) × IsCut (ls ++ passed) rest
    by_line go true true is begins =
        ([], l ∷ more, refl, inl (ap (λ x. count_by begins_section x) (append-nil ls) ∙ is, begins))
    by_line go true false is begins = on go true false is begins refl
    by_line go false true is begins = on go false true is begins refl
    by_line go false false is begins = on go false false is begins refl

-- what a reader has said are requests, wherever all lines end
said_to : (b : Bool) (reader : RequestReader) (first : ℕ) (all : List (List ℕ)) (outcomes : List Outcome)
    → IsAmong b reader first all [] outcomes
    → (more : List (List ℕ))
    → (next : ℕ) × (end : List (List ℕ)) × AreRequestsTo reader.vertices next end first (all ++ more) outcomes
said_to false reader first all outcomes p more = (first + length p.done, p.ls ++ more, p.requests more)
said_to true reader first all outcomes p more =
    let cut = cut_of p.ls more reader.has_section p.sections in
    let whole_list = append_assoc p.ls cut.0 cut.1 in (
      first + length p.done + length (p.ls ++ cut.0),
      cut.1,
      subst
          (λ os.
          AreRequestsTo reader.vertices (first + length p.done + length (p.ls ++ cut.0)) cut.1 first (all ++ more) os)
          (sym p.last)
          (then_one reader.vertices (first + length p.done) (p.ls ++ cut.0) cut.1
          (first + length p.done + length (p.ls ++ cut.0)) first (all ++ more) p.before p.outcome
          (subst (λ l. AreRequestsTo reader.vertices (first + length p.done) l first (all ++ more) p.before)
          (ap (λ l. p.ls ++ l) cut.2 ∙ sym whole_list) (p.requests more))
          (p.refused cut.0 cut.1 cut.3) refl),
    )

-- lines begin with what was said of the first of them, whatever the others are
pub begins_with : (reader : RequestReader) (first : ℕ) (all : List (List ℕ)) (outcomes : List Outcome)
    → HasRequests reader first all outcomes
    → (more : List (List ℕ))
    → (next : ℕ) × (end : List (List ℕ)) × AreRequestsTo (vertices_of reader) next end first (all ++ more) outcomes
begins_with reader first all outcomes h more = said_to reader.is_refused reader first all outcomes h more

at_last : (n first : ℕ) (all : List (List ℕ)) (b : List Outcome)
    → ComeToAtLast n first all b
    → (last : ℕ) × (finish : List (List ℕ)) × AreRequestsTo n last finish first all b × NoneFollow n finish
at_last n first all b (inl told) = (told.next, told.end, told.requests, silent_spent n told.end told.silent)
at_last n first all b (inr (line, short)) =
    (short.next, short.end, short.requests, short_spent n short.end short.unanswered short.short)

pub so_far : (reader : RequestReader) (first : ℕ) (all : List (List ℕ)) (outcomes : List Outcome)
    → HasRequests reader first all outcomes
    → (more : List (List ℕ)) (b : List Outcome)
    → ComeToAtLast (vertices_of reader) first (all ++ more) b → AllByRecursion IsHeard outcomes
    → AllByRecursion IsHeard b
    → (later : List Outcome) × (b ≡ outcomes ++ later)
so_far reader first all outcomes h more b last heard_a heard_b =
    let one = said_to reader.is_refused reader first all outcomes h more in
    let other = at_last reader.vertices first (all ++ more) b last in
    front_list reader.vertices first (all ++ more) outcomes b one.0 other.0 one.1 other.1 one.2 other.2 other.3 heard_a
    heard_b
