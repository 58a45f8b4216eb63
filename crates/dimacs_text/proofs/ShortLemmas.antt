-- How many section lines a request has that lacks lines.
use Rattle.std.proofs.Common.{◌≡◌, ◌⊎◌, inl, inr, ℕ, zero, suc, ◌+◌, Bool, true, false, cond, List, [], ◌∷◌, ◌++◌, length, map}
use Rattle.std.proofs.Common.{count_by, flat_map, replicate, Option, Some, None, Ok, Err, refl, sym, ap, ap₂, subst, ◌∙◌, append-nil}
use Rattle.std.proofs.Common.{append_assoc, length-append, arith}
use Rattle.std.proofs.lemmas.List.{length-map, map-append}
use Rattle.dimacs_text.specs.declared.fault.LineKind.{LineKind}
use Rattle.dimacs_text.specs.declared.fault.LineKind.TheVariants.{Misplaced, TooFew, TooMany}
use Rattle.dimacs_text.specs.declared.form.Form.TheVariants.{Head}
use Rattle.dimacs_text.specs.declared.form.Item.TheVariants.{Arc}
use Rattle.dimacs_text.specs.declared.form.Section.{Section}
use Rattle.dimacs_text.specs.declared.form.Section.TheVariants.{Problem, Sources, Pairs, Added}
use Rattle.dimacs_text.specs.declared.stage.Stage.{Stage}
use Rattle.dimacs_text.specs.declared.stage.Stage.TheVariants.{Start, Within}
use Rattle.dimacs_text.specs.Forms.{Record, Reading}
use Rattle.dimacs_text.specs.Grammar.{Part, Token, opens, adds, form_of_token, item_of, may_follow, tokens_of}
use Rattle.dimacs_text.specs.Grammar.{AreInTurn, AreOfAJob, BeginsLegal, IsLegal}
use Rattle.dimacs_text.specs.Faults.{tokens_among, unread, misfit, unfinished, IsFirstAmong}
use Rattle.dimacs_text.specs.Jobs.{Content, Question, absent, from_sources, of_pairs, problem_record, records_among, records_of}
use Rattle.dimacs_text.specs.Jobs.{records_of_added, records_of_question}
use Rattle.dimacs_text.specs.Heads.{begins_section}
use Rattle.dimacs_text.specs.AfterGraph.{after_graph, asks, is_later, reading_after}
use Rattle.dimacs_text.specs.reader.Drafts.{token_in}
use Rattle.dimacs_text.specs.reader.Machine.{run, same_item, unless_wrong}
use Rattle.dimacs_text.proofs.Existence.{question_in}
use Rattle.dimacs_text.proofs.Limits.{AreShaped}
use Rattle.dimacs_text.proofs.Machine.{complete, run-append}
use Rattle.dimacs_text.proofs.DraftLemmas.{form-token}
use Rattle.dimacs_text.proofs.RequestLimits.{lines_within, AllWithin}
use Rattle.dimacs_text.proofs.SectionLemmas.{answered_front, count_heads, heads_in, heads-append, IsAnsweredEarlier}
use Rattle.dimacs_text.proofs.TextLaws.{graph_first, led}
use Rattle.route_walks.specs.declared.graph.ArcRec.{ArcRec}

-- The first of the records, which follow a graph, are one section to its end, and more follow.
record IsSectionBefore (rs : List Record) : Type 0 where
  pub front : List Record
  pub next : Record
  pub rest : List Record
  pub section : Section
  pub parts : rs ≡ front ++ next ∷ rest
  pub runs : run (Within Problem 0) (map token_in front) ≡ Some (Within section 0)
  pub heads : heads_in front ≡ 1

abbrev HasOneHead : List Record → Type 0
HasOneHead rs = (heads_in rs ≡ 1) ⊎ IsSectionBefore rs

-- where one kind of misfit or another is, nothing goes on
never_on : (b : Bool) (one other : LineKind) (stage : Option Stage) (last : Stage)
    → unless_wrong (cond b (Some one) (Some other)) stage ≡ Some last
    → ⊥
never_on true one other stage last e = cc
never_on false one other stage last e = cc

form_by : (v : Record) (m : Token) → token_in v ≡ m → v.form ≡ form_of_token m
form_by v m e = sym (form-token v.form v.numbers) ∙ ap (λ x. form_of_token x) e

abbrev WalksOn : List Record → Section → Stage → Type 0
WalksOn vs s last =
    (us : List Record) (j : ℕ)
    → run (Within Problem 0) (map token_in us) ≡ Some (Within s j)
    → run (Within s j) (map token_in vs) ≡ Some last
    → heads_in us ≡ 1
    → HasOneHead (us ++ vs)

-- from the head of a section on
walk : (us vs : List Record) (s : Section) (j : ℕ) (last : Stage)
    → run (Within Problem 0) (map token_in us) ≡ Some (Within s j)
    → run (Within s j) (map token_in vs) ≡ Some last
    → heads_in us ≡ 1
    → HasOneHead (us ++ vs)
walk us [] s j last here on one = inl (ap (λ rs. heads_in rs) (append-nil us) ∙ one)
walk us (v ∷ vs) s j last here on one =
    by_token (token_in v) refl j here on (λ ws i before after single. walk ws vs s i last before after single)
  where
    by_item : (m : Token) (b : Bool) (i : ℕ)
        → token_in v ≡ m
        → is_later (Some (form_of_token m)) ≡ false
        → ((ms : List Token)
        → run (Within s (suc i)) (m ∷ ms) ≡ unless_wrong (cond b None (Some Misplaced)) (run (Within s i) ms))
        → run (Within Problem 0) (map token_in us) ≡ Some (Within s (suc i))
        → run (Within s (suc i)) (m ∷ map token_in vs) ≡ Some last
        → WalksOn vs s last
        → HasOneHead (us ++ v ∷ vs)
    by_item m false i is none steps here on go = absurd (let there = steps (map token_in vs) in cc)
    by_item m true i is none steps here on go =
        subst HasOneHead (append_assoc us (v ∷ []) vs)
        (go (us ++ v ∷ []) i
        (ap (λ ms. run (Within Problem 0) ms) (map-append token_in us (v ∷ []))
        ∙ run-append (map token_in us) (Within Problem 0) (Within s (suc i)) (token_in v ∷ []) here
        ∙ ap (λ t. run (Within s (suc i)) (t ∷ [])) is
        ∙ steps [])
        (sym (steps (map token_in vs)) ∙ on)
        (heads-append us (v ∷ [])
        ∙ ap₂ (λ k b. k + (cond b 1 0 + 0)) one (ap (λ f. is_later (Some f)) (form_by v m is) ∙ none)))

    by_token : (m : Token) → token_in v ≡ m → (k : ℕ)
        → run (Within Problem 0) (map token_in us) ≡ Some (Within s k)
        → run (Within s k) (token_in v ∷ map token_in vs) ≡ Some last
        → WalksOn vs s last
        → HasOneHead (us ++ v ∷ vs)
    by_token (opens next c) is zero here on go =
        inr (record { front = us; next = v; rest = vs; section = s; parts = refl; runs = here; heads = one })
    by_token (opens next c) is (suc i) here on go =
        absurd
        (never_on (may_follow s next) TooFew Misplaced _ last
        (sym (ap (λ t. run (Within s (suc i)) (t ∷ map token_in vs)) is) ∙ on))
    by_token (adds item) is zero here on go =
        absurd
        (never_on (same_item (item_of s) item) TooMany Misplaced _ last
        (sym (ap (λ t. run (Within s 0) (t ∷ map token_in vs)) is) ∙ on))
    by_token (adds item) is (suc i) here on go =
        by_item (adds item) (same_item (item_of s) item) i is refl (λ ms. refl) here
        (sym (ap (λ t. run (Within s (suc i)) (t ∷ map token_in vs)) is) ∙ on) go

-- from the graph on
walk_all : (rs : List Record) (last : Stage)
    → run (Within Problem 0) (map token_in rs) ≡ Some last → (rs ≡ [] → ⊥)
    → HasOneHead rs
walk_all [] last on some = absurd (some refl)
walk_all (v ∷ vs) last on some = by_token (token_in v) refl on
  where
    begins : (next : Section) (c : ℕ)
        → token_in v ≡ opens next c
        → is_later (Some (Head next)) ≡ true
        → ((ms : List Token) → run (Within Problem 0) (opens next c ∷ ms) ≡ run (Within next c) ms)
        → HasOneHead (v ∷ vs)
    begins next c is later steps =
        walk (v ∷ []) vs next c last (ap (λ t. run (Within Problem 0) (t ∷ [])) is ∙ steps [])
        (sym (ap (λ t. run (Within Problem 0) (t ∷ map token_in vs)) is ∙ steps (map token_in vs)) ∙ on)
        (ap (λ f. cond (is_later (Some f)) 1 0 + 0) (form_by v (opens next c) is) ∙ ap (λ b. cond b 1 0 + 0) later)

    by_token : (m : Token) → token_in v ≡ m
        → run (Within Problem 0) (token_in v ∷ map token_in vs) ≡ Some last
        → HasOneHead (v ∷ vs)
    by_token (opens Problem c) is e =
        absurd (let none = sym (ap (λ t. run (Within Problem 0) (t ∷ map token_in vs)) is) ∙ e in cc)
    by_token (opens Sources c) is e = begins Sources c is refl (λ ms. refl)
    by_token (opens Pairs c) is e = begins Pairs c is refl (λ ms. refl)
    by_token (opens Added c) is e = begins Added c is refl (λ ms. refl)
    by_token (adds item) is e =
        absurd
        (never_on (same_item Arc item) TooMany Misplaced _ last
        (sym (ap (λ t. run (Within Problem 0) (t ∷ map token_in vs)) is) ∙ e))

shaped_front : (n : ℕ) (us vs : List Record) → AllWithin n (us ++ vs) → AreShaped us
shaped_front n [] vs all = tt
shaped_front n (u ∷ us) vs all = ((n, all.0), shaped_front n us vs all.1)

asks_by : (q : Question) (added : Option (List ArcRec))
    → heads_in (records_of_question q ++ records_of_added added) ≡ 1
    → asks q added ≡ true
asks_by absent None e = absurd (omega (arith, e))
asks_by absent (Some arcs) e = refl
asks_by (from_sources vs) None e = refl
asks_by (from_sources vs) (Some arcs) e = refl
asks_by (of_pairs ps) None e = refl
asks_by (of_pairs ps) (Some arcs) e = refl

-- the records up to the end of a section are those of a request
job_for : (n : ℕ) (us : List Record) (s : Section)
    → run (Within Problem 0) (map token_in us) ≡ Some (Within s 0) → AreShaped us → heads_in us ≡ 1
    → (job : Content) × (problem_record n 0 ∷ us ≡ records_of job) × (asks job.question job.added ≡ true)
unfolding IsLegal
job_for n us s runs shaped one = by_legal (complete (opens Problem 0 ∷ map token_in us) s runs)
  where
    by_legal : (parts : List Part) × AreOfAJob parts × (opens Problem 0 ∷ map token_in us ≡ flat_map tokens_of parts)
        → (job : Content) × (problem_record n 0 ∷ us ≡ records_of job) × (asks job.question job.added ≡ true)
    by_legal ([], bad, e) = absurd bad
    by_legal (p ∷ ps, order, e) =
        let section : p.section ≡ Problem = cc in
        let count : p.count ≡ 0 = cc in
        let rest : map token_in us ≡ replicate p.count (adds (item_of p.section)) ++ flat_map tokens_of ps = cc in
        let found =
        question_in ps us (subst (λ s. AreInTurn s ps) section order.1)
        (rest ∙ ap (λ k. replicate k (adds (item_of p.section)) ++ flat_map tokens_of ps) count) shaped in (
          record { n = n; arcs = []; question = found.0; added = found.1 },
          ap (λ rs. problem_record n 0 ∷ rs) found.2
              ∙ sym (graph_first (record { n = n; arcs = []; question = found.0; added = found.1 })),
          asks_by found.0 found.1 (ap (λ rs. heads_in rs) (sym found.2) ∙ one),
        )

-- Lines that lack records at their end have one section line, or a front of them is a whole request.
pub short_section : (n : ℕ) (ls : List (List ℕ)) (kind : LineKind)
    → IsFirstAmong (after_graph n ls) (length ls + 2) kind
    → (count_by begins_section ls ≡ 1) ⊎ IsAnsweredEarlier n ls
short_section n ls kind (unread said after e begins is) =
    let right : Option Record → Reading = λ s. Ok s in
    absurd
    (omega (
      arith,
      is,
      ap (λ rs. length rs) e,
      length-map ls (λ l. reading_after n l),
      length-map said right,
      length-append (map right said) (Err kind ∷ after),
    ))
short_section n ls kind (misfit said r after e begins wrong is) =
    let right : Option Record → Reading = λ s. Ok s in
    absurd
    (omega (
      arith,
      is,
      ap (λ rs. length rs) e,
      length-map ls (λ l. reading_after n l),
      length-map said right,
      length-append (map right said) (Ok (Some r) ∷ after),
    ))
short_section n ls kind (unfinished said e begins never lack is) = by_said said e begins never
  where
    by_walk : (said : List (Option Record))
        → map (λ l. reading_after n l) ls ≡ map (λ s. Ok s) said
        → HasOneHead (records_among said)
        → (count_by begins_section ls ≡ 1) ⊎ IsAnsweredEarlier n ls
    by_walk said reads (inl one) = inl (count_heads n ls said reads ∙ one)
    by_walk said reads (inr earlier) =
        let shaped =
        shaped_front n earlier.front (earlier.next ∷ earlier.rest)
        (subst (λ rs. AllWithin n rs) earlier.parts (lines_within n ls said reads)) in
        let job = job_for n earlier.front earlier.section earlier.runs shaped earlier.heads in
        inr
        (answered_front n ls job.0 earlier.next earlier.rest (Some (problem_record n 0) ∷ said)
        (ap (λ rs. Ok (Some (problem_record n 0)) ∷ rs) reads)
        (ap (λ rs. problem_record n 0 ∷ rs) earlier.parts ∙ ap (λ rs. rs ++ earlier.next ∷ earlier.rest) job.1) job.2)

    by_said : (said : List (Option Record))
        → after_graph n ls ≡ map (λ s. Ok s) said → BeginsLegal (tokens_among said) → (IsLegal (tokens_among said) → ⊥)
        → (count_by begins_section ls ≡ 1) ⊎ IsAnsweredEarlier n ls
    by_said [] e begins never = absurd (cc)
    by_said (x ∷ said) e begins never =
        let first : x ≡ Some (problem_record n 0) = cc in
        let reads : map (λ l. reading_after n l) ls ≡ map (λ s. Ok s) said = cc in
        let there = led (x ∷ said) begins in
        let same : run Start (tokens_among (x ∷ said)) ≡ run (Within Problem 0) (map token_in (records_among said)) =
        ap (λ y. run Start (tokens_among (y ∷ said))) first in
        by_walk said reads
        (walk_all (records_among said) there.0 (sym same ∙ there.1)
        (λ none.
        never
        (complete (tokens_among (x ∷ said)) Problem
        (same ∙ ap (λ rs. run (Within Problem 0) (map token_in rs)) none))))
