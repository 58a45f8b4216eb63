-- How many section lines a whole request has.
use Rattle.std.proofs.Common.{◌≡◌, ◌⊎◌, inl, inr, ℕ, ◌+◌, Bool, true, false, cond, List, [], ◌∷◌, ◌++◌, length, map}
use Rattle.std.proofs.Common.{count_by, Option, Some, None, Ok, refl, sym, ap, ap₂, ◌∙◌, append-nil, arith}
use Rattle.std.proofs.lemmas.List.Sums.{sum_by-cons}
use Rattle.route_walks.specs.declared.graph.ArcRec.{ArcRec}
use Rattle.dimacs_text.specs.Forms.{Record}
use Rattle.dimacs_text.specs.Jobs.{Content, Question, absent, from_sources, of_pairs, added_record, arc_record, pair_record}
use Rattle.dimacs_text.specs.Jobs.{problem_record, source_record, records_among, records_of, records_of_added, records_of_question}
use Rattle.dimacs_text.specs.Heads.{begins_section}
use Rattle.dimacs_text.specs.AfterGraph.{after_graph, asks, is_later, reading_after, IsWhole}
use Rattle.dimacs_text.proofs.AfterGraphLemmas.{record_begins, silent_begins}
use Rattle.dimacs_text.proofs.OneRequest.{split_map, split_said}
use Rattle.dimacs_text.proofs.TextLaws.{graph_first, rest_of}

-- the heads of sections that can come after a graph
abbrev pub heads_in : List Record → ℕ
heads_in [] = 0
heads_in (r ∷ rs) = cond (is_later (Some r.form)) 1 0 + heads_in rs

pub heads-append : (rs us : List Record) → heads_in (rs ++ us) ≡ heads_in rs + heads_in us
heads-append [] us = omega arith
heads-append (r ∷ rs) us = let later = heads-append rs us in omega arith

items_headless : {X : Type 0} (rec : X → Record) (xs : List X)
    → ((x : X) → is_later (Some (rec x).form) ≡ false)
    → heads_in (map rec xs) ≡ 0
items_headless rec [] each = refl
items_headless rec (x ∷ xs) each =
    ap₂ (λ b k. cond b 1 0 + k) (each x) (items_headless rec xs each)

-- section lines are the lines that say such a head
pub count_heads : (n : ℕ) (ls : List (List ℕ)) (said : List (Option Record))
    → map (λ l. reading_after n l) ls ≡ map (λ s. Ok s) said
    → count_by begins_section ls ≡ heads_in (records_among said)
count_heads n [] [] e = refl
count_heads n [] (s ∷ said) e = absurd (cc)
count_heads n (l ∷ ls) [] e = absurd (cc)
count_heads n (l ∷ ls) (None ∷ said) e =
    let first : reading_after n l ≡ Ok None = cc in
    let rest : map (λ l. reading_after n l) ls ≡ map (λ s. Ok s) said = cc in
    sum_by-cons (λ x. cond (begins_section x) 1 0) l ls
    ∙ ap₂ (λ b k. cond b 1 0 + k) (silent_begins n l first) (count_heads n ls said rest)
    ∙ omega arith
count_heads n (l ∷ ls) (Some r ∷ said) e =
    let first : reading_after n l ≡ Ok (Some r) = cc in
    let rest : map (λ l. reading_after n l) ls ≡ map (λ s. Ok s) said = cc in
    sum_by-cons (λ x. cond (begins_section x) 1 0) l ls
    ∙ ap₂ (λ b k. cond b 1 0 + k) (record_begins n l r first) (count_heads n ls said rest)

-- those of a job are those of what it asks and of what it adds
heads_of_job : (job : Content)
    → heads_in (records_of job) ≡ heads_in (records_of_question job.question) + heads_in (records_of_added job.added)
heads_of_job job =
    ap (λ rs. heads_in rs) (graph_first job)
    ∙ ap (λ k. 0 + k)
    (heads-append (map arc_record job.arcs) (rest_of job)
    ∙ ap₂ (λ a b. a + b) (items_headless arc_record job.arcs (λ a. refl))
    (heads-append (records_of_question job.question) (records_of_added job.added)))
    ∙ omega arith

whole_heads : (n : ℕ) (ls : List (List ℕ)) (job : Content)
    → (said : List (Option Record))
    → Ok (Some (problem_record n 0)) ∷ map (λ l. reading_after n l) ls ≡ map (λ s. Ok s) said
    → records_among said ≡ records_of job
    → count_by begins_section ls
    ≡ heads_in (records_of_question job.question) + heads_in (records_of_added job.added)
whole_heads n ls job [] split is = absurd (cc)
whole_heads n ls job (s ∷ said) split is =
    let first : s ≡ Some (problem_record n 0) = cc in
    let rest : map (λ l. reading_after n l) ls ≡ map (λ s. Ok s) said = cc in
    let all : problem_record n 0 ∷ records_among said ≡ records_of job =
    ap (λ x. records_among (x ∷ said)) (sym first) ∙ is in
    count_heads n ls said rest
    ∙ omega (arith, ap (λ rs. heads_in rs) all, heads_of_job job)

-- a front of the lines is a whole request, and a line follows
pub record IsAnsweredEarlier (n : ℕ) (ls : List (List ℕ)) : Type 0 where
  pub front : List (List ℕ)
  pub next : List ℕ
  pub rest : List (List ℕ)
  pub job : Content
  pub parts : ls ≡ front ++ next ∷ rest
  pub is_whole : IsWhole n front job

-- so it is where the records are those of a request, and more
pub answered_front : (n : ℕ) (ls : List (List ℕ)) (job : Content) (v : Record) (vs : List Record)
    (said : List (Option Record))
    → after_graph n ls ≡ map (λ x. Ok x) said → records_among said ≡ records_of job ++ v ∷ vs
    → asks job.question job.added ≡ true
    → IsAnsweredEarlier n ls
answered_front n ls job v vs said reads is asked =
    let parts = split_said said (records_of job) (v ∷ vs) is in
    by_front parts.0 parts.1 (reads ∙ ap (λ s. map (λ x. Ok x) s) parts.2) parts.3 parts.4
  where
    by_rest : (front rest : List (List ℕ)) (t : List (Option Record))
        → ls ≡ front ++ rest → IsWhole n front job
        → map (λ l. reading_after n l) rest ≡ map (λ x. Ok x) t → records_among t ≡ v ∷ vs
        → IsAnsweredEarlier n ls
    by_rest front [] [] parts whole reads more = absurd (cc)
    by_rest front [] (x ∷ t) parts whole reads more = absurd (cc)
    by_rest front (l ∷ rest) t parts whole reads more =
        record { front = front; next = l; rest = rest; job = job; parts = parts; is_whole = whole }

    by_front : (s t : List (Option Record))
        → after_graph n ls ≡ map (λ x. Ok x) (s ++ t) → records_among s ≡ records_of job → records_among t ≡ v ∷ vs
        → IsAnsweredEarlier n ls
    by_front [] t reads is more = absurd (let none = is ∙ graph_first job in cc)
    by_front (x ∷ s) t reads is more =
        let first : x ≡ Some (problem_record n 0) = cc in
        let rest : map (λ l. reading_after n l) ls ≡ map (λ x. Ok x) (s ++ t) = cc in
        let cut = split_map n ls s t rest in
        by_rest cut.0 cut.1 t cut.2
        (record { is_job = (x ∷ s, ap₂ (λ o rs. Ok o ∷ rs) (sym first) cut.3, is); asked = asked }) cut.4 more

-- where arcs are added to what is asked, the question is a whole request by itself
asked_first : (n : ℕ) (ls : List (List ℕ)) (job : Content) (arcs : List ArcRec)
    → IsWhole n ls job → asks job.question None ≡ true → job.added ≡ Some arcs
    → IsAnsweredEarlier n ls
asked_first n ls job arcs w asked adds =
    answered_front n ls (record { n = job.n; arcs = job.arcs; question = job.question; added = None })
    (added_record (length arcs)) (map arc_record arcs) w.is_job.0 w.is_job.1
    (w.is_job.2
    ∙ ap₂ (λ a b. a ++ b)
    (sym
    (append-nil
    ((problem_record job.n (length job.arcs) ∷ map arc_record job.arcs) ++ records_of_question job.question)))
    (ap (λ added. records_of_added added) adds))
    asked

question_heads : (q : Question) → heads_in (records_of_question q) ≡ cond (asks q None) 1 0
question_heads absent = refl
question_heads (from_sources vs) = ap (λ k. 1 + k) (items_headless source_record vs (λ v. refl))
question_heads (of_pairs ps) = ap (λ k. 1 + k) (items_headless pair_record ps (λ p. refl))

-- A whole request has one section line, or a shorter front of its lines is one.
pub one_section : (n : ℕ) (ls : List (List ℕ)) (job : Content)
    → IsWhole n ls job
    → (count_by begins_section ls ≡ 1) ⊎ IsAnsweredEarlier n ls
one_section n ls job w = by_parts (asks job.question None) job.added refl refl
  where
    all : count_by begins_section ls
        ≡ heads_in (records_of_question job.question) + heads_in (records_of_added job.added)
    all = whole_heads n ls job w.is_job.0 w.is_job.1 w.is_job.2

    by_parts : (b : Bool) (added : Option (List ArcRec)) → asks job.question None ≡ b → job.added ≡ added
        → (count_by begins_section ls ≡ 1) ⊎ IsAnsweredEarlier n ls
    by_parts b None q a =
        let asked : asks job.question None ≡ true = ap (λ added. asks job.question added) (sym a) ∙ w.asked in
        inl
        (all
        ∙ ap₂ (λ x y. x + y) (question_heads job.question ∙ ap (λ b. cond b 1 0) asked)
        (ap (λ added. heads_in (records_of_added added)) a))
    by_parts false (Some arcs) q a =
        inl
        (all
        ∙ ap₂ (λ x y. x + y) (question_heads job.question ∙ ap (λ b. cond b 1 0) q)
        (ap (λ added. heads_in (records_of_added added)) a
        ∙ ap (λ k. 1 + k) (items_headless arc_record arcs (λ a. refl))))
    by_parts true (Some arcs) q a = inr (asked_first n ls job arcs w q a)
