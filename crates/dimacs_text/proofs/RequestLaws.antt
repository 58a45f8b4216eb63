-- What lines after a graph can be: their faults where more lines follow, and lines that say nothing.
use Rattle.std.proofs.Common.{◌≡◌, ◌⊎◌, inl, inr, ℕ, zero, suc, ◌+◌, Bool, true, false, cond, List, [], ◌∷◌, ◌++◌, length, map}
use Rattle.std.proofs.Common.{Option, Some, None, Ok, Err, refl, ap, ◌∙◌, append_assoc, arith, length-append, ◌≤◌}
use Rattle.std.proofs.lemmas.Bool.{ne_eqb}
use Rattle.std.proofs.lemmas.List.{length-map, map-append}
use Rattle.dimacs_text.specs.declared.fault.LineKind.{LineKind}
use Rattle.dimacs_text.specs.declared.fault.LineKind.TheVariants.{Misplaced, TooFew}
use Rattle.dimacs_text.specs.declared.form.Form.{Form}
use Rattle.dimacs_text.specs.declared.form.Form.TheVariants.{Head, Counted}
use Rattle.dimacs_text.specs.declared.form.Section.TheVariants.{Problem, Sources, Pairs, Added}
use Rattle.dimacs_text.specs.declared.stage.Stage.{Stage}
use Rattle.dimacs_text.specs.declared.stage.Stage.TheVariants.{Start, Within}
use Rattle.dimacs_text.specs.Forms.{Record, Reading}
use Rattle.dimacs_text.specs.Grammar.{BeginsLegal, IsLegal, may_follow}
use Rattle.dimacs_text.specs.Faults.{tokens_among, unread, misfit, unfinished, IsFirstAmong}
use Rattle.dimacs_text.specs.Jobs.{Content, absent, problem_record, records_among}
use Rattle.dimacs_text.specs.AfterGraph.{after_graph, asks, is_later, reading_after}
use Rattle.dimacs_text.specs.Heads.{begins_section}
use Rattle.dimacs_text.specs.AfterGraph.{AreSilent, IsJobAmong, IsWhole}
use Rattle.dimacs_text.specs.reader.Machine.{run, misfit_at}
use Rattle.dimacs_text.specs.reader.Drafts.{token_in}
use Rattle.dimacs_text.specs.reader.Requests.{is_complete_at}
use Rattle.dimacs_text.proofs.Machine.{complete, machine_misfit}
use Rattle.dimacs_text.proofs.DraftLemmas.{form-token}
use Rattle.dimacs_text.proofs.TextLaws.{led, no_fault_among, one_job_among}
use Rattle.dimacs_text.proofs.AfterGraphLemmas.{section_says, SaysSection}

-- no head of a later section fits where records are missing
either : (may : Bool) → (kind : LineKind) × (cond may (Some TooFew) (Some Misplaced) ≡ Some kind)
either true = (TooFew, refl)
either false = (Misplaced, refl)

misfits : (stage : Stage) (form : Form)
    → is_complete_at stage ≡ false → is_later (Some form) ≡ true
    → (kind : LineKind) × (misfit_at stage form ≡ Some kind)
misfits stage (Counted item) lacks is = absurd (cc)
misfits stage (Head Problem) lacks is = absurd (cc)
misfits Start (Head Sources) lacks is = (Misplaced, refl)
misfits Start (Head Pairs) lacks is = (Misplaced, refl)
misfits Start (Head Added) lacks is = (Misplaced, refl)
misfits (Within s zero) (Head Sources) lacks is = absurd (cc)
misfits (Within s zero) (Head Pairs) lacks is = absurd (cc)
misfits (Within s zero) (Head Added) lacks is = absurd (cc)
misfits (Within s (suc j)) (Head Sources) lacks is = either (may_follow s Sources)
misfits (Within s (suc j)) (Head Pairs) lacks is = either (may_follow s Pairs)
misfits (Within s (suc j)) (Head Added) lacks is = either (may_follow s Added)

after-append : (n : ℕ) (ls more : List (List ℕ))
    → after_graph n (ls ++ more) ≡ after_graph n ls ++ map (λ l. reading_after n l) more
after-append n ls more =
    ap (λ l. Ok (Some (problem_record n 0)) ∷ l) (map-append (λ l. reading_after n l) ls more)

lacks_there : (said : List (Option Record)) (stage : Stage)
    → run Start (tokens_among said) ≡ Some stage → (IsLegal (tokens_among said) → ⊥)
    → is_complete_at stage ≡ false
lacks_there said Start runs never = refl
lacks_there said (Within s zero) runs never = absurd (never (complete (tokens_among said) s runs))
lacks_there said (Within s (suc j)) runs never = ne_eqb (suc j) 0 (λ e. omega (arith, e))

-- a section line is wrong after lines that lack records
too_soon : (n : ℕ) (ls : List (List ℕ)) (number : ℕ) (said : List (Option Record))
    → after_graph n ls ≡ map (λ s. Ok s) said → BeginsLegal (tokens_among said) → (IsLegal (tokens_among said) → ⊥)
    → number ≡ length said + 1
    → (line : List ℕ) (more : List (List ℕ))
    → begins_section line ≡ true
    → (kind : LineKind) × IsFirstAmong (after_graph n (ls ++ line ∷ more)) number kind
too_soon n ls number said e begins never is line more section = by_reading (section_says n line section)
  where
    later : List Reading
    later = map (λ l. reading_after n l) more

    split : (r : Reading)
        → reading_after n line ≡ r
        → after_graph n (ls ++ line ∷ more) ≡ map (λ s. Ok s) said ++ r ∷ later
    split r same =
        after-append n ls (line ∷ more)
        ∙ ap (λ l. l ++ reading_after n line ∷ later) e
        ∙ ap (λ x. map (λ s. Ok s) said ++ x ∷ later) same

    by_reading : SaysSection (reading_after n line)
        → (kind : LineKind) × IsFirstAmong (after_graph n (ls ++ line ∷ more)) number kind
    by_reading (inl (kind, same)) = (kind, unread said later (split (Err kind) same) begins is)
    by_reading (inr (head, same, form)) =
        let there = led said begins in
        let wrong = misfits there.0 head.form (lacks_there said there.0 there.1 never) form in (
          wrong.0,
          misfit said head later (split (Ok (Some head)) same) begins
              (machine_misfit (tokens_among said) there.0 (token_in head) wrong.0 there.1
              (ap (λ f. misfit_at there.0 f) (form-token head.form head.numbers) ∙ wrong.1)) is,
        )

-- A fault of lines is one of them, whatever follows; or they lack records, and a section line after them is wrong.
pub fault_or_end : (n : ℕ) (ls : List (List ℕ)) (before : ℕ) (kind : LineKind)
    → IsFirstAmong (after_graph n ls) (before + 2) kind
    → ((more : List (List ℕ)) → IsFirstAmong (after_graph n (ls ++ more)) (before + 2) kind)
    ⊎ ((before ≡ length ls)
    × ((line : List ℕ) (more : List (List ℕ))
    → begins_section line ≡ true
    → (other : LineKind) × IsFirstAmong (after_graph n (ls ++ line ∷ more)) (before + 2) other))
fault_or_end n ls before kind (unread said after e begins is) =
    inl
    (λ more.
    let later : List Reading = map (λ l. reading_after n l) more in
    unread said (after ++ later)
    (after-append n ls more ∙ ap (λ l. l ++ later) e ∙ append_assoc (map (λ s. Ok s) said) (Err kind ∷ after) later)
    begins is)
fault_or_end n ls before kind (misfit said r after e begins wrong is) =
    inl
    (λ more.
    let later : List Reading = map (λ l. reading_after n l) more in
    misfit said r (after ++ later)
    (after-append n ls more ∙ ap (λ l. l ++ later) e
    ∙ append_assoc (map (λ s. Ok s) said) (Ok (Some r) ∷ after) later) begins wrong is)
fault_or_end n ls before kind (unfinished said e begins never lack is) =
    let all = ap (λ rs. length rs) e in
    let right : Option Record → Reading = λ s. Ok s in
    inr (
      omega (arith, is, all, length-map ls (λ l. reading_after n l), length-map said right),
      λ line more section. too_soon n ls (before + 2) said e begins never is line more section,
    )

-- lines that say nothing leave a graph without a section
abbrev graph_alone : ℕ → Content
graph_alone n = record { n = n; arcs = []; question = absent; added = None }

abbrev none_said : List (List ℕ) → List (Option Record)
none_said [] = []
none_said (l ∷ ls) = None ∷ none_said ls

silent_said : (n : ℕ) (ls : List (List ℕ))
    → AreSilent n ls
    → map (λ l. reading_after n l) ls ≡ map (λ s. Ok s) (none_said ls)
silent_said n [] silent = refl
silent_said n (l ∷ ls) silent =
    ap (λ r. r ∷ map (λ l. reading_after n l) ls) silent.0
    ∙ ap (λ rs. Ok None ∷ rs) (silent_said n ls silent.1)

none_among : (ls : List (List ℕ)) → records_among (none_said ls) ≡ []
none_among [] = refl
none_among (l ∷ ls) = none_among ls

silent_graph : (n : ℕ) (ls : List (List ℕ)) → AreSilent n ls → IsJobAmong (after_graph n ls) (graph_alone n)
silent_graph n ls silent = (
  Some (problem_record n 0) ∷ none_said ls,
  ap (λ rs. Ok (Some (problem_record n 0)) ∷ rs) (silent_said n ls silent),
  ap (λ rs. problem_record n 0 ∷ rs) (none_among ls),
)

-- so they are no request, and none of them is wrong
pub silent_unasked : (n : ℕ) (ls : List (List ℕ)) (job : Content) → AreSilent n ls → IsWhole n ls job → ⊥
silent_unasked n ls job silent w =
    let same = one_job_among (after_graph n ls) job (graph_alone n) w.is_job (silent_graph n ls silent) in
    let none : asks job.question job.added ≡ false = ap (λ (j : Content). asks j.question j.added) same in
    let one = w.asked in
    cc

pub silent_right : (n : ℕ) (ls : List (List ℕ)) (line : ℕ) (kind : LineKind)
    → AreSilent n ls → IsFirstAmong (after_graph n ls) line kind
    → ⊥
silent_right n ls line kind silent fault =
    no_fault_among (after_graph n ls) (graph_alone n) line kind (silent_graph n ls silent) fault

-- a fault is one of the lines, or comes right after them
pub fault_inside : (n : ℕ) (ls : List (List ℕ)) (before : ℕ) (kind : LineKind)
    → IsFirstAmong (after_graph n ls) (before + 2) kind
    → before ≤ length ls
fault_inside n ls before kind (unread said after e begins is) =
    let right : Option Record → Reading = λ s. Ok s in
    omega (
      arith,
      is,
      ap (λ rs. length rs) e,
      length-map ls (λ l. reading_after n l),
      length-map said right,
      length-append (map right said) (Err kind ∷ after),
    )
fault_inside n ls before kind (misfit said r after e begins wrong is) =
    let right : Option Record → Reading = λ s. Ok s in
    omega (
      arith,
      is,
      ap (λ rs. length rs) e,
      length-map ls (λ l. reading_after n l),
      length-map said right,
      length-append (map right said) (Ok (Some r) ∷ after),
    )
fault_inside n ls before kind (unfinished said e begins never lack is) =
    let right : Option Record → Reading = λ s. Ok s in
    omega (
      arith,
      is,
      ap (λ rs. length rs) e,
      length-map ls (λ l. reading_after n l),
      length-map said right,
    )
