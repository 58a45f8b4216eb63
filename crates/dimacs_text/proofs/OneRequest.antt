-- The lines of a job after its graph are one request, where no arcs are added.
use Rattle.std.proofs.Common.{◌≡◌, ◌&&◌, ℕ, Bool, true, false, List, [], ◌∷◌, ◌++◌, codes, drop, length, map, IfSome}
use Rattle.std.proofs.Common.{Option, Some, None, Ok, get_or, bytes_eq, cond, refl, sym, ap, ap₂, subst, ◌∙◌, append_assoc, append-nil}
use Rattle.std.specs.List.{AllByRecursion}
use Rattle.std.specs.Option.{option_or}
use Rattle.std.proofs.lemmas.Slice.Eq.{bytes_eq-Decides}
use Rattle.std.proofs.lemmas.List.{map-append}
use Rattle.std.proofs.lemmas.List.Elements.{filter_map-append}
use Rattle.route_walks.specs.declared.graph.ArcRec.{ArcRec}
use Rattle.route_walks.specs.declared.graph.TheConstants.{MAX_VERTICES}
use Rattle.dimacs_text.specs.declared.fault.LineKind.{LineKind}
use Rattle.dimacs_text.specs.declared.fault.LineKind.TheVariants.{Misplaced, TooMany}
use Rattle.dimacs_text.specs.declared.form.Form.{Form}
use Rattle.dimacs_text.specs.declared.form.Form.TheVariants.{Head, Counted}
use Rattle.dimacs_text.specs.declared.form.Item.{Item}
use Rattle.dimacs_text.specs.declared.form.Section.{Section}
use Rattle.dimacs_text.specs.declared.form.Section.TheVariants.{Sources, Pairs, Added}
use Rattle.dimacs_text.specs.declared.head.SectionHead.{SectionHead}
use Rattle.dimacs_text.specs.declared.stage.Stage.TheVariants.{Start, Within}
use Rattle.dimacs_text.specs.Lines.{fields, lines, without_cr}
use Rattle.dimacs_text.specs.Forms.{Record, begins_with, fields_reading, reading, readings, record_reading, vertices_after}
use Rattle.dimacs_text.specs.Forms.{vertices_next}
use Rattle.dimacs_text.specs.Grammar.{Token, adds, IsLegal, item_of}
use Rattle.dimacs_text.specs.Jobs.{Content, Question, absent, from_sources, of_pairs, arc_record, pair_record, problem_record}
use Rattle.dimacs_text.specs.Jobs.{source_record, records_among, records_of, records_of_added, records_of_question, IsJobText}
use Rattle.dimacs_text.specs.Heads.{after_front, begins_section, front, head_in}
use Rattle.dimacs_text.specs.AfterGraph.{asks, asked_of, graph_of, has_question, head_among, head_of, reading_after}
use Rattle.dimacs_text.specs.AfterGraph.{section_reading, with_bound, AreSilent, IsJobAmong, IsPlain, IsWhole}
use Rattle.dimacs_text.specs.reader.Machine.{run, misfit_at, same_item, unless_wrong}
use Rattle.dimacs_text.specs.reader.Drafts.{token_in}
use Rattle.dimacs_text.proofs.AfterGraphLemmas.{begins_known, others_no_head, others_say, section_head, section_says_head}
use Rattle.dimacs_text.proofs.Machine.{legal_runs, run-append}
use Rattle.dimacs_text.proofs.DraftLemmas.{records-push}
use Rattle.dimacs_text.proofs.RequestLemmas.{all_silent, rest_filled, said_back, said_by_reading}
use Rattle.dimacs_text.proofs.TextLaws.{graph_first, legal_by, rest_of}

-- ---- a line of a job says the same after a graph, and its head has no words

-- what a section line of a job says is by the word after the first three fields
by_word : (n : ℕ) (x : List ℕ) (rest : List (List ℕ)) (said : Option Record) (s p a : Bool)
    → bytes_eq x (codes "ss") ≡ s → bytes_eq x (codes "p2p") ≡ p → bytes_eq x (codes "add") ≡ a
    → record_reading n
    (cond (s && true) (Some (Head Sources)) (cond (p && true) (Some (Head Pairs)) (cond (a && true) (Some (Head Added)) None)))
    (front ++ x ∷ rest)
    ≡ Ok said
    → (section_reading n (head_in (x ∷ rest)) ≡ Ok said) × IfSome (with_bound (head_in (x ∷ rest))) IsPlain
unfolding head_in
by_word n x rest said true p a is other third e =
    subst
    (λ w. (section_reading n (head_in (w ∷ rest)) ≡ Ok said) × IfSome (with_bound (head_in (w ∷ rest))) IsPlain)
    (sym ((bytes_eq-Decides x (codes "ss")).0 is)) (e, (refl, refl, refl))
by_word n x rest said false true a other is third e =
    subst
    (λ w. (section_reading n (head_in (w ∷ rest)) ≡ Ok said) × IfSome (with_bound (head_in (w ∷ rest))) IsPlain)
    (sym ((bytes_eq-Decides x (codes "p2p")).0 is)) (e, (refl, refl, refl))
by_word n x rest said false false true other third is e =
    subst
    (λ w. (section_reading n (head_in (w ∷ rest)) ≡ Ok said) × IfSome (with_bound (head_in (w ∷ rest))) IsPlain)
    (sym ((bytes_eq-Decides x (codes "add")).0 is)) (e, (refl, refl, refl))
by_word n x rest said false false false first second third e = absurd (cc)

by_rest : (n : ℕ) (rest : List (List ℕ)) (said : Option Record)
    → fields_reading n (front ++ rest) ≡ Ok said
    → (section_reading n (head_in rest) ≡ Ok said) × IfSome (with_bound (head_in rest)) IsPlain
unfolding fields_reading
by_rest n [] said e = absurd (cc)
by_rest n (x ∷ rest) said e =
    by_word n x rest said (bytes_eq x (codes "ss")) (bytes_eq x (codes "p2p")) (bytes_eq x (codes "add")) refl refl refl e

by_fields : (n : ℕ) (fs : List (List ℕ)) (said : Option Record)
    → begins_with front fs ≡ true → fields_reading n fs ≡ Ok said
    → (section_reading n (head_in (drop 3 fs)) ≡ Ok said) × IfSome (with_bound (head_in (drop 3 fs))) IsPlain
by_fields n fs said is e =
    let known = begins_known front fs is in
    subst
    (λ l. (section_reading n (head_in (drop 3 l)) ≡ Ok said) × IfSome (with_bound (head_in (drop 3 l))) IsPlain)
    (sym known.1) (by_rest n known.0 said (ap (λ l. fields_reading n l) (sym known.1) ∙ e))

section_right : (n : ℕ) (line : List ℕ) (said : Option Record)
    → begins_section line ≡ true → reading n line ≡ Ok said
    → (section_reading n (head_in (after_front line)) ≡ Ok said) × IfSome (with_bound (head_in (after_front line))) IsPlain
unfolding begins_section reading
section_right n line said is e = by_fields n (fields (without_cr line)) said is e

right_after : (n : ℕ) (line : List ℕ) (said : Option Record)
    → reading n line ≡ Ok said
    → (reading_after n line ≡ Ok said) × IfSome (head_of line) IsPlain
right_after n line said e = by_line (begins_section line) refl
  where
    by_line : (b : Bool) → begins_section line ≡ b → (reading_after n line ≡ Ok said) × IfSome (head_of line) IsPlain
    by_line false is =
        (others_say n line is ∙ e, subst (λ h. IfSome h IsPlain) (sym (others_no_head line is)) tt)
    by_line true is =
        let right = section_right n line said is e in (
          section_says_head n line (after_front line) (head_in (after_front line)) is refl refl ∙ right.0,
          subst (λ h. IfSome h IsPlain)
              (sym (section_head line (after_front line) (head_in (after_front line)) is refl refl)) right.1,
        )

first_plain : (a b : Option SectionHead) → IfSome a IsPlain → IfSome b IsPlain → IfSome (option_or a b) IsPlain
first_plain None b plain other = other
first_plain (Some head) b plain other = plain

-- the front of lines with such heads has them too
plain_front : (us vs : List (List ℕ)) → IfSome (head_among (us ++ vs)) IsPlain → IfSome (head_among us) IsPlain
plain_front [] vs plain = tt
plain_front (u ∷ us) vs plain = by_head (head_of u) plain (λ later. plain_front us vs later)
  where
    by_head : (head : Option SectionHead) → IfSome (option_or head (head_among (us ++ vs))) IsPlain
        → (IfSome (head_among (us ++ vs)) IsPlain → IfSome (head_among us) IsPlain)
        → IfSome (option_or head (head_among us)) IsPlain
    by_head None is later = later is
    by_head (Some head) is later = is

-- what lines say, and their records, part alike
pub split_said : (said : List (Option Record)) (us vs : List Record)
    → records_among said ≡ us ++ vs
    → (s : List (Option Record))
    × (t : List (Option Record))
    × (said ≡ s ++ t)
    × (records_among s ≡ us)
    × (records_among t ≡ vs)
split_said said [] vs e = ([], said, refl, refl, e)
split_said [] (u ∷ us) vs e = absurd (cc)
split_said (None ∷ said) (u ∷ us) vs e =
    let l = split_said said (u ∷ us) vs e in
    (None ∷ l.0, l.1, ap (λ x. None ∷ x) l.2, l.3, l.4)
split_said (Some r ∷ said) (u ∷ us) vs e =
    let first : r ≡ u = cc in
    let rest : records_among said ≡ us ++ vs = cc in
    let l = split_said said us vs rest in
    (Some r ∷ l.0, l.1, ap (λ x. Some r ∷ x) l.2, ap₂ (λ a x. a ∷ x) first l.3, l.4)

abbrev vertices_by : ℕ → List (Option Record) → ℕ
vertices_by v [] = v
vertices_by v (s ∷ said) = vertices_by (vertices_after v (Ok s)) said

split_lines : (v : ℕ) (ls : List (List ℕ)) (s t : List (Option Record))
    → readings v ls ≡ map (λ x. Ok x) (s ++ t)
    → (front : List (List ℕ))
    × (rest : List (List ℕ))
    × (ls ≡ front ++ rest)
    × (readings v front ≡ map (λ x. Ok x) s)
    × (readings (vertices_by v s) rest ≡ map (λ x. Ok x) t)
unfolding readings
split_lines v ls [] t e = ([], ls, refl, refl, e)
split_lines v [] (x ∷ s) t e = absurd (cc)
split_lines v (l ∷ ls) (x ∷ s) t e =
    let first : reading v l ≡ Ok x = cc in
    let rest : readings (vertices_after v (reading v l)) ls ≡ map (λ x. Ok x) (s ++ t) = cc in
    let later =
    split_lines (vertices_after v (Ok x)) ls s t
    (subst (λ r. readings (vertices_after v r) ls ≡ map (λ x. Ok x) (s ++ t)) first rest) in (
      l ∷ later.0,
      later.1,
      ap (λ x. l ∷ x) later.2,
      ap (λ r. r ∷ readings (vertices_after v r) later.0) first ∙ ap (λ rs. Ok x ∷ rs) later.3,
      later.4,
    )

arcs_by : (v : ℕ) (s : List (Option Record)) (arcs : List ArcRec)
    → records_among s ≡ map arc_record arcs
    → vertices_by v s ≡ v
arcs_by v [] arcs e = refl
arcs_by v (None ∷ s) arcs e = arcs_by v s arcs e
arcs_by v (Some r ∷ s) [] e = absurd (cc)
arcs_by v (Some r ∷ s) (arc ∷ arcs) e =
    let first : r ≡ arc_record arc = cc in
    let rest : records_among s ≡ map arc_record arcs = cc in
    subst (λ x. vertices_by (vertices_after v (Ok (Some x))) s ≡ v) (sym first) (arcs_by v s arcs rest)

graph_by : (v n m : ℕ) (s : List (Option Record)) (arcs : List ArcRec)
    → records_among s ≡ problem_record n m ∷ map arc_record arcs
    → vertices_by v s ≡ n
graph_by v n m [] arcs e = absurd (cc)
graph_by v n m (None ∷ s) arcs e = graph_by v n m s arcs e
graph_by v n m (Some r ∷ s) arcs e =
    let first : r ≡ problem_record n m = cc in
    let rest : records_among s ≡ map arc_record arcs = cc in
    subst (λ x. vertices_by (vertices_after v (Ok (Some x))) s ≡ n) (sym first) (arcs_by n s arcs rest)

-- a record that is no problem line
abbrev IsSteady : Record → Type 0
IsSteady r = (v : ℕ) → vertices_next v r.form (get_or r.numbers 0 0) ≡ v

items_steady : {X : Type 0} (rec : X → Record) (xs : List X)
    → ((x : X) → IsSteady (rec x))
    → AllByRecursion IsSteady (map rec xs)
items_steady rec [] each = tt
items_steady rec (x ∷ xs) each = (each x, items_steady rec xs each)

question_steady : (q : Question) → AllByRecursion IsSteady (records_of_question q)
question_steady absent = tt
question_steady (from_sources vs) = (λ v. refl, items_steady source_record vs (λ x v. refl))
question_steady (of_pairs ps) = (λ v. refl, items_steady pair_record ps (λ x v. refl))

-- lines of a job after its graph say the same in a session
lines_after : (n : ℕ) (ls : List (List ℕ)) (t : List (Option Record))
    → AllByRecursion IsSteady (records_among t) → readings n ls ≡ map (λ x. Ok x) t
    → (map (λ l. reading_after n l) ls ≡ map (λ x. Ok x) t)
    × IfSome (head_among ls) IsPlain
unfolding readings
lines_after n [] [] steady e = (refl, tt)
lines_after n [] (x ∷ t) steady e = absurd (cc)
lines_after n (l ∷ ls) [] steady e = absurd (cc)
lines_after n (l ∷ ls) (None ∷ t) steady e =
    let first : reading n l ≡ Ok None = cc in
    let rest : readings (vertices_after n (reading n l)) ls ≡ map (λ x. Ok x) t = cc in
    let later =
    lines_after n ls t steady (subst (λ r. readings (vertices_after n r) ls ≡ map (λ x. Ok x) t) first rest) in
    let right = right_after n l None first in (
      ap₂ (λ r rs. r ∷ rs) right.0 later.0,
      first_plain (head_of l) (head_among ls) right.1 later.1,
    )
lines_after n (l ∷ ls) (Some r ∷ t) steady e =
    let first : reading n l ≡ Ok (Some r) = cc in
    let rest : readings (vertices_after n (reading n l)) ls ≡ map (λ x. Ok x) t = cc in
    let later =
    lines_after n ls t steady.1
    (subst (λ v. readings v ls ≡ map (λ x. Ok x) t) (steady.0 n)
    (subst (λ r. readings (vertices_after n r) ls ≡ map (λ x. Ok x) t) first rest)) in
    let right = right_after n l (Some r) first in (
      ap₂ (λ r rs. r ∷ rs) right.0 later.0,
      first_plain (head_of l) (head_among ls) right.1 later.1,
    )

-- the last record, and what says nothing after it
last_said : (t : List (Option Record)) (r : Record) (rs : List Record)
    → records_among t ≡ r ∷ rs
    → (s : List (Option Record))
    × (x : Record)
    × (u : List (Option Record))
    × (t ≡ s ++ Some x ∷ u)
    × (records_among u ≡ [])
    × (records_among s ++ x ∷ [] ≡ r ∷ rs)
last_said [] r rs e = absurd (cc)
last_said (None ∷ t) r rs e =
    let l = last_said t r rs e in
    (None ∷ l.0, l.1, l.2, ap (λ x. None ∷ x) l.3, l.4, l.5)
last_said (Some y ∷ t) r [] e =
    let first : y ≡ r = cc in
    let rest : records_among t ≡ [] = cc in
    ([], y, t, refl, rest, ap (λ x. x ∷ []) first)
last_said (Some y ∷ t) r (q ∷ rs) e =
    let first : y ≡ r = cc in
    let rest : records_among t ≡ q ∷ rs = cc in
    let l = last_said t q rs rest in
    (Some y ∷ l.0, l.1, l.2, ap (λ x. Some y ∷ x) l.3, l.4, ap₂ (λ a x. a ∷ x) first l.5)

pub split_map : (n : ℕ) (ls : List (List ℕ)) (s t : List (Option Record))
    → map (λ l. reading_after n l) ls ≡ map (λ x. Ok x) (s ++ t)
    → (front : List (List ℕ))
    × (rest : List (List ℕ))
    × (ls ≡ front ++ rest)
    × (map (λ l. reading_after n l) front ≡ map (λ x. Ok x) s)
    × (map (λ l. reading_after n l) rest ≡ map (λ x. Ok x) t)
split_map n ls [] t e = ([], ls, refl, refl, e)
split_map n [] (x ∷ s) t e = absurd (cc)
split_map n (l ∷ ls) (x ∷ s) t e =
    let first : reading_after n l ≡ Ok x = cc in
    let rest : map (λ l. reading_after n l) ls ≡ map (λ x. Ok x) (s ++ t) = cc in
    let later = split_map n ls s t rest in
    (l ∷ later.0, later.1, ap (λ x. l ∷ x) later.2, ap₂ (λ r rs. r ∷ rs) first later.3, later.4)

-- a record that a head counts
abbrev IsItem : Record → Type 0
IsItem r = (i : Item) × (r.form ≡ Counted i)

items_are : {X : Type 0} (rec : X → Record) (xs : List X)
    → ((x : X) → IsItem (rec x))
    → AllByRecursion IsItem (map rec xs)
items_are rec [] each = tt
items_are rec (x ∷ xs) each = (each x, items_are rec xs each)

-- all records of a question but the first are
abbrev AreItemsLater : List Record → Type 0
AreItemsLater [] = Unit {0}
AreItemsLater (r ∷ rs) = AllByRecursion IsItem rs

question_items : (q : Question) → AreItemsLater (records_of_question q)
question_items absent = tt
question_items (from_sources vs) = items_are source_record vs (λ v. (_, refl))
question_items (of_pairs ps) = items_are pair_record ps (λ p. (_, refl))

item_after : (ys : List Record) (z : Record) (zs : List Record) → AllByRecursion IsItem (ys ++ z ∷ zs) → IsItem z
item_after [] z zs all = all.0
item_after (y ∷ ys) z zs all = item_after ys z zs all.1

-- no item fits where a section is complete
never_fits : (s : Section) (i : Item) → (kind : LineKind) × (misfit_at (Within s 0) (Counted i) ≡ Some kind)
never_fits s i = by_item (same_item (item_of s) i)
  where
    by_item : (same : Bool) → (kind : LineKind) × (cond same (Some TooMany) (Some Misplaced) ≡ Some kind)
    by_item true = (TooMany, refl)
    by_item false = (Misplaced, refl)

-- so no legal list goes on with an item where another ends
never_longer : (ms : List Token) (i : Item) (rest : List Token) → IsLegal ms → IsLegal (ms ++ adds i ∷ rest) → ⊥
never_longer ms i rest one other =
    let here = legal_runs ms one in
    let there = legal_runs (ms ++ adds i ∷ rest) other in
    let on = run-append ms Start (Within here.0 0) (adds i ∷ rest) here.1 in
    let wrong = never_fits here.0 i in
    let stops : run (Within here.0 0) (adds i ∷ rest) ≡ None =
    ap (λ o. unless_wrong o (run (Within here.0 0) rest)) wrong.1 in
    let runs = there.1 in
    cc

token_of_item : (r : Record) (i : Item) → r.form ≡ Counted i → token_in r ≡ adds i
token_of_item r i e = ap (λ form. by_form form) e
  where
    by_form : Form → Token
    by_form form = token_in (record { form = form; numbers = r.numbers })

-- a job is not whole before its last record
never_before : (n : ℕ) (q : Question) (other : Content) (us : List Record) (z : Record) (zs : List Record)
    → asks other.question other.added ≡ true → records_of other ≡ problem_record n 0 ∷ us
    → us ++ z ∷ zs ≡ records_of_question q
    → ⊥
never_before n q other us z zs asked one all = by_front us refl
  where
    none : us ≡ [] → ⊥
    none e =
        let parts = sym (graph_first other) ∙ one in
        let empty : map arc_record other.arcs ++ rest_of other ≡ [] = cc in
        rest_filled other.question other.added asked (ap (λ rs. map token_in rs) (later other.arcs empty))
      where
        later : (arcs : List ArcRec) → map arc_record arcs ++ rest_of other ≡ [] → rest_of other ≡ []
        later [] e = e
        later (arc ∷ arcs) e = absurd (cc)

    by_front : (vs : List Record) → us ≡ vs → ⊥
    by_front [] e = none e
    by_front (v ∷ vs) e =
        let item =
        item_after vs z zs
        (subst AreItemsLater (sym all ∙ ap (λ l. l ++ z ∷ zs) e) (question_items q)) in
        never_longer (map token_in (records_of other)) item.0 (map token_in zs) (legal_by other)
        (subst IsLegal
        (ap (λ rs. map token_in (problem_record n 0 ∷ rs)) (append-nil (records_of_question q) ∙ sym all)
        ∙ map-append token_in (problem_record n 0 ∷ us) (z ∷ zs)
        ∙ ap₂ (λ l m. l ++ m ∷ map token_in zs) (ap (λ rs. map token_in rs) (sym one)) (token_of_item z item.0 item.1))
        (legal_by (record { n = n; arcs = []; question = q; added = None })))

split_at : (n : ℕ) (part rest : List (List ℕ)) (said : List (Option Record))
    → map (λ l. reading_after n l) (part ++ rest) ≡ map (λ x. Ok x) said
    → (s : List (Option Record))
    × (t : List (Option Record))
    × (said ≡ s ++ t)
    × (map (λ l. reading_after n l) part ≡ map (λ x. Ok x) s)
split_at n [] rest said e = ([], said, refl, refl)
split_at n (l ∷ part) rest [] e = absurd (cc)
split_at n (l ∷ part) rest (x ∷ said) e =
    let first : reading_after n l ≡ Ok x = cc in
    let later : map (λ l. reading_after n l) (part ++ rest) ≡ map (λ x. Ok x) said = cc in
    let two = split_at n part rest said later in
    (x ∷ two.0, two.1, ap (λ s. x ∷ s) two.2, ap₂ (λ r rs. r ∷ rs) first two.3)

first_of : (vs : List Record) (x : Record) → (z : Record) × (zs : List Record) × (vs ++ x ∷ [] ≡ z ∷ zs)
first_of [] x = (x, [], refl)
first_of (v ∷ vs) x = (v, vs ++ x ∷ [], refl)

head_record : (q : Question)
    → has_question q ≡ true
    → (r : Record) × (rs : List Record) × (records_of_question q ≡ r ∷ rs)
head_record absent e = absurd (cc)
head_record (from_sources vs) e = (_, _, refl)
head_record (of_pairs ps) e = (_, _, refl)

-- no front of the lines of a question is a whole request
no_front : (n : ℕ) (q : Question) (body : List (List ℕ)) (said : List (Option Record)) (x : Record)
    → map (λ l. reading_after n l) body ≡ map (λ s. Ok s) said
    → records_among said ++ x ∷ [] ≡ records_of_question q
    → (part rest : List (List ℕ)) (other : Content)
    → body ≡ part ++ rest → IsWhole n part other
    → ⊥
no_front n q body said x reads all part rest other parts w =
    let two = split_at n part rest said (ap (λ l. map (λ l. reading_after n l) l) (sym parts) ∙ reads) in
    let same : w.is_job.0 ≡ Some (problem_record n 0) ∷ two.0 =
    sym (said_back w.is_job.0)
    ∙ ap (λ l. map said_by_reading l)
    (sym w.is_job.1 ∙ ap (λ l. Ok (Some (problem_record n 0)) ∷ l) two.3)
    ∙ ap (λ l. Some (problem_record n 0) ∷ l) (said_back two.0) in
    let more = first_of (records_among two.1) x in
    never_before n q other (records_among two.0) more.0 more.1 w.asked
    (sym w.is_job.2 ∙ ap (λ l. records_among l) same)
    (ap (λ l. records_among two.0 ++ l) (sym more.2)
    ∙ sym (append_assoc (records_among two.0) (records_among two.1) (x ∷ []))
    ∙ ap (λ l. l ++ x ∷ []) (sym (filter_map-append (λ r. r) two.0 two.1) ∙ ap (λ l. records_among l) (sym two.2))
    ∙ all)

-- after the graph of a job its lines are one request, and then say nothing
pub record IsOneRequest (n : ℕ) (ls : List (List ℕ)) (job : Content) : Type 0 where
  pub body : List (List ℕ)
  pub last : List ℕ
  pub silent : List (List ℕ)
  pub parts : ls ≡ body ++ last ∷ silent
  pub is_whole : IsWhole n (body ++ last ∷ []) job
  pub first : (part rest : List (List ℕ)) (other : Content) → body ≡ part ++ rest → IsWhole n part other → ⊥
  pub head : IfSome (head_among (body ++ last ∷ [])) IsPlain
  pub says_nothing : AreSilent n silent

whole_by : (job : Content) (body : List (List ℕ)) (line : List ℕ) (said : List (Option Record)) (x : Record)
    → map (λ l. reading_after job.n l) body ≡ map (λ s. Ok s) said → reading_after job.n line ≡ Ok (Some x)
    → records_among said ++ x ∷ [] ≡ records_of_question job.question → has_question job.question ≡ true
    → IsWhole job.n (body ++ line ∷ []) (asked_of job)
whole_by job body line said x reads last all asked = record {
  is_job = (
    Some (problem_record job.n 0) ∷ (said ++ Some x ∷ []),
    ap (λ l. Ok (Some (problem_record job.n 0)) ∷ l)
        (map-append (λ l. reading_after job.n l) body (line ∷ [])
        ∙ ap₂ (λ a b. a ++ b ∷ []) reads last
        ∙ sym (map-append (λ s. Ok s) said (Some x ∷ []))),
    ap (λ l. problem_record job.n 0 ∷ l) (records-push said (Some x) ∙ all)
        ∙ sym (append-nil (problem_record job.n 0 ∷ records_of_question job.question)),
  );
  asked = asked;
}

one_by : (job : Content) (ls : List (List ℕ)) (t : List (Option Record))
    → map (λ l. reading_after job.n l) ls ≡ map (λ x. Ok x) t → IfSome (head_among ls) IsPlain
    → records_among t ≡ records_of_question job.question → has_question job.question ≡ true
    → IsOneRequest job.n ls (asked_of job)
one_by job ls t reads plain records asked =
    let hd = head_record job.question asked in
    let l = last_said t hd.0 hd.1 (records ∙ hd.2) in
    let m =
    split_map job.n ls l.0 (Some l.1 ∷ l.2) (reads ∙ ap (λ s. map (λ x. Ok x) s) l.3) in
    by_rest m.0 l.0 l.1 l.2 m.1 m.2 m.3 m.4 l.4 (l.5 ∙ sym hd.2)
  where
    by_rest : (body : List (List ℕ)) (s : List (Option Record)) (x : Record) (u : List (Option Record))
        (rest : List (List ℕ))
        → ls ≡ body ++ rest
        → map (λ l. reading_after job.n l) body ≡ map (λ x. Ok x) s
        → map (λ l. reading_after job.n l) rest ≡ map (λ x. Ok x) (Some x ∷ u)
        → records_among u ≡ []
        → records_among s ++ x ∷ [] ≡ records_of_question job.question
        → IsOneRequest job.n ls (asked_of job)
    by_rest body s x u [] parts front back none all = absurd (cc)
    by_rest body s x u (line ∷ silent) parts front back none all =
        let last : reading_after job.n line ≡ Ok (Some x) = cc in
        let after : map (λ l. reading_after job.n l) silent ≡ map (λ x. Ok x) u = cc in
        record {
          body = body;
          last = line;
          silent = silent;
          parts = parts;
          is_whole = whole_by job body line s x front last all asked;
          first = no_front job.n job.question body s x front all;
          head =
              plain_front (body ++ line ∷ []) silent
              (subst (λ l. IfSome (head_among l) IsPlain) (parts ∙ sym (append_assoc body (line ∷ []) silent)) plain);
          says_nothing = all_silent job.n silent u after none;
        }

pub one_request : (text : List ℕ) (job : Content)
    → IsJobText text job → job.added ≡ None → has_question job.question ≡ true
    → (graph : List (List ℕ))
    × (ls : List (List ℕ))
    × (lines text ≡ graph ++ ls)
    × IsJobAmong (readings MAX_VERTICES graph) (graph_of job)
    × IsOneRequest job.n ls (asked_of job)
unfolding IsJobText
one_request text job (said, reads, is) none asked =
    let graph = problem_record job.n (length job.arcs) ∷ map arc_record job.arcs in
    let all : records_among said ≡ graph ++ records_of_question job.question =
    is
    ∙ ap (λ added. graph ++ records_of_question job.question ++ records_of_added added) none
    ∙ append-nil (graph ++ records_of_question job.question) in
    let parts = split_said said graph (records_of_question job.question) all in
    let cut =
    split_lines MAX_VERTICES (lines text) parts.0 parts.1 (reads ∙ ap (λ s. map (λ x. Ok x) s) parts.2) in
    let n_is = graph_by MAX_VERTICES job.n (length job.arcs) parts.0 job.arcs parts.3 in
    let after =
    lines_after job.n cut.1 parts.1
    (subst (AllByRecursion IsSteady) (sym parts.4) (question_steady job.question))
    (subst (λ v. readings v cut.1 ≡ map (λ x. Ok x) parts.1) n_is cut.4) in (
      cut.0,
      cut.1,
      cut.2,
      (
        parts.0,
        cut.3,
        parts.3 ∙ sym (append-nil graph) ∙ sym (append-nil (graph ++ [])),
      ),
      one_by job cut.1 parts.1 after.0 after.1 parts.4 asked,
    )
