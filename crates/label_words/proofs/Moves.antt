-- The rule of the words allows each call, and that a seat is split or joined with another.
use Rattle.std.proofs.Common.{inl, inr, ◌≡◌, ◌∙◌, ap, subst, refl, ℕ, ◌+◌, ◌-◌, ◌%◌, ◌<◌, ◌≤◌, min, List, ◌∷◌}
use Rattle.std.proofs.Common.{Bool, true, false, cond, set, arith, get_or-set_same, sym, [], zero, suc, length}
use Rattle.std.proofs.Common.{◌++◌}
use Rattle.std.specs.Prelude.{All, nat_lt, ◌==◌}
use Rattle.std.proofs.Math.Nat.{mod-eq_of_lt, add-mod_left}
use Rattle.std.proofs.lemmas.List.{set-get_or, map-set, map-append}
use Rattle.std.proofs.lemmas.List.Elements.{All-weaker, All-cons, All-append}
use mathlib.Core.Option.{some, some-ne-none}
use lib.ListN.{get_elem?}
use Rattle.atomic_table.specs.Table.{State as TableState, Splits, Joins}
use Rattle.atomic_table.proofs.Lists.{at_set, at_snoc, set_here}
use Rattle.route_walks.specs.declared.graph.Seed.{Seed}
use Rattle.csr_graph.specs.Graph.{Graph}
use Rattle.relax_core.specs.declared.events.Event.TheVariants.{Take, Read, Relax, Raise, RaiseBy, SetMark}
use Rattle.relax_core.specs.declared.events.Event.TheVariants.{Finish, Keep, Return, See, Split, Join}
use Rattle.relax_core.specs.declared.views.Hand.TheVariants.{Idle, Kept}
use Rattle.relax_core.specs.Views.{IsFresh, IsOpen, Owes, HasNextArc, IsAtRowEnd, has_no_vertex, vertex_of}
use Rattle.relax_core.specs.Views.{owed_of, taken, raised, raised_by, marked, finished, kept, gave_back, looked}
use Rattle.relax_core.specs.Views.{next_arc, next_offer}
use Rattle.relax_core.proofs.Facts.{total_above, head_in, lowering_attains, total_is_bounded}
use Rattle.relax_core.proofs.Facts.{event_keeps_lawful}
use Rattle.label_words.specs.declared.known.Known.{Known}
use Rattle.label_words.specs.Layout.{label_word, mark_word, label_of, total_of}
use Rattle.label_words.specs.Rule.{AreLawful, SeesLawful}
use Rattle.label_words.specs.Seats.{IsReady, FitsGraph}
use Rattle.label_words.specs.Known.{IsFound, OfferAttains, after_take, after_read, after_relax}
use Rattle.label_words.specs.Known.{after_raise, after_raise_by, after_set_mark, after_finish, after_keep}
use Rattle.label_words.specs.Known.{after_give_back, after_see, left_half, right_half, both_known, gone}
use Rattle.label_words.proofs.Keeps.{Mine, Allowed, allows, allows_quiet, words_hold, knows_at}
use Rattle.label_words.proofs.Keeps.{all_know_still, renamed}
use Rattle.label_words.proofs.Steps.{taking, reading, relaxing, raising, raising_by, marking, finishing, keeping}
use Rattle.label_words.proofs.Steps.{returning, seeing, laid_views, splitting, joining}

pub take_allowed : (u : ℕ) (me : Mine) → IsReady me.0 → has_no_vertex me.0.view.hand ≡ true → u < me.0.graph.n
    → Allowed me (mark_word u) (λ n. 0)
    (λ found new. ((x : ℕ) → mark_word u ≡ mark_word x → new ≡ (after_take (nat_lt 0 found) x me.0, me.1))
    × IsReady new.0)
take_allowed u me ready free vertex graph seeds slots id state holds count at below =
    let call = allows_quiet (λ n. 0) (λ s. Take s u) (λ found. taken (nat_lt 0 found) u me.0.view) ready (omega arith)
    (λ v e. absurd (omega arith)) (λ x. refl)
    (λ words seats s x was holds is below. rw (← is) (taking was.state words s u me.0 holds free vertex))
    graph seeds slots id state holds count at below in
    (call.0, call.1, call.2, call.3, (λ x e. let same : x ≡ u = omega arith in rw same call.4.0, call.4.1))

pub read_allowed : (u : ℕ) (me : Mine) → IsReady me.0 → IsFresh me.0.view.hand → vertex_of me.0.view.hand ≡ u
    → Allowed me (label_word u) (λ n. n)
    (λ found new. (new ≡ (after_read found me.0, me.1)) × IsReady new.0 × IsFound me.0 found)
read_allowed u me ready fresh vertex =
    let within : u < me.0.graph.n = rw vertex at (subst (FitsGraph me.0.graph) fresh ready.hand) in
    allows (IsFound me.0) Read (λ d. (after_read d me.0).view) (λ d. (after_read d me.0).labels) ready (omega arith)
    (λ x v e. omega arith) (λ x. refl)
    (λ words seats s d was holds mine is below. (
      rw (← is) (reading was.state words s u me.0 holds fresh vertex),
      All-cons (λ (entry : ℕ × ℕ). label_of (set words (label_word u) d) entry.0 ≤ entry.1)
          (vertex_of me.0.view.hand, d) me.0.labels
          (rw (← is, set-get_or words (label_word u) 0, vertex) (omega arith)),
      record {
        attained = λ less.
            rw (← is, vertex, was.laid.labels u within)
            (was.lawful.covers.sound u within (omega (arith, is, was.laid.labels u within)));
        lowest =
            All-weaker (λ (entry : ℕ × ℕ). label_of words entry.0 ≤ entry.1)
            (λ (entry : ℕ × ℕ). entry.0 ≡ vertex_of me.0.view.hand → d ≤ entry.1)
            (λ entry le same. let e = ap (label_of words) (same ∙ vertex) in omega arith) me.0.labels mine.above;
      },
    ))

-- what is known stays above the labels when a label that fell is known too
above_if : (fell : Bool) (label : ℕ → ℕ) (head x : ℕ) (labels : List (ℕ × ℕ)) → label head ≤ x
    → All (λ (entry : ℕ × ℕ). label entry.0 ≤ entry.1) labels
    → All (λ (entry : ℕ × ℕ). label entry.0 ≤ entry.1) (cond fell ((head, x) ∷ labels) labels)
above_if true label head x labels = All-cons (λ (entry : ℕ × ℕ). label entry.0 ≤ entry.1) (head, x) labels
above_if false label head x labels = λ le above. above

pub relax_allowed : (head x : ℕ) (me : Mine) → IsReady me.0 → IsOpen me.0.view.hand
    → HasNextArc me.0.graph me.0.view.hand
    → (next_arc me.0.graph me.0.view.hand).head ≡ head → next_offer me.0.graph me.0.view.hand ≡ x
    → Allowed me (label_word head) (λ n. min n x)
    (λ found new.
    (new ≡ (after_relax (nat_lt (next_offer me.0.graph me.0.view.hand) found) me.0, me.1))
    × IsReady new.0
    × (next_offer me.0.graph me.0.view.hand < found → OfferAttains me.0))
relax_allowed head x me ready held before heads offers =
    let within : head < me.0.graph.n = rw heads at (head_in me.0.graph me.0.view.hand ready.rows before) in
    let fell = λ (found : ℕ). nat_lt (next_offer me.0.graph me.0.view.hand) found in
    allows (λ found. next_offer me.0.graph me.0.view.hand < found → OfferAttains me.0) Relax
    (λ found. (after_relax (fell found) me.0).view) (λ found. (after_relax (fell found) me.0).labels) ready
    (omega arith) (λ y v e. omega arith) (λ y. refl)
    (λ words seats s found was holds mine is below. (
      rw (← is, ← offers) (relaxing was.state words s head me.0 holds held before heads),
      above_if (fell found) (label_of (set words (label_word head) (min found x)))
          (next_arc me.0.graph me.0.view.hand).head (next_offer me.0.graph me.0.view.hand) me.0.labels
          (rw heads
          (omega (arith, get_or-set_same words (label_word head) (min found x) 0 (omega (arith, was.laid.count))))),
      λ less. lowering_attains _ _ _ _ _ _ _ was.lawful.rows was.lawful.covers holds.has held before (omega arith),
    ))

pub raise_allowed : (me : Mine) → IsReady me.0 → Owes me.0.view.hand → me.0.view.credits ≡ 1
    → Allowed me 0 (λ n. (n + 1) % 18446744073709551616)
    (λ found new. (new ≡ (after_raise me.0, me.1)) × IsReady new.0)
raise_allowed me ready owe one =
    allows_quiet (λ n. (n + 1) % 18446744073709551616) Raise (λ found. raised me.0.view) ready (omega arith)
    (λ v e. absurd (omega arith)) (λ x. refl)
    (λ words seats s x was holds is below.
    let bound = total_is_bounded _ _ _ _ _ _ was.lawful.covers was.lawful.account in
    let small : total_of words + 1 < 18446744073709551616 =
    omega (arith, bound, was.laid.total, was.lawful.rows.vertices) in
    rw (← is, mod-eq_of_lt small) (raising was.state words s me.0 holds owe one))

pub raise_by_allowed : (count : ℕ) (me : Mine) → IsReady me.0 → Owes me.0.view.hand → me.0.view.credits + count ≤ 255
    → Allowed me 0 (λ n. (n + count) % 18446744073709551616)
    (λ found new. (new ≡ (after_raise_by count me.0, me.1)) × IsReady new.0)
raise_by_allowed count me ready owe room =
    allows_quiet (λ n. (n + count) % 18446744073709551616) (λ s. RaiseBy s count) (λ found. raised_by count me.0.view) ready
    (omega arith) (λ v e. absurd (omega arith)) (λ x. refl)
    (λ words seats s x was holds is below.
    let bound = total_is_bounded _ _ _ _ _ _ was.lawful.covers was.lawful.account in
    let small : total_of words + count < 18446744073709551616 =
    omega (arith, bound, was.laid.total, was.lawful.rows.vertices) in
    rw (← is, mod-eq_of_lt small) (raising_by was.state words s count me.0 holds owe room))

pub set_mark_allowed : (head : ℕ) (me : Mine) → IsReady me.0 → Owes me.0.view.hand → 2 ≤ me.0.view.credits
    → owed_of me.0.view.hand ≡ head
    → Allowed me (mark_word head) (λ n. 1)
    (λ found new. (new ≡ (after_set_mark (nat_lt 0 found) me.0, me.1)) × IsReady new.0)
set_mark_allowed head me ready owe two owed =
    let within : head < me.0.graph.n = rw owed at ((subst (FitsGraph me.0.graph) owe ready.hand).2) in
    allows_quiet (λ n. 1) SetMark (λ found. marked (nat_lt 0 found) me.0.view) ready (omega arith)
    (λ v e. absurd (omega arith)) (λ x. refl)
    (λ words seats s x was holds is below. rw (← is) (marking was.state words s head me.0 holds owe two owed))

-- what is left of a number n after c was taken from it in 64 bits
lessened : (n c : ℕ) → c ≤ n → n < 18446744073709551616
    → (n + (18446744073709551616 - c)) % 18446744073709551616 ≡ n - c
lessened n c le lt =
    let apart : n + (18446744073709551616 - c) ≡ 18446744073709551616 + (n - c) = omega arith in
    let small : n - c < 18446744073709551616 = omega arith in
    ap (λ (y : ℕ). y % 18446744073709551616) apart ∙ add-mod_left 18446744073709551616 (n - c) ∙ mod-eq_of_lt small

pub finish_allowed : (c : ℕ) (me : Mine) → IsReady me.0 → IsOpen me.0.view.hand
    → IsAtRowEnd me.0.graph me.0.view.hand → me.0.view.credits ≡ c
    → Allowed me 0 (λ n. (n + (18446744073709551616 - c)) % 18446744073709551616)
    (λ found new. (new ≡ (after_finish me.0, me.1)) × IsReady new.0)
finish_allowed c me ready held end credits =
    allows_quiet (λ n. (n + (18446744073709551616 - c)) % 18446744073709551616) Finish (λ found. finished me.0.view)
    ready (omega arith) (λ v e. absurd (omega arith)) (λ x. refl)
    (λ words seats s x was holds is below.
    rw (lessened x c (omega (arith, total_above was.lawful.account holds.has, was.laid.total)) below, ← is, ← credits)
    (finishing was.state words s me.0 holds held end))

pub keep_allowed : (me : Mine) → IsReady me.0 → IsOpen me.0.view.hand → IsAtRowEnd me.0.graph me.0.view.hand
    → me.0.view.credits ≤ 254
    → Allowed me 0 (λ n. n) (λ found new. (new ≡ (after_keep me.0, me.1)) × IsReady new.0)
keep_allowed me ready held end room =
    allows_quiet (λ n. n) Keep (λ found. kept me.0.view) ready (omega arith) (λ v e. absurd (omega arith)) (λ x. refl)
    (λ words seats s x was holds is below. rw (← is) (keeping was.state words s me.0 holds held end room))

pub give_back_allowed : (count : ℕ) (me : Mine) → IsReady me.0 → me.0.view.hand ≡ Kept → count ≤ me.0.view.credits
    → Allowed me 0 (λ n. (n + (18446744073709551616 - count)) % 18446744073709551616)
    (λ found new. (new ≡ (after_give_back count me.0, me.1)) × IsReady new.0)
give_back_allowed count me ready held enough =
    allows_quiet (λ n. (n + (18446744073709551616 - count)) % 18446744073709551616) (λ s. Return s count)
    (λ found. gave_back count me.0.view) ready (omega arith) (λ v e. absurd (omega arith)) (λ x. refl)
    (λ words seats s x was holds is below.
    rw (lessened x count (omega (arith, total_above was.lawful.account holds.has, was.laid.total)) below, ← is)
    (returning was.state words s count me.0 holds held enough))

-- a seat that is there has a place among all
at_within : (seats : List Known) (s : ℕ) (seat : Known) → get_elem? seats s ≡ some seat → s < length seats
at_within [] s seat at = absurd (some-ne-none seat (sym at))
at_within (x ∷ seats) zero seat at = omega arith
at_within (x ∷ seats) (suc s) seat at = omega (arith, at_within seats s seat at)

-- a load leaves the words as they were: the seat stands in lawful words with the total it found
seen_lawful : {graph : Graph} {seeds : List Seed} {words : List ℕ} {seats : List Known} {me : Known} (id : ℕ)
    (w : Known)
    → AreLawful graph seeds words seats → IsReady me → get_elem? seats id ≡ some me
    → w.graph ≡ me.graph → w.seeds ≡ me.seeds
    → AreLawful graph seeds (set words 0 (total_of words)) (set seats id w) → SeesLawful (total_of words == 0) w
seen_lawful {words} {seats} {me} id w was ready at graph_is seeds_are now =
    let mine = knows_at id was ready at in
    record {
      words = words;
      seats = set seats id w;
      lawful =
          let told = renamed (sym (graph_is ∙ mine.graph_is)) (sym (seeds_are ∙ mine.seeds_are)) now in
          rw (set-get_or words 0 0) at told;
      place = id;
      here = set_here seats id w (at_within seats id me at);
      total = refl;
    }

pub see_allowed : (me : Mine) → IsReady me.0 → me.0.view.hand ≡ Idle
    → Allowed me 0 (λ n. n)
    (λ found new. (new ≡ (after_see (found == 0) me.0, me.1)) × IsReady new.0 × SeesLawful (found == 0) new.0)
see_allowed me ready idle graph seeds slots id state holds count at below =
    let call = allows_quiet (λ n. n) See (λ found. looked (found == 0) me.0.view) ready (omega arith)
    (λ v e. absurd (omega arith)) (λ x. refl)
    (λ words seats s x was holds is below. rw (← is) (seeing was.state words s me.0 holds idle))
    graph seeds slots id state holds count at below in
    let is = ap (λ (new : Mine). new.0) call.4.0 in
    let seen = seen_lawful id call.0 holds ready at
    (ap (λ (k : Known). k.graph) is) (ap (λ (k : Known). k.seeds) is) call.3 in
    (call.0, call.1, call.2, call.3, (call.4.0, call.4.1, seen))

pub splits : (graph : Graph) (seeds : List Seed) (id : ℕ) (seat : Known)
    → IsReady seat → seat.view.hand ≡ Idle → 2 ≤ seat.view.share
    → Splits (λ (state : TableState (Unit {0}) Known). AreLawful graph seeds state.words state.views) id seat
    (left_half seat) (right_half seat)
splits graph seeds id seat ready idle two state holds at =
    let mine = knows_at id holds ready at in
    let was : AreLawful seat.graph seat.seeds state.words state.views =
    renamed (sym mine.graph_is) (sym mine.seeds_are) holds in
    let own = knows_at id was ready at in
    let event = splitting was.state state.words id seat (words_hold id was ready at) idle two in
    let left = set state.views id (left_half seat) in
    renamed mine.graph_is mine.seeds_are (record {
      state = record was.state { views = set was.state.views id (left_half seat).view ++ (right_half seat).view ∷ [] };
      lawful = event_keeps_lawful seat.graph seat.seeds was.state _ (Split id) was.lawful event;
      laid = laid_views _ was.laid;
      views_are =
          rw (was.views_are, map-append _ left (right_half seat ∷ []), map-set _ state.views id (left_half seat)) refl;
      knows = λ t half at' alive.
          elim (at_snoc left (right_half seat) half t at') [
            | inl old ↦
                all_know_still state.views id (left_half seat) (λ v. omega arith) was.knows
                (λ _. record { graph_is = refl; seeds_are = refl; above = own.above }) t half old alive
            | inr new ↦ rw (← new) (record { graph_is = refl; seeds_are = refl; above = own.above })
          ];
    })

pub joins : (graph : Graph) (seeds : List Seed) (id other : ℕ) (seat seat' : Known)
    → IsReady seat → IsReady seat' → seat.view.hand ≡ Idle → seat'.view.hand ≡ Idle
    → Joins (λ (state : TableState (Unit {0}) Known). AreLawful graph seeds state.words state.views) id seat other
    seat' (both_known seat seat') gone
joins graph seeds id other seat seat' ready ready' idle idle' state holds at apart at' =
    let there : get_elem? state.views other ≡ some seat' =
    elim (at_set state.views id other (both_known seat seat') seat' at') [
      | inl here ↦ absurd (apart here.0)
      | inr far ↦ far.1
    ] in
    let mine = knows_at id holds ready at in
    let was : AreLawful seat.graph seat.seeds state.words state.views =
    renamed (sym mine.graph_is) (sym mine.seeds_are) holds in
    let event = joining was.state state.words id other seat seat' (words_hold id was ready at)
    (words_hold other was ready' there) (λ e. apart (sym e)) idle idle' in
    let both = set state.views id (both_known seat seat') in
    let above =
    All-append (λ (entry : ℕ × ℕ). label_of state.words entry.0 ≤ entry.1) seat.labels seat'.labels
    (knows_at id was ready at).above (knows_at other was ready' there).above in
    renamed mine.graph_is mine.seeds_are (record {
      state = record was.state { views = set (set was.state.views id (both_known seat seat').view) other gone.view };
      lawful = event_keeps_lawful seat.graph seat.seeds was.state _ (Join id other) was.lawful event;
      laid = laid_views _ was.laid;
      views_are =
          rw (was.views_are, map-set _ both other gone, map-set _ state.views id (both_known seat seat')) refl;
      knows =
          all_know_still {label = label_of state.words} both other gone (λ v. omega arith)
          (all_know_still state.views id (both_known seat seat') (λ v. omega arith) was.knows
          (λ _. record { graph_is = refl; seeds_are = refl; above = above }))
          (λ alive. absurd (alive refl));
    })
