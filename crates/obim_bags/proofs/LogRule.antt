-- The rule of a log survives each step.
use Rattle.std.proofs.Common.{◌≡◌, ◌≢◌, ◌∙◌, ap, subst, refl, sym, ℕ, zero, suc, ◌<◌, List, [], ◌∷◌, ◌++◌, length, inl}
use Rattle.std.proofs.Common.{inr, ⊎_elim, set, true, false, arith}
use Rattle.std.specs.Prelude.{slice_index}
use Rattle.std.proofs.lemmas.Bool.{cases_eq}
use Rattle.std.proofs.lemmas.List.Elements.{All-weaker, All-append, All-cons, All-nil}
use mathlib.Core.Option.{none, some, some-injective, some-ne-none}
use mathlib.Core.List.{IsPrefix}
use lib.ListN.{get_elem?}
use Rattle.atomic_table.specs.Table.{State, Me, keeps, takes, gives, Allows, Enters, Joins}
use Rattle.crossbeam_queue.proofs.Lists.{at_set, at_snoc, at_longer, set_here, set_else, set_again}
use Rattle.obim_bags.specs.Bags.{BagSeen}
use Rattle.obim_bags.specs.declared.log_rule.LogKnown.{LogKnown}
use Rattle.obim_bags.specs.LogRule.{IsWithin, EachKnown, IsOnlyHolder, new_known, with_slot, without_slot}
use Rattle.obim_bags.specs.LogRule.{joined_known, IsLog, MayTake, GivesBack}
use Rattle.obim_bags.proofs.Prefixes.{prefix_self, prefix_trans}

each_snoc : (P : LogKnown → Type 0) (all_known : List LogKnown) (new : LogKnown) → EachKnown P all_known → P new
    → EachKnown P (all_known ++ new ∷ [])
each_snoc P all_known new was own seat known at =
    ⊎_elim (was seat known) (λ e. subst P e own) (at_snoc all_known new known seat at)

each_set : (P : LogKnown → Type 0) (all_known : List LogKnown) (id : ℕ) (new : LogKnown) → EachKnown P all_known → P new
    → EachKnown P (set all_known id new)
each_set P all_known id new was own seat known at =
    ⊎_elim (λ (here : (seat ≡ id) × (new ≡ known)). subst P here.1 own)
    (λ (other : (seat ≢ id) × (get_elem? all_known seat ≡ some known)). was seat known other.1)
    (at_set all_known id seat new known at)

-- what a list begins with, a longer list begins with
within_longer : (bags more : List BagSeen) (known : LogKnown) → IsPrefix bags more → IsWithin bags known
    → IsWithin more known
within_longer bags more known longer was = record {
  list = prefix_trans known.list bags more was.list longer;
  others =
      All-weaker (λ (list : List BagSeen). IsPrefix list bags) (λ (list : List BagSeen). IsPrefix list more)
      (λ list p. prefix_trans list bags more p longer) known.others was.others;
}

new_within : (bags : List BagSeen) → IsWithin bags new_known
new_within bags = record { list = (bags, refl); others = All-nil (λ (list : List BagSeen). IsPrefix list bags) }

true_false : true ≡ false → ⊥
true_false e = cc

zero_one : (found : ℕ) → found ≡ 0 → found ≡ 1 → ⊥
zero_one found zero_found one_found = omega arith

at_within : (all_known : List LogKnown) (id : ℕ) (known : LogKnown) → get_elem? all_known id ≡ some known
    → id < length all_known
at_within [] id known at = absurd (some-ne-none known (sym at))
at_within (x ∷ xs) zero known at = omega arith
at_within (x ∷ xs) (suc id) known at = let rest = at_within xs id known at in omega arith

-- a seat that holds the slot is the one that may
is_holder : (all_known : List LogKnown) (holder id : ℕ) (known : LogKnown) → IsOnlyHolder holder all_known
    → get_elem? all_known id ≡ some known → known.holds ≡ true → id ≡ holder
is_holder all_known holder id known only at holding =
    elim (cases_eq id holder) [
      | inl same ↦ same
      | inr other ↦ absurd (true_false (sym holding ∙ only id known at other))
    ]

-- no other seat holds the slot where one that doesn't changed
only_still : (all_known : List LogKnown) (id : ℕ) (new : LogKnown) (holder : ℕ) → IsOnlyHolder holder all_known
    → new.holds ≡ false → IsOnlyHolder holder (set all_known id new)
only_still all_known id new holder only free seat known at other =
    ⊎_elim (λ (here : (seat ≡ id) × (new ≡ known)). ap (λ (r : LogKnown). r.holds) (sym here.1) ∙ free)
    (λ (far : (seat ≢ id) × (get_elem? all_known seat ≡ some known)). only seat known far.1 other)
    (at_set all_known id seat new known at)

module _ {S : Type 0} where
  value_in : S → List (ℕ × S) → S
  value_in value [] = value
  value_in value (x ∷ xs) = x.1

  same_value : (slots more : List (ℕ × S)) (value other : S) → slots ≡ (0, value) ∷ [] → slots ≡ (0, other) ∷ more
      → value ≡ other
  unfolding value_in
  same_value slots more value other is is' = ap (value_in value) (sym is ∙ is')

module _ {S : Type 0} (bags_of : S → List BagSeen) where
  abbrev Holds : State S LogKnown → Type 0
  Holds state = IsLog bags_of state.words state.homes state.views

  pub opens : (value : S) → bags_of value ≡ [] → IsLog bags_of (0 ∷ []) (some value ∷ []) (new_known ∷ [])
  opens value none_yet = record {
    bags = [];
    within = each_snoc (IsWithin []) [] new_known (λ seat known at. absurd (some-ne-none known (sym at)))
        (new_within []);
    slot = inl (record {
      word = refl;
      value = value;
      home = refl;
      list = none_yet;
      holds = each_snoc (λ known. known.holds ≡ false) [] new_known
          (λ seat known at. absurd (some-ne-none known (sym at))) refl;
    });
  }

  pub seats : (slots : ℕ) → Enters Holds slots 0 (λ found w. w ≡ new_known)
  seats slots state was count below = (
    new_known,
    record {
      bags = was.bags;
      within = each_snoc (IsWithin was.bags) state.views new_known was.within (new_within was.bags);
      slot = elim was.slot [
        | inl free ↦
            inl (record {
              word = free.word;
              value = free.value;
              home = free.home;
              list = free.list;
              holds =
                  each_snoc (λ known. known.holds ≡ false) state.views new_known free.holds refl;
            })
        | inr taken ↦ inr (record {
          word = taken.word;
          home = taken.home;
          holder = taken.holder;
          known = taken.known;
          holds = taken.holds;
          list = taken.list;
          holder_is = at_longer state.views (new_known ∷ []) taken.holder taken.known taken.holder_is;
          only = λ seat known at other. ⊎_elim (λ old. taken.only seat known old other)
              (λ new. ap (λ (r : LogKnown). r.holds) (sym new)) (at_snoc state.views new_known known seat at);
        })
      ];
    },
    refl,
  )

  pub acquires : (slots id : ℕ) (me : Me S LogKnown) → me.1 ≡ []
      → Allows Holds slots id me 0 (λ found. 1) (MayTake bags_of me)
  acquires slots id me empty state was count at below = elim was.slot [
    | inl free ↦
        let mine = was.within id me.0 at in (
          with_slot was.bags me.0,
          takes 0 free.value,
          rw free.home refl,
          record {
            bags = was.bags;
            within = each_set (IsWithin was.bags) state.views id (with_slot was.bags me.0) was.within
                (record { list = prefix_self was.bags; others = mine.others });
            slot = inr (record {
              word = ap (λ words. set words 0 1) free.word;
              home = ap (λ homes. set homes 0 none) free.home;
              holder = id;
              known = with_slot was.bags me.0;
              holder_is = set_here state.views id (with_slot was.bags me.0) (at_within state.views id me.0 at);
              holds = refl;
              list = refl;
              only = λ seat known at' other. free.holds seat known
                  (sym (set_else state.views id seat (with_slot was.bags me.0) other) ∙ at');
            });
          },
          (
            (λ zero_found. (free.value, rw (empty, free.list) refl, rw free.list mine)),
            (λ more. absurd (more (ap (λ words. slice_index words 0) free.word))),
          ),
        )
    | inr taken ↦ (
      me.0,
      keeps,
      tt,
      record {
        bags = was.bags;
        within = rw (set_again state.views id me.0 at) was.within;
        slot = inr
            (rw (set_again state.views id me.0 at)
            (record {
              word = ap (λ words. set words 0 1) taken.word;
              home = taken.home;
              holder =
                  taken.holder;
              known = taken.known;
              holder_is = taken.holder_is;
              holds = taken.holds;
              list =
                  taken.list;
              only = taken.only;
            }));
      },
      (
        (λ none_found. absurd (zero_one _ none_found (ap (λ words. slice_index words 0) taken.word))),
        (λ _. refl),
      ),
    )
  ]

  pub releases : (slots id : ℕ) (me : Me S LogKnown) (value : S) → me.1 ≡ (0, value) ∷ [] → me.0.holds ≡ true
      → IsPrefix me.0.list (bags_of value)
      → Allows Holds slots id me 0 (λ found. 0) (λ found. GivesBack bags_of me)
  releases slots id me value mine holding longer state was count at below = elim was.slot [
    | inl free ↦ absurd (true_false (sym holding ∙ free.holds id me.0 at))
    | inr taken ↦
        let same : id ≡ taken.holder = is_holder state.views taken.holder id me.0 taken.only at holding in
        let whole : me.0.list ≡ was.bags =
        ap (λ (r : LogKnown). r.list)
        (some-injective me.0 taken.known (sym at ∙ (ap (get_elem? state.views) same ∙ taken.holder_is)))
        ∙ taken.list in
        let grown : IsPrefix was.bags (bags_of value) = rw (← whole) longer in
        let new = without_slot (bags_of value) me.0 in (
          new,
          gives,
          tt,
          record {
            bags = bags_of value;
            within = each_set (IsWithin (bags_of value)) state.views id new
                (λ seat known at'. within_longer was.bags (bags_of value) known grown (was.within seat known at'))
                (record {
                  list = prefix_self (bags_of value);
                  others =
                      (within_longer was.bags (bags_of value) me.0 grown (was.within id me.0 at)).others;
                });
            slot = inl (record {
              word = ap (λ words. set words 0 0) taken.word;
              value = value;
              home = rw (mine, taken.home) refl;
              list = refl;
              holds = λ seat known at'. ⊎_elim
                  (λ (here : (seat ≡ id) × (new ≡ known)). ap (λ (r : LogKnown). r.holds) (sym here.1))
                  (λ (other : (seat ≢ id) × (get_elem? state.views seat ≡ some known)). taken.only seat known other.1
                  (λ e. other.0 (e ∙ sym same)))
                  (at_set state.views id seat new known at');
            });
          },
          (λ known is. let e : value ≡ known = same_value me.1 [] value known mine is in rw (← e, mine) refl),
        )
  ]

  -- who found the slot free has a list in it that begins with all that the seat knew
  pub taken_within : (me new : Me S LogKnown) (found : ℕ) (value : S) (more : List (ℕ × S))
      → MayTake bags_of me found new → found ≡ 0 → new.1 ≡ (0, value) ∷ more → IsWithin (bags_of value) me.0
  taken_within me new found value more may free slot =
      let took = may.0 free in
      let same : took.0 ≡ value = same_value new.1 more took.0 value (ap (λ (m : Me S LogKnown). m.1) took.1) slot in
      subst (λ v. IsWithin (bags_of v) me.0) same took.2

  pub joins : (id other : ℕ) (mine theirs : LogKnown) → mine.holds ≡ false → theirs.holds ≡ false
      → Joins Holds id mine other theirs (joined_known mine theirs) new_known
  joins id other mine theirs free_mine free_theirs state was at apart at' =
      let both = joined_known mine theirs in
      let there : get_elem? state.views other ≡ some theirs = sym (set_else state.views id other both apart) ∙ at' in
      let here = was.within id mine at in
      let far = was.within other theirs there in
      record {
        bags = was.bags;
        within = each_set (IsWithin was.bags) (set state.views id both) other new_known
            (each_set (IsWithin was.bags) state.views id both was.within
            (record {
              list = here.list;
              others =
                  All-cons (λ (list : List BagSeen). IsPrefix list was.bags) theirs.list
                  (mine.others ++ theirs.others) far.list
                  (All-append (λ (list : List BagSeen). IsPrefix list was.bags) mine.others theirs.others here.others
                  far.others);
            }))
            (new_within was.bags);
        slot = elim was.slot [
          | inl free ↦ inl (record {
            word = free.word;
            value = free.value;
            home = free.home;
            list = free.list;
            holds = each_set (λ known. known.holds ≡ false) (set state.views id both) other new_known
                (each_set (λ known. known.holds ≡ false) state.views id both free.holds free_mine) refl;
          })
          | inr taken ↦
              let not_mine : taken.holder ≢ id =
              λ e. true_false
              (sym taken.holds
              ∙ (ap (λ (r : LogKnown). r.holds)
              (some-injective taken.known mine
              (sym taken.holder_is ∙ (ap (get_elem? state.views) e ∙ at))) ∙ free_mine)) in
              let not_theirs : taken.holder ≢ other =
              λ e. true_false
              (sym taken.holds
              ∙ (ap (λ (r : LogKnown). r.holds)
              (some-injective taken.known theirs
              (sym taken.holder_is ∙ (ap (get_elem? state.views) e ∙ there))) ∙ free_theirs)) in
              inr (record {
                word = taken.word;
                home = taken.home;
                holder = taken.holder;
                known = taken.known;
                holds = taken.holds;
                list = taken.list;
                holder_is = set_else (set state.views id both) other taken.holder new_known not_theirs
                    ∙ (set_else state.views id taken.holder both not_mine ∙ taken.holder_is);
                only = only_still (set state.views id both) other new_known taken.holder
                    (only_still state.views id both taken.holder taken.only free_mine) refl;
              })
        ];
      }
