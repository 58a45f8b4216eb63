-- Labels that nothing lowers, unless each walk to t makes a limit from there, lie at or below each attained number, or
-- each walk to t makes the limit from that. So such labels are least up to the limit on the way to t. Where it is the
-- limit itself that nothing below lowers, that is so on each way. And what such labels say of least ones, of a bound and
-- of walks.
use Rattle.std.proofs.Common.{ℕ, ◌+◌, ◌≤◌, ◌⊎◌, List, [], ◌∷◌, ◌++◌, refl, sym, subst, arith, inl, inr}
use Rattle.std.proofs.lemmas.List.Elements.{All-contains}
use Rattle.std.proofs.lemmas.Bool.{cases_lt}
use Rattle.route_walks.specs.declared.graph.ArcRec.{ArcRec}
use Rattle.route_walks.specs.declared.graph.Seed.{Seed}
use Rattle.route_walks.specs.declared.graph.TheConstants.{INF}
use Rattle.route_walks.specs.Walk.{IsWalk, cost}
use Rattle.route_walks.specs.Label.{IsMet}
use Rattle.route_walks.specs.Limit.{AreSettledUpTo, SettledUpToIsLeastUpTo, LeastUpToIsLeast}
use Rattle.route_walks.specs.Limit.{LeastIsLeastUpTo, LeastUpToAgrees, WithinIsExact, WalksBelowAreTight}
use Rattle.route_walks.specs.Limit.{IsRelaxedToward, AreSettledToward, SettledTowardIsLeastToward}
use Rattle.route_walks.specs.Limit.{LeastTowardIsLeastUpTo, LeastUpToIsLeastToward, WalksTowardAreTight}
use Rattle.route_walks.proofs.Attained.{attained-over, walk-append, cost-append}

-- along a walk labels rise by no more than the weights, or from there on each walk to t makes the limit
label-along : (limit : ℕ) (arcs : List ArcRec) (seeds : List Seed) (t : ℕ) (label : ℕ → ℕ)
    → AreSettledToward limit arcs seeds t label
    → (u v b : ℕ) (walk after : List ArcRec) → label u ≤ b → IsWalk arcs u walk v → IsWalk arcs v after t
    → (label v ≤ b + cost walk) ⊎ (limit ≤ b + cost walk + cost after)
label-along limit arcs seeds t label settled u v b [] after below walks on =
    inl (subst (λ (x : ℕ). label x ≤ b + 0) walks (omega (arith, below)))
label-along limit arcs seeds t label settled u v b (arc ∷ walk) after below walks on =
    let from : label arc.tail ≤ b = subst (λ (x : ℕ). label x ≤ b) (sym walks.1) below in
    elim (All-contains (IsRelaxedToward limit arcs t label) arcs arc settled.relaxed walks.0) [
      | inl relaxed ↦
          elim (label-along limit arcs seeds t label settled arc.head v (b + arc.weight) walk after
          (omega (arith, relaxed, from)) walks.2 on) [
            | inl rest ↦ inl (omega (arith, rest))
            | inr past ↦ inr (omega (arith, past))
          ]
      | inr past ↦
          inr (omega (
            arith,
            past (walk ++ after) (walk-append arcs arc.head v t walk after walks.2 on),
            cost-append walk after,
            from,
          ))
    ]

pub settled_toward_is_least_toward : SettledTowardIsLeastToward
settled_toward_is_least_toward limit n arcs seeds t label capped settled sound v below =
    record {
      capped = capped v below;
      attained = sound v below;
      least = λ c attained.
          let met = All-contains (IsMet label) seeds attained.seed settled.met attained.seeded in
          elim (cases_lt c (label v)) [
            | inr low ↦ inl low
            | inl high ↦
                inr (λ after on.
                elim (label-along limit arcs seeds t label settled attained.seed.vertex v attained.seed.start attained.walk
                after met attained.walks on) [
                  | inl along ↦ absurd (omega (arith, along, attained.costs, high))
                  | inr past ↦ omega (arith, past, attained.costs)
                ])
          ];
    }

pub least_toward_is_least_up_to : LeastTowardIsLeastUpTo
least_toward_is_least_up_to limit arcs seeds t d toward =
    record {
      capped = toward.capped;
      attained = toward.attained;
      least = λ c attained.
          elim (toward.least c attained) [
            | inl low ↦ inl low
            | inr past ↦ inr (omega (arith, past [] refl))
          ];
    }

pub least_up_to_is_least_toward : LeastUpToIsLeastToward
least_up_to_is_least_toward limit arcs seeds t v d up =
    record {
      capped = up.capped;
      attained = up.attained;
      least = λ c attained.
          elim (up.least c attained) [
            | inl low ↦ inl low
            | inr past ↦ inr (λ walk walks. omega (arith, past))
          ];
    }

-- labels that are settled up to a limit are so on the way to each vertex
settled-toward : (limit : ℕ) (arcs : List ArcRec) (seeds : List Seed) (t : ℕ) (label : ℕ → ℕ)
    → AreSettledUpTo limit arcs seeds label
    → AreSettledToward limit arcs seeds t label
settled-toward limit arcs seeds t label settled =
    record {
      met = settled.met;
      relaxed = λ k d lt.
          elim (settled.relaxed k d lt) [
            | inl relaxed ↦ inl relaxed
            | inr past ↦ inr (λ walk walks. omega (arith, past))
          ];
    }

pub settled_up_to_is_least_up_to : SettledUpToIsLeastUpTo
settled_up_to_is_least_up_to limit n arcs seeds label capped settled sound v below =
    least_toward_is_least_up_to limit arcs seeds v (label v)
    (settled_toward_is_least_toward limit n arcs seeds v label capped
    (settled-toward limit arcs seeds v label settled) sound v below)

pub least_up_to_is_least : LeastUpToIsLeast
least_up_to_is_least limit arcs seeds v d up within =
    record {
      capped = up.capped;
      attained = up.attained;
      least = λ c attained.
          elim (up.least c attained) [
            | inl below ↦ below
            | inr past ↦ omega (arith, past, within)
          ];
    }

pub least_is_least_up_to : LeastIsLeastUpTo
least_is_least_up_to limit arcs seeds v d least =
    record {
      capped = least.capped;
      attained = least.attained;
      least = λ c attained. inl (least.least c attained);
    }

pub least_up_to_agrees : LeastUpToAgrees
least_up_to_agrees limit arcs seeds v d e up least =
    let above : e ≤ d =
    elim (cases_lt d INF) [
      | inl found ↦ least.least d (up.attained found)
      | inr none ↦ omega (arith, none, least.capped)
    ] in (
      above,
      elim (cases_lt e INF) [
        | inl found ↦
            elim (up.least e (least.attained found)) [
              | inl below ↦ omega (arith, below, above)
              | inr past ↦ omega (arith, past, above)
            ]
        | inr none ↦ omega (arith, none, above, up.capped)
      ],
    )

pub within_is_exact : WithinIsExact
within_is_exact limit bound arcs seeds v d up above =
    record {
      least = λ within.
          least_up_to_is_least limit arcs seeds v d up (omega (arith, within, above, up.capped));
      found = λ e least within.
          let agrees = least_up_to_agrees limit arcs seeds v d e up least in
          omega (arith, agrees.0, agrees.1, within, above, up.capped, least.capped);
    }

pub walks_toward_are_tight : WalksTowardAreTight
walks_toward_are_tight limit n arcs seeds t label least u b walk u-in t-in attained walks makes below =
    let high : label u ≤ b =
    elim ((least u u-in).least b attained) [
      | inl le ↦ le
      | inr past ↦ absurd (omega (arith, past walk walks, makes, below))
    ] in
    elim (cases_lt (label u) INF) [
      | inr none ↦ omega (arith, none, high, makes, (least t t-in).capped)
      | inl found ↦
          elim ((least t t-in).least (label u + cost walk)
          (attained-over arcs seeds u t (label u) walk ((least u u-in).attained found) walks)) [
            | inl le ↦ omega (arith, le, makes, high)
            | inr past ↦ absurd (omega (arith, past [] refl, makes, below, high))
          ]
    ]

pub walks_below_are_tight : WalksBelowAreTight
walks_below_are_tight limit n arcs seeds label least u v b walk u-in v-in attained walks makes below =
    walks_toward_are_tight limit n arcs seeds v label
    (λ w w-in. least_up_to_is_least_toward limit arcs seeds v w (label w) (least w w-in))
    u b walk u-in v-in attained walks makes below
