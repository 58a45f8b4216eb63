-- Settled and sound labels are least, and least labels are unique. And least labels are settled.
use Rattle.std.proofs.Common.{ℕ, ◌≤◌, List, get_or, arith, inl, inr}
use Rattle.std.proofs.lemmas.List.Elements.{Contains-get_or}
use Rattle.std.proofs.lemmas.Bool.{cases_lt}
use Rattle.route_walks.specs.declared.graph.ArcRec.{ArcRec}
use Rattle.route_walks.specs.declared.graph.Seed.{Seed}
use Rattle.route_walks.specs.declared.graph.TheConstants.{INF}
use Rattle.route_walks.specs.Label.{IsLeast, SettledAndSoundAreLeast, LeastLabelsAreUnique, LeastLabelsAreSettled}
use Rattle.route_walks.specs.Limit.{AreSettledUpTo}
use Rattle.route_walks.proofs.Attained.{attained-start, attained-along}
use Rattle.route_walks.proofs.Limits.{settled_up_to_is_least_up_to, least_up_to_is_least}

-- they are settled up to INF, and no label is above it
pub settled_and_sound_are_least : SettledAndSoundAreLeast
settled_and_sound_are_least n arcs seeds label capped settled sound v below =
    let settled-up : AreSettledUpTo INF arcs seeds label =
    record { met = settled.met; relaxed = λ k d lt. inl (settled.relaxed k d lt) } in
    least_up_to_is_least INF arcs seeds v (label v)
    (settled_up_to_is_least_up_to INF n arcs seeds label capped settled-up sound v below) (capped v below)

-- one of two least labels is no greater than the other
least-le : (arcs : List ArcRec) (seeds : List Seed) (v c d : ℕ)
    → IsLeast arcs seeds v c → IsLeast arcs seeds v d
    → c ≤ d
least-le arcs seeds v c d first second =
    elim (cases_lt d INF) [
      | inl found ↦ first.least d (second.attained found)
      | inr none ↦ omega (arith, first.capped)
    ]

pub least_labels_are_unique : LeastLabelsAreUnique
least_labels_are_unique arcs seeds v c d first second =
    omega (arith, least-le arcs seeds v c d first second, least-le arcs seeds v d c second first)

pub least_labels_are_settled : LeastLabelsAreSettled
least_labels_are_settled n arcs seeds label graph within labelled = (
  λ v below. (labelled v below).capped,
  record {
    met = λ k d lt.
        let seed = get_or seeds k d in
        (labelled seed.vertex (within k d lt)).least seed.start
        (attained-start arcs seeds seed (Contains-get_or seeds k d lt));
    relaxed = λ k d lt.
        let arc = get_or arcs k d in
        let tail = labelled arc.tail (graph k d lt).0 in
        let head = labelled arc.head (graph k d lt).1 in
        elim (cases_lt (label arc.tail) INF) [
          | inl found ↦
              let offered = head.least _
              (attained-along arcs seeds arc _ (Contains-get_or arcs k d lt) (tail.attained found)) in
              omega (arith, offered, head.capped)
          | inr none ↦ omega (arith, none, head.capped)
        ];
  },
  λ v below. (labelled v below).attained,
)
