-- The least tail that leads to a vertex is its parent, once all tails with a hop are passed.
use Rattle.std.proofs.Common.{◌≡◌, ◌∙◌, ◌⊎◌, ℕ, ◌+◌, ◌<◌, ◌≤◌, List, length, slice_index, set}
use Rattle.std.proofs.Common.{replicate, sym, subst, refl, arith, inl, inr}
use Rattle.std.specs.List.{Contains}
use Rattle.std.proofs.lemmas.Bool.{cases_eq}
use Rattle.std.proofs.lemmas.List.{get_or-set_same, get_or-set_other, length-set, get_or-replicate, length-replicate}
use Rattle.std.proofs.lemmas.List.Elements.{All-contains}
use Rattle.route_walks.specs.declared.graph.ArcRec.{ArcRec}
use Rattle.route_walks.specs.declared.graph.TheConstants.{MAX_VERTICES}
use Rattle.route_walks.specs.Walk.{IsArcBelow, IsGraph}
use Rattle.csr_graph.specs.declared.target.Target.{Target}
use Rattle.csr_graph.specs.Graph.{arc_to}
use Rattle.walk_report.specs.declared.hop.TheConstants.{NONE}
use Rattle.walk_report.specs.Hop.{AreFromOneSource}
use Rattle.walk_report.specs.Toward.{AreLedHops}
use Rattle.walk_report.specs.Parent.{IsLeading, Leads, AreLedFrom, AreParents, LeadBack}
use Rattle.walk_report.proofs.LeastWalks.{some-leads, hop-lt}

-- parents while a tail is passed: new for some vertices to which it leads, if the old one is higher
pub record AreLed (n : ℕ) (arcs : List ArcRec) (label hop : ℕ → ℕ) (tail : ℕ) (old new : List ℕ) : Type 0 where
  pub count : length new ≡ length old
  pub vertices : length old ≡ n
  pub lower : (v : ℕ) → slice_index new v ≤ slice_index old v
  pub led : (v : ℕ) → (slice_index new v ≡ slice_index old v)
      ⊎ ((slice_index new v ≡ tail) × Leads arcs label hop tail v)

-- the tail is below the parent of a vertex to which it leads
pub led-put : {n : ℕ} {arcs : List ArcRec} {label hop : ℕ → ℕ} {tail : ℕ} {old new : List ℕ}
    → AreLed n arcs label hop tail old new
    → (target : Target) → Contains arcs (arc_to tail target) × (target.head < n)
    → IsLeading label hop (arc_to tail target) → tail < slice_index new target.head
    → AreLed n arcs label hop tail old (set new target.head tail)
led-put {n = n} {arcs = arcs} {label = label} {hop = hop} {tail = tail} {old = old} {new = new} led target at leading less =
    let head = target.head in
    let here : slice_index (set new head tail) head ≡ tail =
    get_or-set_same new head tail 0 (omega (arith, led.count, led.vertices, at.1)) in
    let others : (v : ℕ) → (v ≡ head → ⊥) → slice_index (set new head tail) v ≡ slice_index new v =
    λ v other. get_or-set_other new head v tail 0 other in
    record {
      count = length-set new head tail ∙ led.count;
      vertices = led.vertices;
      lower = λ v.
          elim (cases_eq v head) [
            | inl same ↦ rw same (omega (arith, here, less, led.lower head))
            | inr other ↦ omega (arith, others v other, led.lower v)
          ];
      led = λ v.
          elim (cases_eq v head) [
            | inl same ↦
                rw same
                (inr (here, record { weight = target.weight; within = at.0; leading = leading }))
            | inr other ↦ rw (others v other) (led.led v)
          ];
    }

-- the tail is passed once no vertex to which it leads has a higher parent
pub led-all : {n : ℕ} {arcs : List ArcRec} {label hop : ℕ → ℕ} {tail : ℕ} {old new : List ℕ}
    → AreLed n arcs label hop tail old new
    → ((arc : ArcRec) → Contains arcs arc → arc.tail ≡ tail → IsLeading label hop arc → slice_index new arc.head ≤ tail)
    → AreLedFrom arcs label hop tail old new
led-all led filled = record {
  count = led.count;
  lower = led.lower;
  led = led.led;
  reached = λ v leads. filled _ leads.within refl leads.leading;
}

-- a tail without a hop leads nowhere
pub led-past : {arcs : List ArcRec} {label hop : ℕ → ℕ} {tail : ℕ} {parents : List ℕ}
    → hop tail ≡ NONE → ((v : ℕ) → hop v ≤ NONE) → AreLedFrom arcs label hop tail parents parents
led-past none fits = record {
  count = refl;
  lower = λ v. omega arith;
  led = λ v. inl refl;
  reached = λ v leads. absurd (omega (arith, leads.leading.nearer, none, fits v));
}

-- each of n vertices has NONE or a vertex that leads to it, and no lower passed tail leads to it
pub record AreLeastTails (n : ℕ) (arcs : List ArcRec) (label hop : ℕ → ℕ) (IsPassed : ℕ → Type 0) (parents : List ℕ)
    : Type 0 where
  pub count : length parents ≡ n
  pub some : (v : ℕ) → v < n
      → (slice_index parents v ≡ NONE) ⊎ Leads arcs label hop (slice_index parents v) v
  pub least : (v : ℕ) → v < n → (u : ℕ) → IsPassed u → Leads arcs label hop u v → slice_index parents v ≤ u

-- at first no vertex has a parent
pub tails-none : (n : ℕ) (arcs : List ArcRec) (label hop : ℕ → ℕ) (IsPassed : ℕ → Type 0) → ((u : ℕ) → IsPassed u → ⊥)
    → AreLeastTails n arcs label hop IsPassed (replicate n NONE)
tails-none n arcs label hop IsPassed nothing = record {
  count = length-replicate n NONE;
  some = λ v below. inl (get_or-replicate n v NONE 0 below);
  least = λ v below u passed. absurd (nothing u passed);
}

-- one more tail is passed
pub tails-next : {n : ℕ} {arcs : List ArcRec} {label hop : ℕ → ℕ} {tail : ℕ} {old new : List ℕ}
    → (IsPassed IsPassed' : ℕ → Type 0) → ((u : ℕ) → IsPassed' u → IsPassed u ⊎ (u ≡ tail))
    → AreLeastTails n arcs label hop IsPassed old → AreLedFrom arcs label hop tail old new
    → AreLeastTails n arcs label hop IsPassed' new
tails-next {arcs = arcs} {label = label} {hop = hop} {tail = tail} IsPassed IsPassed' more tails led = record {
  count = led.count ∙ tails.count;
  some = λ v below.
      elim (led.led v) [
        | inl same ↦ rw same (tails.some v below)
        | inr put ↦ inr (rw put.0 put.1)
      ];
  least = λ v below u passed leads.
      elim (more u passed) [
        | inl before ↦ omega (arith, tails.least v below u before leads, led.lower v)
        | inr same ↦
            let here : Leads arcs label hop tail v = subst (λ (x : ℕ). Leads arcs label hop x v) same leads in
            omega (arith, led.reached v here, same)
      ];
}

-- hops from one source are such
pub source-led : {n : ℕ} {arcs : List ArcRec} {labels hops : List ℕ} → IsGraph n arcs
    → AreFromOneSource n arcs labels hops → AreLedHops n arcs (slice_index labels) hops
source-led graph from = record {
  count = from.exact.count;
  few = hop-lt from.few graph from.least from.within from.exact;
  leads = some-leads from.few graph from.least from.within from.exact;
}

-- with all tails passed that have a hop, the least tails are parents
pub tails-done : {n : ℕ} {arcs : List ArcRec} {labels hops parents : List ℕ} (IsPassed : ℕ → Type 0)
    → n ≤ MAX_VERTICES → IsGraph n arcs → AreLedHops n arcs (slice_index labels) hops
    → ((u : ℕ) → u < n → slice_index hops u < NONE → IsPassed u)
    → AreLeastTails n arcs (slice_index labels) (slice_index hops) IsPassed parents → AreParents n arcs labels hops parents
tails-done {n = n} {arcs = arcs} {hops = hops} {parents = parents} IsPassed few graph hopped all tails = record {
  count = tails.count;
  source = λ v below zero_hop.
      elim (tails.some v below) [
        | inl none ↦ none
        | inr leads ↦ absurd (omega (arith, leads.leading.nearer, zero_hop))
      ];
  none = λ v below no_hop.
      elim (tails.some v below) [
        | inl none ↦ none
        | inr leads ↦
            let u = slice_index parents v in
            let nearer : slice_index hops u + 1 ≡ slice_index hops v = leads.leading.nearer in
            let in_graph : u < n = (All-contains (IsArcBelow n) arcs _ graph leads.within).0 in
            absurd
            (omega (
              arith,
              hopped.few u in_graph (omega (arith, nearer, no_hop)),
              nearer,
              no_hop,
            ))
      ];
  parent = λ v below far some.
      let found = hopped.leads v below far some in
      let within = (All-contains (IsArcBelow n) arcs _ graph found.1.within).0 in
      let low = tails.least v below found.0 (all found.0 within (omega (arith, found.1.leading.nearer, some))) found.1 in
      elim (tails.some v below) [
        | inl none ↦ absurd (omega (arith, none, low, within, few))
        | inr leads ↦ record {
          leads = leads;
          least = λ other more.
              tails.least v below other
              (all other (All-contains (IsArcBelow n) arcs _ graph more.within).0
              (omega (arith, more.leading.nearer, some)))
              more;
        }
      ];
}

pub parents-lead_back : {n : ℕ} {arcs : List ArcRec} {labels hops parents : List ℕ} → IsGraph n arcs → length hops ≡ n
    → AreParents n arcs labels hops parents → LeadBack hops parents
parents-lead_back {n = n} {arcs = arcs} graph count exact = record {
  count = exact.count ∙ sym count;
  within = λ v below far some.
      let parent = exact.parent v (omega arith) far some in
      omega (arith, (All-contains (IsArcBelow n) arcs _ graph parent.leads.within).0);
  nearer = λ v below far some. (exact.parent v (omega arith) far some).leads.leading.nearer;
}
