-- Labels that are least on the way to a vertex tell of it what the least labels tell. A vertex is on the way if it is on
-- some least walk there. What leads to a vertex on the way is on the way, and there both labels, hops and parents agree.
use Rattle.std.proofs.Common.{◌≡◌, ◌∙◌, ℕ, zero, suc, ◌+◌, ◌<◌, ◌≤◌, List, [], ◌∷◌, ◌++◌, length, slice_index, ap, refl, subst}
use Rattle.std.proofs.Common.{sym, arith}
use Rattle.std.proofs.lemmas.List.Elements.{All-contains}
use Rattle.route_walks.specs.declared.graph.ArcRec.{ArcRec}
use Rattle.route_walks.specs.declared.graph.TheConstants.{INF}
use Rattle.route_walks.specs.Walk.{IsArcBelow, IsAttained, IsGraph, IsWalk, cost}
use Rattle.route_walks.specs.Label.{AreLeastLabels}
use Rattle.route_walks.specs.Limit.{AreLeastToward}
use Rattle.route_walks.specs.Operators.{seeds_from}
use Rattle.route_walks.proofs.Facts.{walk-append, cost-append, attained-start, attained-over, attained-along}
use Rattle.route_walks.proofs.Facts.{attained-by_walk, least_toward_is_least_up_to, least_up_to_agrees}
use Rattle.route_walks.proofs.Facts.{walk-of_attained, walks_toward_are_tight}
use Rattle.walk_report.specs.declared.hop.TheConstants.{NONE}
use Rattle.walk_report.specs.Hop.{AreHops}
use Rattle.walk_report.specs.Parent.{AreParents, Leads}
use Rattle.walk_report.specs.Printed.{printed_walk}
use Rattle.walk_report.specs.Search.{IsReached}
use Rattle.walk_report.specs.Toward.{AreTightHops, WalksTowardAgree}

-- v is on a least walk to t
record IsOnWay (n : ℕ) (arcs : List ArcRec) (label : ℕ → ℕ) (t v : ℕ) : Type 0 where
  within : v < n
  walk : List ArcRec
  walks : IsWalk arcs v walk t
  makes : label v + cost walk ≡ label t

module _ {limit n : ℕ} {arcs : List ArcRec} {s t : ℕ} {hops : List ℕ} (labels : List ℕ) (few : limit ≤ INF)
    (graph : IsGraph n arcs) (s-in : s < n) (t-in : t < n)
    (toward : AreLeastToward limit n arcs (seeds_from s) t (slice_index labels))
    (tight : AreTightHops limit n arcs s (slice_index labels) hops) (low : slice_index labels t < limit) where
  -- hops rise along a least walk to t by no more than its arcs, up to each vertex of it
  hop-along : (u v c : ℕ) (walk after : List ArcRec) → u < n → IsAttained arcs (seeds_from s) u c → IsWalk arcs u walk v
      → IsWalk arcs v after t → c + cost walk + cost after ≡ slice_index labels t → slice_index hops u < NONE
      → IsReached (slice_index hops) (slice_index hops u + length walk) v
  hop-along u v c [] after u-in attained walks on makes set = rw (← walks) (omega arith, set)
  hop-along u v c (arc ∷ walk) after u-in attained walks on makes set =
      let label : (x d : ℕ) (way : List ArcRec) → x < n → IsAttained arcs (seeds_from s) x d → IsWalk arcs x way v
      → d + cost way + cost after ≡ slice_index labels t → slice_index labels x ≡ d =
      λ x d way x-in there ways sum.
      walks_toward_are_tight limit n arcs (seeds_from s) t (slice_index labels) toward x d (way ++ after) x-in t-in there
      (walk-append arcs x v t way after ways on) (omega (arith, cost-append way after, sum)) low in
      let head : arc.head < n = (All-contains (IsArcBelow n) arcs arc graph walks.0).1 in
      let next : IsAttained arcs (seeds_from s) arc.head (c + arc.weight) =
      attained-along arcs (seeds_from s) arc c walks.0
      (subst (λ (x : ℕ). IsAttained arcs (seeds_from s) x c) (sym walks.1) attained) in
      let tail-label : slice_index labels arc.tail ≡ c =
      ap (slice_index labels) walks.1 ∙ label u c (arc ∷ walk) u-in attained walks makes in
      let head-label : slice_index labels arc.head ≡ c + arc.weight =
      label arc.head (c + arc.weight) walk head next walks.2 (omega (arith, makes)) in
      let tail-hop : slice_index hops arc.tail ≡ slice_index hops u = ap (slice_index hops) walks.1 in
      let reached = tight.reached arc walks.0
      (omega (arith, tail-label, head-label), omega (arith, head-label, makes, low)) (omega (arith, tail-hop, set)) in
      let far = hop-along arc.head v (c + arc.weight) walk after head next walks.2 on (omega (arith, makes)) reached.1 in
      (omega (arith, reached, far, tail-hop), far.1)

  -- hops from s, with what follows to t
  pub hop-from : (v : ℕ) (walk after : List ArcRec) → IsWalk arcs s walk v → IsWalk arcs v after t
      → cost walk + cost after ≡ slice_index labels t → IsReached (slice_index hops) (length walk) v
  hop-from v walk after walks on makes =
      let first : slice_index hops s ≡ 0 = tight.source (omega (arith, low)) in
      let up = hop-along s v 0 walk after s-in
      (attained-start arcs (seeds_from s) (record { vertex = s; start = 0 }) (0, omega arith, refl)) walks on
      (omega (arith, makes)) (omega (arith, first)) in
      (omega (arith, up, first), up.1)

  -- so t has a hop
  pub hop-there : slice_index hops t < NONE
  hop-there =
      let walk = walk-of_attained arcs s t (slice_index labels t)
      ((toward t t-in).attained (omega (arith, low, few))) in
      (hop-from t walk.0 [] walk.1 refl (omega (arith, walk.2))).1

module _ {limit n : ℕ} {arcs : List ArcRec} {s t : ℕ} {labels hops hops' : List ℕ} (labels' : List ℕ) (few : limit ≤ INF)
    (graph : IsGraph n arcs) (least : AreLeastLabels n arcs (seeds_from s) labels) (exact : AreHops n arcs s labels hops)
    (s-in : s < n) (t-in : t < n) (toward : AreLeastToward limit n arcs (seeds_from s) t (slice_index labels'))
    (tight : AreTightHops limit n arcs s (slice_index labels') hops') (low : slice_index labels' t < limit) where
  label-t : slice_index labels' t ≡ slice_index labels t
  label-t =
      let up = least_toward_is_least_up_to limit arcs (seeds_from s) t (slice_index labels' t) (toward t t-in) in
      let here = least_up_to_agrees limit arcs (seeds_from s) t (slice_index labels' t) (slice_index labels t) up
      (least.least t t-in) in
      omega (arith, here.0, here.1, low)

  way-finite : (v : ℕ) → IsOnWay n arcs (slice_index labels) t v → slice_index labels v < INF
  way-finite v way = omega (arith, way.makes, label-t, low, few)

  -- on the way the label is the least one
  way-label : (v : ℕ) → IsOnWay n arcs (slice_index labels) t v → slice_index labels' v ≡ slice_index labels v
  way-label v way =
      walks_toward_are_tight limit n arcs (seeds_from s) t (slice_index labels') toward v (slice_index labels v) way.walk
      way.within t-in ((least.least v way.within).attained (way-finite v way)) way.walks (omega (arith, way.makes, label-t)) low

  -- so is whatever leads there at the least cost
  way-from : (u v c : ℕ) (walk : List ArcRec) → u < n → IsAttained arcs (seeds_from s) u c → IsWalk arcs u walk v
      → IsOnWay n arcs (slice_index labels) t v → c + cost walk ≡ slice_index labels v
      → IsOnWay n arcs (slice_index labels) t u × (slice_index labels u ≡ c)
  way-from u v c walk u-in attained walks way makes =
      let most = (least.least u u-in).least c attained in
      let finite : slice_index labels u < INF = omega (arith, most, makes, way-finite v way) in
      let rest = (least.least v way.within).least _
      (attained-over arcs (seeds_from s) u v _ walk ((least.least u u-in).attained finite) walks) in
      let is : slice_index labels u ≡ c = omega (arith, most, rest, makes) in (
        record {
          within = u-in;
          walk = walk ++ way.walk;
          walks = walk-append arcs u v t walk way.walk walks way.walks;
          makes = omega (arith, cost-append walk way.walk, is, makes, way.makes);
        },
        is,
      )

  -- on the way the hop is the fewest arcs of a least walk
  way-hop : (v : ℕ) → IsOnWay n arcs (slice_index labels) t v
      → (slice_index hops' v ≡ slice_index hops v) × (slice_index hops' v < NONE)
  way-hop v way =
      let hop = exact.hop v way.within (way-finite v way) in
      let up = hop-from labels' few graph s-in t-in toward tight low v hop.walk.walk way.walk hop.walk.walks way.walks
      (omega (arith, hop.walk.costs, way.makes, label-t)) in
      let mine = tight.walk v way.within up.1 in
      let down = hop.fewest mine.walk mine.walks (mine.costs ∙ way-label v way) in
      (omega (arith, up.0, down, hop.walk.count, mine.count), up.1)

  -- what leads to a vertex on the way by the ones leads there by the others, and is on the way
  leads-up : (u v : ℕ) → IsOnWay n arcs (slice_index labels) t v → Leads arcs (slice_index labels') (slice_index hops') u v
      → Leads arcs (slice_index labels) (slice_index hops) u v × IsOnWay n arcs (slice_index labels) t u
  leads-up u v way leads =
      let arc : ArcRec = record { tail = u; head = v; weight = leads.weight } in
      let tail : u < n = (All-contains (IsArcBelow n) arcs _ graph leads.within).0 in
      let here = way-hop v way in
      let mine = tight.walk u tail (omega (arith, leads.leading.nearer, here)) in
      let attained : IsAttained arcs (seeds_from s) u (slice_index labels' u) =
      subst (IsAttained arcs (seeds_from s) u) mine.costs (attained-by_walk arcs s u mine.walk mine.walks) in
      let from = way-from u v (slice_index labels' u) (arc ∷ []) tail attained (leads.within, refl, refl) way
      (omega (arith, leads.leading.tight, way-label v way)) in (
        record {
          weight = leads.weight;
          within = leads.within;
          leading = record {
            tight = omega (arith, leads.leading.tight, from.1, way-label v way);
            nearer = omega (arith, leads.leading.nearer, (way-hop u from.0).0, here.0);
          };
        },
        from.0,
      )

  leads-down : (u v : ℕ) → IsOnWay n arcs (slice_index labels) t v → Leads arcs (slice_index labels) (slice_index hops) u v
      → Leads arcs (slice_index labels') (slice_index hops') u v
  leads-down u v way leads =
      let arc : ArcRec = record { tail = u; head = v; weight = leads.weight } in
      let tail : u < n = (All-contains (IsArcBelow n) arcs _ graph leads.within).0 in
      let finite : slice_index labels u < INF = omega (arith, leads.leading.tight, way-finite v way) in
      let from = way-from u v (slice_index labels u) (arc ∷ []) tail ((least.least u tail).attained finite)
      (leads.within, refl, refl) way (omega (arith, leads.leading.tight)) in
      record {
        weight = leads.weight;
        within = leads.within;
        leading = record {
          tight = omega (arith, leads.leading.tight, way-label u from.0, way-label v way);
          nearer = omega (arith, leads.leading.nearer, (way-hop u from.0).0, (way-hop v way).0);
        };
      }

  module _ {parents parents' : List ℕ} (led : AreParents n arcs labels hops parents)
      (led' : AreParents n arcs labels' hops' parents') where
    way-walk : (h v : ℕ) → IsOnWay n arcs (slice_index labels) t v → slice_index hops' v ≡ h
        → printed_walk (slice_index parents') h v ≡ printed_walk (slice_index parents) h v
    way-walk zero v way is = refl
    way-walk (suc h) v way is =
        let here = way-hop v way in
        let one = led'.parent v way.within (omega (arith, is)) here.1 in
        let other = led.parent v way.within (omega (arith, is, here.0)) (exact.below v way.within (way-finite v way)) in
        let up = leads-up _ v way one.leads in
        let same : slice_index parents' v ≡ slice_index parents v =
        omega (arith, one.least _ (leads-down _ v way other.leads), other.least _ up.0) in
        let before = way-walk h (slice_index parents' v) up.1 (omega (arith, one.leads.leading.nearer, is)) in
        ap (λ (xs : List ℕ). xs ++ v ∷ []) (before ∙ ap (printed_walk (slice_index parents) h) same)

pub walks_toward_agree : WalksTowardAgree
walks_toward_agree limit n arcs s t labels hops parents labels' hops' parents' few graph least exact led s-in t-in toward
    tight led' low =
    let is = label-t labels' few graph least exact s-in t-in toward tight low in
    let way : IsOnWay n arcs (slice_index labels) t t =
    record { within = t-in; walk = []; walks = refl; makes = omega arith } in
    let hop = way-hop labels' few graph least exact s-in t-in toward tight low t way in
    record {
      label = is;
      hop = hop.0;
      walk =
          way-walk labels' few graph least exact s-in t-in toward tight low led led' (slice_index hops' t) t way refl
          ∙ ap (λ (h : ℕ). printed_walk (slice_index parents) h t) hop.0;
    }
