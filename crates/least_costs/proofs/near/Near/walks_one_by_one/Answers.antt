-- The walk to one target more.
use Rattle.std.proofs.Common.{◌≡◌, ◌∙◌, ◌∷◌, ◌++◌, ◌-◌, ◌<◌, [], List, ℕ, ap, arith, inl, inr, length, refl, rules, subst, sym, take}
use Rattle.std.specs.Prelude.{slice_index, slice_index_or}
use Rattle.std.proofs.lemmas.Bool.{cases_lt}
use Rattle.std.proofs.lemmas.List.{get_or_append_left, get_or-append_right, length-append, length-map, map-append, take_all, take_more}
use Rattle.route_walks.specs.declared.graph.ArcRec.{ArcRec}
use Rattle.walk_report.specs.Told.{IsWalkOf, walks_in}
use Rattle.near_labels.specs.Found.{AreWalksFound}
use Rattle.near_labels.specs.declared.walks.WalksFound.{WalksFound}
use Rattle.least_costs.proofs.near.Near.walks_one_by_one.Goals as goal

-- what is found for some targets and for others, one after the other
found-append : (n : ℕ) (arcs : List ArcRec) (source : ℕ) (xs ys : List ℕ) (one other both : WalksFound)
    → both.labels.items ≡ one.labels.items ++ other.labels.items
    → both.walks.items ≡ one.walks.items ++ other.walks.items
    → AreWalksFound n arcs source xs one → AreWalksFound n arcs source ys other
    → AreWalksFound n arcs source (xs ++ ys) both
found-append n arcs source xs ys one other both labels walks first second =
    let walked : walks_in both.walks.items ≡ walks_in one.walks.items ++ walks_in other.walks.items =
    ap walks_in walks ∙ map-append (λ vector. vector.items) one.walks.items other.walks.items in
    let count : length (walks_in one.walks.items) ≡ length xs =
    length-map one.walks.items (λ vector. vector.items) ∙ first.walks in
    record {
      labels = omega (arith, ap length labels, length-append one.labels.items other.labels.items, length-append xs ys, first.labels, second.labels);
      walks = omega (arith, ap length walks, length-append one.walks.items other.walks.items, length-append xs ys, first.walks, second.walks);
      each = λ k below.
          let Is : ℕ → ℕ → List ℕ → Type 0 = IsWalkOf n arcs source in
          elim (cases_lt k (length xs)) [
            | inl here ↦
                let v : slice_index (xs ++ ys) k ≡ slice_index xs k = get_or_append_left xs ys 0 k here in
                let d : slice_index both.labels.items k ≡ slice_index one.labels.items k =
                ap (λ (ds : List ℕ). slice_index ds k) labels
                ∙ get_or_append_left one.labels.items other.labels.items 0 k (omega (arith, here, first.labels)) in
                let w : slice_index_or (walks_in both.walks.items) k [] ≡ slice_index_or (walks_in one.walks.items) k [] =
                ap (λ (ws : List (List ℕ)). slice_index_or ws k []) walked
                ∙ get_or_append_left (walks_in one.walks.items) (walks_in other.walks.items) [] k (omega (arith, here, count)) in
                rw (v, d, w) (first.each k here)
            | inr past ↦
                let j : ℕ = k - length xs in
                let within : j < length ys = omega (arith, below, length-append xs ys, past) in
                let v : slice_index (xs ++ ys) k ≡ slice_index ys j = get_or-append_right xs ys (length xs) k 0 refl past in
                let d : slice_index both.labels.items k ≡ slice_index other.labels.items j =
                ap (λ (ds : List ℕ). slice_index ds k) labels
                ∙ get_or-append_right one.labels.items other.labels.items (length xs) k 0 first.labels past in
                let w : slice_index_or (walks_in both.walks.items) k [] ≡ slice_index_or (walks_in other.walks.items) j [] =
                ap (λ (ws : List (List ℕ)). slice_index_or ws k []) walked
                ∙ get_or-append_right (walks_in one.walks.items) (walks_in other.walks.items) (length xs) k [] count past in
                rw (v, d, w) (second.each j within)
          ];
    }

pub loop-target-init : goal.loop-target-init
loop-target-init c = record {
  labels = search rules;
  walks = search rules;
  each = λ k below. absurd (omega (arith, below));
}

pub loop-target-preserved : goal.loop-target-preserved
loop-target-preserved c =
    let net = c.args.network.now in
    let targets = c.args.targets.now in
    let i = c.loop-target.target-index in
    let ok = c.if-not-append.false in
    subst (λ (xs : List ℕ). AreWalksFound net.n net.arcs c.args.source xs c.append.new.found)
    (sym (take_more targets i 0 c.loop-target-test.true))
    (found-append net.n net.arcs c.args.source (take i targets) (slice_index targets i ∷ []) c.loop-target.found c.in-Some.next
    c.append.new.found (c.append.ensures.labels ok) (c.append.ensures.walks ok) c.loop-target.invariant c.in-Some.ensures)

pub returns : goal.returns
returns c =
    let net = c.args.network.now in
    let targets = c.args.targets.now in
    subst (λ (xs : List ℕ). AreWalksFound net.n net.arcs c.args.source xs c.loop-target.found)
    (take_all c.loop-target.target-index targets c.loop-target-test.false) c.loop-target.invariant
