-- In the bag that gave the vertex the chunks put are those got and left, and only v was put.
use Rattle.std.proofs.Common.{◌≡◌, ◌≢◌, ◌∙◌, ⊎_elim, ap, refl, sym, ℕ, ◌+◌, ◌-◌, ◌<◌, ◌≤◌, List, [], ◌∷◌}
use Rattle.std.proofs.Common.{◌++◌, length, get_or, Some, None, arith}
use Rattle.std.specs.Prelude.{Option, slice_get, sum_by}
use Rattle.std.proofs.lemmas.Bool.{cases_eq}
use Rattle.std.proofs.lemmas.List.{length-map}
use Rattle.std.proofs.lemmas.List.Sums.{sum_by-append, sum_by-cons}
use Rattle.std.proofs.lemmas.List.Elements.{All-head, All-tail}
use Rattle.std.proofs.lemmas.Option.{slice_get_within}
use mathlib.Core.List.{IsPrefix}
use Rattle.atomic_table.specs.Seated.{TableId}
use Rattle.obim_bags.specs.Chunks.{ChunkSeen}
use Rattle.obim_bags.specs.BagRule.{got_by, put_by, weight_of}
use Rattle.obim_bags.specs.Bags.{BagSeen, PassSeen, tallies_of}
use Rattle.obim_bags.specs.Logs.{IsLogSettled, MirrorSeen, AccessSeen, bags_in, metrics_in, metrics_of, pass_in}
use Rattle.obim_bags.proofs.Facts.{prefix_length, prefix_map, some_at, some_then}
use Rattle.obim_pool.specs.Accounts.{Account, account_of, vertices_of}
use Rattle.obim_pool.specs.Sides.{Pops, PushesTo, SideSeen, account_at, new_side}
use Rattle.worklist_tests.proofs.pools.callers.pass_on.Goals as goal

-- a number that weighs no more than another, however numbers are weighed, is that number
same_number : (x v : ℕ) → ((f : ℕ → ℕ) → f x ≤ f v) → x ≡ v
same_number x v less = omega (arith, less (λ y. (y - v) + (v - y)))

module _ (f : ℕ → ℕ) where
  -- a chunk weighs what its vertices weigh
  abbrev weigh : ChunkSeen → ℕ
  weigh chunk = sum_by f chunk.vertices

  weighed : (chunks : List ChunkSeen) → sum_by weigh chunks ≡ sum_by f (vertices_of chunks)
  weighed [] = refl
  weighed (chunk ∷ chunks) =
      sum_by-cons weigh chunk chunks ∙ ap (λ (n : ℕ). sum_by f chunk.vertices + n) (weighed chunks)
      ∙ sym (sum_by-append f chunk.vertices (vertices_of chunks))

  put_more : (found : Option AccessSeen) (held : List ℕ) (rest : List PassSeen)
      → put_by weigh (tallies_of (pass_in found ++ rest))
      ≡ sum_by weigh (account_of found held).put + put_by weigh (tallies_of rest)
  put_more None held rest =
      let same : put_by weigh (tallies_of rest) ≡ 0 + put_by weigh (tallies_of rest) = omega arith in
      same
  put_more (Some place) held rest = sum_by-cons (λ tally. weight_of weigh tally.put) place.pass.tally (tallies_of rest)

  got_more : (found : Option AccessSeen) (held : List ℕ) (rest : List PassSeen)
      → got_by weigh (tallies_of (pass_in found ++ rest))
      ≡ sum_by weigh (account_of found held).got + got_by weigh (tallies_of rest)
  got_more None held rest =
      let same : got_by weigh (tallies_of rest) ≡ 0 + got_by weigh (tallies_of rest) = omega arith in
      same
  got_more (Some place) held rest = sum_by-cons (λ tally. weight_of weigh tally.got) place.pass.tally (tallies_of rest)

-- the bag that gave a vertex to the second side has a part
has_part : (first second : MirrorSeen) (left : List ChunkSeen) (settled : IsLogSettled (first ∷ second ∷ []) left)
    (place metric : ℕ)
    → slice_get (metrics_in second.accesses) place ≡ Some metric → place < length settled.parts
has_part first second left settled place metric own =
    let P = λ (mirror : MirrorSeen). IsPrefix (bags_in mirror.accesses) settled.bags in
    let begins = All-head P second [] (All-tail P first (second ∷ []) settled.prefixes) in
    let metric_of = λ (bag : BagSeen). bag.metric in
    let longer = prefix_length (metrics_in second.accesses) (metrics_of settled.bags)
    (prefix_map metric_of (bags_in second.accesses) settled.bags begins) in
    omega (
      arith,
      longer,
      length-map settled.bags metric_of,
      settled.whole,
      slice_get_within
          (metrics_in second.accesses) place metric own,
    )

module _ (log : TableId) (from to : SideSeen) (metric v x : ℕ) (left : List ChunkSeen)
    (pushed : PushesTo metric v (new_side log) from) (popped : Pops x (new_side log) to)
    (settled : IsLogSettled (from.mirror ∷ to.mirror ∷ []) left) where
  -- what the first side put into that bag weighs no more than v, and it got nothing there
  put_little : (f : ℕ → ℕ) → sum_by f (vertices_of (account_at popped.place from).put) ≤ f v
  put_little f =
      ⊎_elim
      (λ (same : popped.place ≡ pushed.place).
      let put = pushed.here.put in
      let account = pushed.here.account f in
      let chunks = pushed.here.chunks in
      let is : (account_at popped.place from).put ≡ chunks = ap (λ (p : ℕ). (account_at p from).put) same ∙ put in
      let whole = sum_by-append f (account_at pushed.place from).held (vertices_of chunks) in
      let one = sum_by-cons f v [] in
      rw is (omega (arith, account, whole, one)))
      (λ (apart : popped.place ≢ pushed.place).
      let none : (account_at popped.place from).put ≡ [] =
      ap (λ (a : Account). a.put) (pushed.others popped.place apart) in
      rw none (omega arith))
      (cases_eq popped.place pushed.place)

  got_nothing : (account_at popped.place from).got ≡ []
  got_nothing =
      ⊎_elim
      (λ (same : popped.place ≡ pushed.place). ap (λ (p : ℕ). (account_at p from).got) same ∙ pushed.here.got)
      (λ (apart : popped.place ≢ pushed.place). ap (λ (a : Account). a.got) (pushed.others popped.place apart))
      (cases_eq popped.place pushed.place)

  weighs_less : (f : ℕ → ℕ) → f x ≤ f v
  weighs_less f =
      let q = popped.place in
      let part = some_at settled.parts q (has_part from.mirror to.mirror left settled q popped.metric popped.own.1) in
      let balance = settled.settled q part.0 part.1 (weigh f) in
      let one = slice_get from.mirror.accesses q in
      let two = slice_get to.mirror.accesses q in
      let w = weigh f in
      let put_from = sum_by w (account_at q from).put in
      let put_to = sum_by w (account_at q to).put in
      let got_from = sum_by w (account_at q from).got in
      let got_to = sum_by w (account_at q to).got in
      let put_all : put_by w (tallies_of (pass_in one ++ (pass_in two ++ []))) ≡ put_from + (put_to + 0) =
      put_more f one (get_or from.held q []) (pass_in two ++ [])
      ∙ ap (λ (n : ℕ). put_from + n) (put_more f two (get_or to.held q []) []) in
      let got_all : got_by w (tallies_of (pass_in one ++ (pass_in two ++ []))) ≡ got_from + (got_to + 0) =
      got_more f one (get_or from.held q []) (pass_in two ++ [])
      ∙ ap (λ (n : ℕ). got_from + n) (got_more f two (get_or to.held q []) []) in
      let whole : put_by w (tallies_of (pass_in one ++ (pass_in two ++ [])))
      ≡ got_by w (tallies_of (pass_in one ++ (pass_in two ++ []))) + weight_of w part.0 = balance in
      let to_put : put_to ≡ 0 = ap (sum_by w) popped.here.put in
      let to_got : got_to ≡ sum_by f (vertices_of popped.here.chunks) =
      ap (sum_by w) popped.here.got ∙ weighed f popped.here.chunks in
      let from_got : got_from ≡ 0 = ap (sum_by w) got_nothing in
      let from_put : put_from ≡ sum_by f (vertices_of (account_at q from).put) = weighed f (account_at q from).put in
      let out : f x + sum_by f (account_at q to).held ≡ sum_by f (vertices_of popped.here.chunks) =
      sym (sum_by-cons f x (account_at q to).held) ∙ popped.here.account f in
      omega (arith, put_all, got_all, whole, to_put, to_got, from_got, from_put, out, put_little f)

  pub is_same : x ≡ v
  is_same = same_number x v weighs_less

pub returns-then-push : goal.returns-then-push
returns-then-push g c =
    let pushed = rw c.requires.from at c.if-push.ensures.pushed in
    let settled = rw c.in_ok-sides.ensures.items at c.in_ok-_left.ensures.settled in
    some_then _ _ c.pop-popped.result
    (λ x pops. is_same c.args.pool c.push.new.side c.pop-popped.new.side c.args.metric c.args.v x
    c.in_ok-_left._left.items pushed (rw c.requires.to at pops) settled)
    c.pop-popped.ensures.popped
