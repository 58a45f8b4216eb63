-- The last place is the one at the place asked for, where the list is so long.
use Rattle.std.proofs.Common.{◌≡◌, ◌∙◌, ap, sym, subst, ℕ, ◌+◌, ◌<◌, ◌≤◌, List, [], ◌∷◌, ◌++◌, length, length-append}
use Rattle.std.proofs.Common.{Some, arith}
use Rattle.std.specs.Prelude.{slice_get}
use Rattle.std.proofs.lemmas.List.{append-nil}
use Rattle.std.proofs.lemmas.List.Elements.{All-push}
use Rattle.std.proofs.lemmas.Option.{slice_get_past}
use Rattle.obim_bags.specs.Bags.{BagSeen, IsPassOf}
use Rattle.obim_bags.specs.Logs.{AccessSeen, bags_in}
use Rattle.obim_bags.proofs.Listed.{at_last, at_map}
use Rattle.obim_bags.proofs.Prefixes.{prefix_get}
use Rattle.obim_bags.proofs.settle.move_last.Goals as goal

-- the last of as many accesses as may be
last_at : (accesses rest : List AccessSeen) (last : AccessSeen) (place : ℕ) → accesses ≡ rest ++ last ∷ []
    → length accesses ≤ place + 1 → place < length accesses
    → slice_get accesses place ≡ Some last
last_at accesses rest last place is most more =
    let count = ap length is ∙ length-append rest (last ∷ []) in
    let same : place ≡ length rest = omega arith in
    rw (is, same) (at_last rest last)

pub returns-then-len-place-clause-added : goal.returns-then-len-place-clause-added
returns-then-len-place-clause-added c =
    let past : length c.args.accesses.now.items ≤ c.args.place =
    omega (arith, c.len.ensures, c.if-len-place.true, c.args.accesses.now.ok) in
    rw (slice_get_past c.args.accesses.now.items c.args.place past) (sym (append-nil c.args.passes.now.items))

pub returns-in_ok-push-clause-added : goal.returns-in_ok-push-clause-added
returns-in_ok-push-clause-added c =
    let more : c.args.place < length c.args.accesses.now.items =
    omega (arith, c.len.ensures, c.if-len-place.false, c.args.accesses.now.ok) in
    let last = last_at c.args.accesses.now.items c.pop.new.self.items c.in-Some.last c.args.place
    c.in-Some.ensures.items c.requires more in
    rw (last, ← c.into_pass.ensures.pass) c.in_ok-push.ensures.items

pub returns-in_ok-push-clause-of_bag : goal.returns-in_ok-push-clause-of_bag
returns-in_ok-push-clause-of_bag c bags bag begins at all =
    let more : c.args.place < length c.args.accesses.now.items =
    omega (arith, c.len.ensures, c.if-len-place.false, c.args.accesses.now.ok) in
    let last = last_at c.args.accesses.now.items c.pop.new.self.items c.in-Some.last c.args.place
    c.in-Some.ensures.items c.requires more in
    let there = prefix_get (bags_in c.args.accesses.now.items) bags c.args.place c.in-Some.last.bag begins
    (at_map (λ (p : AccessSeen). p.bag) c.args.accesses.now.items c.args.place c.in-Some.last last) in
    let same : c.in-Some.last.bag ≡ bag = cc (there, at) in
    rw c.in_ok-push.ensures.items
    (All-push (IsPassOf bag) c.args.passes.now.items c.into_pass.result all
    (subst (λ (b : BagSeen). IsPassOf b c.into_pass.result) same c.into_pass.ensures.of_bag))
