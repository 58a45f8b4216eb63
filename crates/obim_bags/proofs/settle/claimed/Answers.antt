-- One list more is cut, and its pass taken.
use Rattle.std.proofs.Common.{◌≡◌, ◌∙◌, ap, sym, ℕ, ◌+◌, ◌<◌, ◌≤◌, List, [], ◌∷◌, ◌++◌, set, take, length, Some}
use Rattle.std.proofs.Common.{add-one, arith}
use Rattle.std.specs.Prelude.{slice_get}
use Rattle.std.specs.declared.vec.Vec.{Vec}
use Rattle.std.specs.declared.alloc.Global.{Global}
use Rattle.std.proofs.lemmas.List.{append-nil, length-map, length-set, map-set, take_more}
use Rattle.std.proofs.lemmas.Option.{get_or_from_slice_get, slice_get_within}
use mathlib.Core.List.{IsPrefix}
use Rattle.obim_bags.specs.Bags.{PassSeen}
use Rattle.obim_bags.specs.Logs.{AccessSeen, bags_in, pass_in}
use Rattle.obim_bags.specs.Settling.{lists_of, passes_in}
use Rattle.obim_bags.proofs.Listed.{all_at, at_map, found_at}
use Rattle.obim_bags.proofs.Cuts.{cut, cut_all, cut_at, cut_step}
use Rattle.obim_bags.proofs.Totals.{passes_append}
use Rattle.obim_bags.proofs.settle.claimed.Goals as goal

-- the list looked at is as it was
as_before : (place at : ℕ) (held : List (Vec AccessSeen Global)) (orig : List (List AccessSeen))
    (here : Vec AccessSeen Global)
    → lists_of held ≡ cut place at orig → slice_get held at ≡ Some here → slice_get orig at ≡ Some here.items
as_before place at held orig here is there =
    sym (cut_at place at orig) ∙ ap (λ (ls : List (List AccessSeen)). slice_get ls at) (sym is)
    ∙ at_map (λ (v : Vec AccessSeen Global). v.items) held at here there

-- one list more was cut
cut_more : (place at : ℕ) (held : List (Vec AccessSeen Global)) (orig : List (List AccessSeen))
    (here new : Vec AccessSeen Global)
    → lists_of held ≡ cut place at orig → slice_get orig at ≡ Some here.items → new.items ≡ take place here.items
    → lists_of (set held at new) ≡ cut place (at + 1) orig
cut_more place at held orig here new is there rest =
    rw (add-one, map-set (λ (v : Vec AccessSeen Global). v.items) held at new, is, rest)
    (cut_step place at orig here.items there)

-- the passes of one list more
passes_more : (place at : ℕ) (orig : List (List AccessSeen)) (here : List AccessSeen) → slice_get orig at ≡ Some here
    → passes_in place (take (at + 1) orig) ≡ passes_in place (take at orig) ++ pass_in (slice_get here place)
passes_more place at orig here there =
    let one : take (at + 1) orig ≡ take at orig ++ here ∷ [] =
    take_more orig at here (slice_get_within orig at here there)
    ∙ ap (λ (x : List AccessSeen). take at orig ++ x ∷ []) (get_or_from_slice_get orig at here here there) in
    ap (passes_in place) one ∙ passes_append place (take at orig) (here ∷ [])
    ∙ ap (λ (passes : List PassSeen). passes_in place (take at orig) ++ passes)
    (append-nil (pass_in (slice_get here place)))

pub move_last-requires : goal.move_last-requires
move_last-requires c =
    let below : c.loop-at.at < length c.loop-at.held.items =
    omega (arith, c.loop-at-test.true, c.len-at-end.ensures, c.args.held.now.ok, c.loop-at.invariant.count) in
    let here = found_at c.loop-at.held.items c.loop-at.at c.index_mut.result.now below c.index_mut.ensures.value in
    all_at (λ (accesses : List AccessSeen). length accesses ≤ c.args.place + 1) _ c.loop-at.at _ c.requires
    (as_before c.args.place c.loop-at.at c.loop-at.held.items _ c.index_mut.result.now c.loop-at.invariant.held here)

pub loop-at-preserved : goal.loop-at-preserved
loop-at-preserved c =
    let below : c.loop-at.at < length c.loop-at.held.items =
    omega (arith, c.loop-at-test.true, c.len-at-end.ensures, c.args.held.now.ok, c.loop-at.invariant.count) in
    let here = found_at c.loop-at.held.items c.loop-at.at c.index_mut.result.now below c.index_mut.ensures.value in
    let orig = lists_of c.args.held.now.items in
    let there = as_before c.args.place c.loop-at.at c.loop-at.held.items orig c.index_mut.result.now
    c.loop-at.invariant.held here in
    record {
      count = length-set c.loop-at.held.items c.loop-at.at _ ∙ c.loop-at.invariant.count;
      held = cut_more c.args.place c.loop-at.at c.loop-at.held.items orig c.index_mut.result.now _
          c.loop-at.invariant.held there c.in_ok-move_last.ensures.rest;
      passes = rw (passes_more c.args.place c.loop-at.at orig _ there, ← c.loop-at.invariant.passes)
          c.in_ok-move_last.ensures.added;
      of_bag = λ bags bag of at.
          c.in_ok-move_last.ensures.of_bag bags bag
          (all_at (λ (accesses : List AccessSeen). IsPrefix (bags_in accesses) bags) orig c.loop-at.at _ of there)
          at (c.loop-at.invariant.of_bag bags bag of at);
    }

pub returns-clause-held : goal.returns-clause-held
returns-clause-held c =
    let all : length (lists_of c.args.held.now.items) ≤ c.loop-at.at =
    omega (
      arith,
      c.loop-at-test.false,
      c.len-at-end.ensures,
      c.args.held.now.ok,
      length-map c.args.held.now.items
          (λ (v : Vec AccessSeen Global). v.items),
    ) in
    c.loop-at.invariant.held ∙ cut_all c.args.place c.loop-at.at (lists_of c.args.held.now.items) all
