-- One bag more is drained.
use Rattle.std.proofs.Common.{◌≡◌, ◌≢◌, ◌∙◌, ⊎_elim, ap, refl, sym, subst, ℕ, zero, suc, ◌+◌, ◌-◌, ◌≤◌, List, []}
use Rattle.std.proofs.Common.{◌∷◌, ◌++◌, map, reverse, take, drop, get_or, length, length-append, arith}
use Rattle.std.specs.Prelude.{All, Some, slice_get}
use Rattle.std.proofs.lemmas.Bool.{cases_eq}
use Rattle.std.proofs.lemmas.Option.{slice_get_within}
use Rattle.std.specs.declared.vec.Vec.{Vec}
use Rattle.std.specs.declared.alloc.Global.{Global}
use Rattle.std.proofs.lemmas.List.{length-map, length-take, map-append, reverse-append, take-append-drop}
use Rattle.std.proofs.lemmas.List.Elements.{All-map, All-weaker}
use mathlib.Core.List.{IsPrefix}
use Rattle.obim_bags.specs.declared.fault.SettleFault.TheVariants.{Missing}
use Rattle.obim_bags.specs.Chunks.{ChunkSeen}
use Rattle.obim_bags.specs.Bags.{AreSettled, BagSeen, PassSeen}
use Rattle.obim_bags.specs.Logs.{AccessSeen, bags_in}
use Rattle.obim_bags.specs.Entries.{AreAllOf, EntriesSeen, EntrySeen, bags_of}
use Rattle.obim_bags.specs.Settling.{AreDrainedFrom, AreOf, AreWholeFrom, IsWholeAt, LackSome, lists_of, passes_in}
use Rattle.obim_bags.proofs.Listed.{err_and, some_at}
use Rattle.obim_bags.proofs.Prefixes.{prefix_length, prefix_map, prefix_trans}
use Rattle.obim_bags.proofs.Cuts.{passes_kept}
use Rattle.obim_bags.proofs.settle.drain_all.Goals as goal

count_of : (entries : EntriesSeen) → length (bags_of entries) ≡ length entries.list
count_of entries = length-map entries.list (λ (e : EntrySeen). e.bag)

-- lists of accesses of these bags are no longer than the bags
of_short : (bags : List BagSeen) (n : ℕ) (held : List (List AccessSeen)) → length bags ≡ n → AreOf bags held
    → All (λ (accesses : List AccessSeen). length accesses ≤ n) held
of_short bags n held count of =
    All-weaker (λ (accesses : List AccessSeen). IsPrefix (bags_in accesses) bags)
    (λ (accesses : List AccessSeen). length accesses ≤ n)
    (λ accesses begins. omega
    (arith, prefix_length (bags_in accesses) bags begins, length-map accesses (λ (p : AccessSeen). p.bag))) held of

-- lists that are cut are of these bags still
cut_of : (bags : List BagSeen) (n : ℕ) (held : List (List AccessSeen)) → AreOf bags held
    → AreOf bags (map (take n) held)
cut_of bags n held of =
    let P = λ (accesses : List AccessSeen). IsPrefix (bags_in accesses) bags in
    All-map P (take n) held
    (All-weaker P (λ (accesses : List AccessSeen). P (take n accesses))
    (λ accesses begins.
    prefix_trans (bags_in (take n accesses)) (bags_in accesses) bags
    (prefix_map (λ (p : AccessSeen). p.bag) (take n accesses) accesses (drop n accesses, take-append-drop n accesses))
    begins) held of)

cut_short : (n : ℕ) (held : List (List AccessSeen))
    → All (λ (accesses : List AccessSeen). length accesses ≤ n) (map (take n) held)
cut_short n held =
    All-map (λ (accesses : List AccessSeen). length accesses ≤ n) (take n) held
    (λ k d within. omega (arith, length-take n (get_or held k d)))

drained_more : (n : ℕ) (held : List (List AccessSeen)) (parts : List (List ChunkSeen)) (part : List ChunkSeen)
    → AreDrainedFrom (n + 1) held parts
    → AreSettled (passes_in n held) part → AreDrainedFrom n held (part ∷ parts)
drained_more n held parts part was this zero p at =
    let same : part ≡ p = cc at in let here : n + 0 ≡ n = omega arith in rw (here, ← same) this
drained_more n held parts part was this (suc k) p at =
    let there : n + suc k ≡ n + 1 + k = omega arith in rw there (was k p at)

-- the part put last comes first
first_part : (parts new : List (Vec ChunkSeen Global)) (part : Vec ChunkSeen Global) → new ≡ parts ++ part ∷ []
    → reverse (lists_of new) ≡ part.items ∷ reverse (lists_of parts)
first_part parts new part is =
    rw (
      is,
      map-append (λ (v : Vec ChunkSeen Global). v.items) parts (part ∷ []),
      reverse-append (lists_of parts)
          (part.items ∷ []),
    ) refl

-- one entry more is whole
whole_more : (n : ℕ) (held : List (List AccessSeen)) (entries : EntriesSeen)
    → ((entry : EntrySeen) → slice_get entries.list n ≡ Some entry → IsWholeAt n held entry)
    → AreWholeFrom (n + 1) held entries → AreWholeFrom n held entries
whole_more n held entries this was place entry from there =
    ⊎_elim
    (λ (same : place ≡ n). subst (λ (p : ℕ). IsWholeAt p held entry) (sym same)
    (this entry (subst (λ (p : ℕ). slice_get entries.list p ≡ Some entry) same there)))
    (λ (apart : place ≢ n). was place entry (omega (arith, from, apart)) there)
    (cases_eq place n)

pub loop-place-init : goal.loop-place-init
loop-place-init g c = record {
  bags = refl;
  held = c.requires;
  short = of_short (bags_of c.args.entries.now) c.len-place.result (lists_of c.args.held.items)
      (count_of c.args.entries.now ∙ sym c.len-place.ensures.len) c.requires;
  passes = λ place below. refl;
  count = rw c.new-parts.ensures.items (omega (arith, c.len-place.ensures.len, count_of c.args.entries.now));
  rest = λ place below. refl;
  whole = λ place entry from there. absurd
      (omega (arith, from, c.len-place.ensures.len, slice_get_within c.args.entries.now.list place entry there));
  drained = rw c.new-parts.ensures.items (λ place part at. absurd cc);
}

pub loop-place-preserved : goal.loop-place-preserved
loop-place-preserved g c =
    let was = c.loop-place.invariant in
    let n = c.loop-place.place - 1 in
    let next : c.loop-place.place ≡ c.loop-place.place - 1 + 1 = omega (arith, c.loop-place-test.true) in
    let held = lists_of c.loop-place.held.items in
    let parts = first_part c.loop-place.parts.items c.push.new.self.items c.in_ok-drain_at.field-0
    c.in_ok-push.ensures.items in
    let here = c.in_ok-passes.ensures.passes ∙ was.passes n (omega arith) in
    record {
      bags = c.drain_at.ensures.bags ∙ was.bags;
      held = rw (c.drain_at.ensures.bags, c.in_ok-passes.ensures.held)
          (cut_of (bags_of c.loop-place.entries) n held was.held);
      short = rw c.in_ok-passes.ensures.held (cut_short n held);
      passes = λ place below.
          ap (passes_in place) c.in_ok-passes.ensures.held ∙ passes_kept place n held below
          ∙ was.passes place (omega arith);
      count = rw (c.in_ok-push.ensures.items, length-append, c.drain_at.ensures.bags) (omega (arith, was.count));
      rest = λ place below. c.drain_at.ensures.others place (omega arith) ∙ was.rest place (omega arith);
      whole =
          whole_more n (lists_of c.args.held.items) c.args.entries.now
          (λ entry there. record {
            entry_is = c.drain_at.ensures.entry entry (was.rest n (omega arith) ∙ there);
            all = subst (AreAllOf entry) here (c.in_ok-drain_at.ensures.all entry (was.rest n (omega arith) ∙ there));
          }) (rw next at was.whole);
      drained =
          rw parts
          (drained_more n (lists_of c.args.held.items)
          (reverse (lists_of c.loop-place.parts.items)) c.in_ok-drain_at.field-0.items (rw next at was.drained)
          (subst (λ (passes : List PassSeen). AreSettled passes c.in_ok-drain_at.field-0.items) here
          c.in_ok-drain_at.ensures.settled));
    }

pub returns-clause-whole : goal.returns-clause-whole
returns-clause-whole g c place entry from there =
    c.loop-place.invariant.whole place entry (omega (arith, c.loop-place-test.false)) there

-- the passes of this entry's bag aren't all
pub returns-in_err-drain_at-clause-missing : goal.returns-in_err-drain_at-clause-missing
returns-in_err-drain_at-clause-missing g c =
    let was = c.loop-place.invariant in
    let n = c.loop-place.place - 1 in
    let found = some_at c.loop-place.entries.list n
    (omega (arith, was.count, count_of c.loop-place.entries, c.loop-place-test.true)) in
    let here = c.in_ok-passes.ensures.passes ∙ was.passes n (omega arith) in
    let lacks : c.in_err-drain_at.field-0.0 ≡ Missing → LackSome (lists_of c.args.held.items) c.args.entries.now =
    (λ missing. record {
      place = n;
      entry = found.0;
      there = sym (was.rest n (omega arith)) ∙ found.1;
      entry_is = c.drain_at.ensures.entry found.0 found.1;
      missing = λ all. c.in_err-drain_at.ensures.missing missing found.0 found.1
          (subst (AreAllOf found.0) (sym here) all);
    }) in
    err_and c.from_residual-in_err-drain_at.result _ _ c.from_residual-in_err-drain_at.ensures.1
    (λ fault is missing. lacks (sym is ∙ missing))
