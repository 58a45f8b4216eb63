-- One place more was claimed.
use Rattle.std.proofs.Common.{◌≡◌, ◌≢◌, ◌∙◌, ap, sym, ◌+◌, List, [], ◌∷◌, ◌++◌, length, Some, append_assoc}
use Rattle.std.proofs.Common.{length-append, arith}
use Rattle.std.specs.Prelude.{slice_get}
use Rattle.std.proofs.lemmas.List.{length-map, map-append}
use Rattle.std.proofs.lemmas.List.Elements.{All-append, All-cons, All-nil}
use Rattle.obim_bags.specs.Logs.{IsNew, AccessSeen, bags_in}
use Rattle.obim_bags.specs.Entries.{EntrySeen, EntriesSeen, bags_of}
use Rattle.obim_bags.specs.Accesses.{AreGained}
use Rattle.obim_bags.proofs.Prefixes.{prefix_next}
use Rattle.obim_bags.proofs.accesses.claim_rest.Goals as goal

gained_more : (old list new : List AccessSeen) (place : AccessSeen) → AreGained old list → new ≡ list ++ place ∷ []
    → IsNew place → AreGained old new
gained_more old list new place was last is_new = record {
  more = was.more ++ place ∷ [];
  kept = last ∙ ap (λ (accesses : List AccessSeen). accesses ++ place ∷ []) was.kept
      ∙ append_assoc old was.more (place ∷ []);
  gained = All-append IsNew was.more (place ∷ []) was.gained (All-cons IsNew place [] is_new (All-nil IsNew));
}

same_count : (entries entries' : EntriesSeen) → bags_of entries ≡ bags_of entries'
    → length entries.list ≡ length entries'.list
same_count entries entries' same =
    sym (length-map entries.list (λ (e : EntrySeen). e.bag)) ∙ ap length same
    ∙ length-map entries'.list (λ (e : EntrySeen). e.bag)

pub loop-entries-preserved : goal.loop-entries-preserved
loop-entries-preserved c =
    let was = c.loop-entries.invariant in
    let list = c.loop-entries.list.items in
    let count = same_count c.claim_at.new.self c.loop-entries.entries c.claim_at.ensures.bags in
    let place_is : c.len-in-loop-entries-2.result ≡ length list =
    omega (arith, c.len-in-loop-entries-2.ensures, c.loop-entries.list.ok) in
    let next : slice_get (bags_of c.loop-entries.entries) (length (bags_in list)) ≡ Some c.in-Some.place.bag =
    rw (length-map list (λ (access : AccessSeen). access.bag), ← place_is) c.in-Some.ensures.found in
    record {
      entries = c.claim_at.ensures.bags ∙ was.entries;
      gained = gained_more _ list _ c.in-Some.place was.gained c.push_reserved.ensures.items c.in-Some.ensures.new;
      list =
          rw (
            c.push_reserved.ensures.items,
            map-append
                (λ (access : AccessSeen). access.bag) list,
            c.claim_at.ensures.bags,
          )
          (prefix_next (bags_in list) _ c.in-Some.place.bag was.list next);
      there = λ place from below.
          let longer : length c.push_reserved.new.self.items ≡ length list + 1 =
          ap length c.push_reserved.ensures.items ∙ length-append list (c.in-Some.place ∷ []) in
          let apart : place ≢ c.len-in-loop-entries-2.result = λ same. omega arith in
          let has = was.there place (omega arith) (omega arith) in
          (has.0, c.claim_at.ensures.others place apart ∙ has.1, has.2);
      room = omega (arith, count, was.room, c.push_reserved.ensures.capacity);
    }
