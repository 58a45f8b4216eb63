-- Two changes at one place. One chunk was put and none was got if the bag was found empty.
use Rattle.std.proofs.Common.{◌≡◌, ◌∙◌, ap, sym, ℕ, ◌+◌, List, [], Some, arith, set}
use Rattle.std.specs.Prelude.{slice_get}
use Rattle.std.proofs.lemmas.List.Sums.{sum_by-cons}
use Rattle.obim_bags.specs.Chunks.{ChunkSeen}
use Rattle.obim_bags.specs.Bags.{PassSeen, new_pass}
use Rattle.obim_bags.specs.Logs.{ChangesAt, IsNew, MirrorSeen, AccessSeen, WasEmptyIfAloneAt}
use Rattle.obim_bags.specs.Logs.{access_after_empty_find, access_after_get, access_after_put}
use Rattle.obim_bags.proofs.Facts.{none_then}
use Rattle.obim_bags.proofs.Facts.{at_set, set_twice, some_same, some_then}
use Rattle.worklist_tests.proofs.bags.callers.put_and_get_at.Goals as goal

changes_then : (place : ℕ) (first second : AccessSeen → AccessSeen) (old mid new : MirrorSeen)
    → ChangesAt place first old mid
    → ChangesAt place second mid new → ChangesAt place (λ was. second (first was)) old new
changes_then place first second old mid new one two =
    let was = one.0 in
    let now = first was in
    let here = ap (λ (m : MirrorSeen). slice_get m.accesses place) one.2 ∙ at_set old.accesses place was now one.1 in
    let same : two.0 ≡ now = some_same (sym two.1 ∙ here) in
    let written = λ (m : MirrorSeen) (p : AccessSeen). (record m { accesses = set m.accesses place (second p) }) in (
      was,
      one.1,
      two.2 ∙ ap (written mid) same ∙ ap (λ (m : MirrorSeen). written m now) one.2
          ∙ ap (λ (ps : List AccessSeen). (record old { accesses = ps }))
          (set_twice old.accesses place now (second now)),
    )

pub returns-clause-got : goal.returns-clause-got
returns-clause-got g c =
    some_then _ _ c.get_at.result
    (λ got changes. changes_then c.args.place (access_after_put c.args.chunk)
    (access_after_get got) _ _ _ c.in_ok-put_at.ensures.put changes)
    c.get_at.ensures.got

pub returns-clause-none : goal.returns-clause-none
returns-clause-none g c =
    none_then _ _ c.get_at.result
    (changes_then c.args.place (access_after_put c.args.chunk) access_after_empty_find _ _ _ c.in_ok-put_at.ensures.put)
    c.get_at.ensures.found_empty

-- each chunk counts as one
abbrev one : ChunkSeen → ℕ
one _ = 1

not_empty : (place : ℕ) (chunk : ChunkSeen) (old mid : MirrorSeen) (was : AccessSeen)
    → slice_get old.accesses place ≡ Some was
    → IsNew was → was.bag.workers ≡ 1 → ChangesAt place (access_after_put chunk) old mid → WasEmptyIfAloneAt place mid
    → ⊥
not_empty place chunk old mid was is new alone put empty =
    let first : put.0 ≡ was = some_same (sym put.1 ∙ is) in
    let here = ap (λ (m : MirrorSeen). slice_get m.accesses place) put.2
    ∙ at_set old.accesses place put.0 (access_after_put chunk put.0) put.1 in
    let now : empty.0 ≡ access_after_put chunk was =
    some_same (sym empty.1 ∙ here) ∙ ap (access_after_put chunk) first in
    let pass : empty.0.pass.tally ≡ (access_after_put chunk (record was { pass = new_pass was.bag })).pass.tally =
    ap (λ (p : AccessSeen). p.pass.tally) now
    ∙ ap (λ (q : PassSeen). (access_after_put chunk (record was { pass = q })).pass.tally) new in
    let balance = rw pass at empty.2 in
    let nothing : 1 + 0 ≡ 0 = sym (sum_by-cons one chunk []) ∙ balance (sym alone) one in
    absurd (omega (arith, nothing))

pub returns-clause-found : goal.returns-clause-found
returns-clause-found g c was is new alone =
    none_then _ _ c.get_at.result
    (not_empty c.args.place c.args.chunk _ _ was is new alone c.in_ok-put_at.ensures.put)
    c.get_at.ensures.alone
