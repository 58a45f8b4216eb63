-- Only one entry is changed, and its bag isn't.
use Rattle.std.proofs.Common.{◌≡◌, ◌∙◌, Some, subst, sym}
use Rattle.std.specs.Prelude.{slice_get}
use Rattle.std.proofs.lemmas.Option.{same_Some}
use Rattle.std.proofs.lemmas.Result.{IfErr-weaker, on_ok_weaker}
use Rattle.obim_bags.specs.Entries.{AreAllOf, EntrySeen, IsEntry}
use Rattle.obim_bags.proofs.Listed.{at_set_else, found_at, map_kept}
use Rattle.obim_bags.proofs.entries.Entries.drain_at.Goals as goal

pub invariant_of-self : goal.invariant_of-self
invariant_of-self g c =
    let here = found_at c.self.inside.list.items c.args.place c.index_mut.result.now
    (rw (← c.self.view_is) at c.requires.place) c.index_mut.ensures.value in
    rw (map_kept (λ (entry : EntrySeen). entry.bag) c.self.inside.list.items c.args.place _ c.drain.new.self here
    c.drain.ensures.bag) c.self.invariant

pub returns : goal.returns
returns g c =
    let items = c.self.inside.list.items in
    let here = found_at items c.args.place c.index_mut.result.now
    (rw (← c.self.view_is) at c.requires.place) c.index_mut.ensures.value in
    let same : (entry : EntrySeen) → slice_get c.args.self.now.list c.args.place ≡ Some entry
    → c.index_mut.result.now ≡ entry =
    λ entry found. same_Some _ _ (sym here ∙ (rw (← c.self.view_is) at found)) in
    record {
      bags =
          rw (← c.self.view_is)
          (map_kept (λ (entry : EntrySeen). entry.bag) items c.args.place _ _ here c.drain.ensures.bag);
      others = λ other is_else. rw (← c.self.view_is) (at_set_else items c.args.place other _ is_else);
      settled = c.drain.ensures.settled;
      entry = λ entry found. subst IsEntry (same entry found) c.drain.ensures.entry;
      all =
          on_ok_weaker c.drain.result
          (λ all entry found. subst (λ (e : EntrySeen). AreAllOf e c.args.passes.items) (same entry found) all)
          c.drain.ensures.all;
      missing =
          IfErr-weaker c.drain.result _ _
          (λ fault lacks is_missing entry found all.
          lacks is_missing (subst (λ (e : EntrySeen). AreAllOf e c.args.passes.items) (sym (same entry found)) all))
          c.drain.ensures.missing;
    }
