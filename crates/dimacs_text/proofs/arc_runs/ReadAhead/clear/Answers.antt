use Rattle.std.proofs.Common.{◌≡◌, ◌++◌, length, take, drop, arith, sym, subst, All}
use Rattle.std.proofs.lemmas.Grind.{common_steps}
use Rattle.dimacs_text.specs.Reading.{AreRunsOf}
use Rattle.dimacs_text.proofs.arc_runs.ReadAhead.clear.Goals as goal

pub returns : goal.returns
returns c bytes =
    let new = c.clear_all.new.lists in
    let lists = c.args.self.now.others in
    let same : take lists.len (new ++ drop (length new) lists.items) ≡ new =
    grind (arith, common_steps, c.clear_all.auto.lists, c.deref_mut.ensures.len, c.deref_mut.ensures.value) in
    record {
      one = c.clear.ensures.runs bytes;
      another = c.clear-2.ensures.runs bytes;
      others = subst (λ l. All (AreRunsOf bytes) l) (sym same) (c.clear_all.ensures bytes);
    }
