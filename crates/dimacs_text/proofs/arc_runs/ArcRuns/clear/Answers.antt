use Rattle.std.proofs.Common.{◌≡◌, ◌++◌, length, take, drop, arith, sym, subst, All}
use Rattle.std.proofs.lemmas.Grind.{common_steps}
use Rattle.dimacs_text.specs.reader.ArcRuns.{IsArcRun}
use Rattle.dimacs_text.proofs.arc_runs.ArcRuns.clear.Goals as goal

pub returns-clause-runs : goal.returns-clause-runs
returns-clause-runs c bytes =
    let new = c.empty_all.new.runs in
    let runs = c.args.self.now.runs in
    let same : take runs.len (new ++ drop (length new) runs.items) ≡ new =
    grind (arith, common_steps, c.empty_all.auto.runs, c.deref_mut.ensures.len, c.deref_mut.ensures.value) in
    subst (λ l. All (IsArcRun bytes) l) (sym same) (c.empty_all.ensures bytes)
