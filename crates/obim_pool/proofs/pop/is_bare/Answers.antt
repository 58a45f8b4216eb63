use Rattle.std.proofs.lemmas.Bool.{OnTrue_at, OnTrue_from}
use Rattle.obim_pool.proofs.pop.is_bare.Goals as goal
use Rattle.obim_pool.proofs.Drawing.{finds_bare}

pub returns-clause-bare : goal.returns-clause-bare
returns-clause-bare c =
    OnTrue_from _ _ (λ found.
    finds_bare c.args.place c.args.mirror.now c.finds_empty_at.new.mirror c.args.chunks.now c.args.chunks.now
    (OnTrue_at found c.finds_empty_at.ensures.found_empty) (OnTrue_at found c.finds_empty_at.ensures.alone)
    c.if-not-are_absent.ensures c.if-not-are_absent.ensures)
