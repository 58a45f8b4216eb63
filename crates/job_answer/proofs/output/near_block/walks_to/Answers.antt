use Rattle.std.proofs.Common.{◌<◌, ℕ}
use Rattle.std.proofs.lemmas.List.Elements.{All-map}
use Rattle.job_answer.proofs.output.near_block.walks_to.Goals as goal

pub near_walks-requires-clause-targets : goal.near_walks-requires-clause-targets
near_walks-requires-clause-targets g c lives longer =
    rw (c.deref.ensures.value, c.in_ok-targets.ensures)
    (All-map (λ (v : ℕ). v < c.args.network.now.n) (λ (entry : ℕ × ℕ). entry.0) c.args.found.now c.requires.found)
