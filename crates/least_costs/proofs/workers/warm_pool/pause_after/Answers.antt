use Rattle.std.proofs.Common.{subst, sym}
use Rattle.label_words.specs.Paused.{IsPause}
use Rattle.least_costs.specs.Network.{seeds_at}
use Rattle.least_costs.proofs.Starts.{start-seeds}
use Rattle.least_costs.proofs.workers.warm_pool.pause_after.Goals as goal

pub returns-in_ok-settled-in-Settled : goal.returns-in_ok-settled-in-Settled
returns-in_ok-settled-in-Settled c =
    let grows = rw (← c.network.view_is, ← c.grown.view_is) at c.requires.grown in
    let rows = c.network.inside.rows in
    let seeds = seeds_at rows.n c.args.start in
    let start = rw (← c.network.view_is) at c.requires.start in
    let closed = rw (← c.network.view_is, c.in-Settled.is) at c.requires.closed in
    let pause =
    c.in_ok-settled-in-Settled.ensures.pause rows seeds c.n.ensures.in_rows (start-seeds rows.n c.args.start start)
    closed in
    let grown =
    c.grow.ensures.pause rows c.grown.inside.rows seeds pause
    (record { vertices = grows.vertices; arcs = rw c.deref.ensures.value grows.along }) in
    let moved = subst (λ n. IsPause c.grown.inside.rows (seeds_at n c.args.start) c.grow.result) (sym grows.vertices) grown in
    rw (← c.grown.view_is) moved

pub returns-in-Paused : goal.returns-in-Paused
returns-in-Paused c =
    let grows = rw (← c.network.view_is, ← c.grown.view_is) at c.requires.grown in
    let rows = c.network.inside.rows in
    let seeds = seeds_at rows.n c.args.start in
    let closed = rw (← c.network.view_is, c.in-Paused.is) at c.requires.closed in
    let grown =
    c.grow-in-Paused.ensures.pause rows c.grown.inside.rows seeds closed
    (record { vertices = grows.vertices; arcs = rw c.deref-in-Paused.ensures.value grows.along }) in
    let moved = subst (λ n. IsPause c.grown.inside.rows (seeds_at n c.args.start) c.grow-in-Paused.result) (sym grows.vertices) grown in
    rw (← c.grown.view_is) moved
