-- Two seats have no more than all shares.
use Rattle.std.proofs.Common.{sym, arith}
use Rattle.relax_core.proofs.Seats.{two_shares}
use Rattle.relax_core.proofs.Running.{live_at}
use Rattle.relax_core.proofs.state.Core.join.Goals as goal

pub join-requires : goal.join-requires
join-requires c =
    let has = live_at c.args.self.now.views c.args.seat c.in-Some.view (sym c.in-Some.ensures.view) in
    let has' = live_at c.args.self.now.views c.args.other c.in-Some-live.gone (sym c.in-Some-live.ensures.view) in
    let shares =
    two_shares _ c.args.seat c.args.other c.in-Some.view c.in-Some-live.gone has.here has'.here
    c.if-seat-other.false in
    omega (arith, c.requires.1.covers.shares)
