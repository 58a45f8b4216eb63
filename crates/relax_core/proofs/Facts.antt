-- The lemmas that crates above may cite.
-- an event at a live seat, and that it leads from a lawful state to a lawful one
pub use Rattle.relax_core.proofs.Enabled.{enabled, arc_at_place}
pub use Rattle.relax_core.proofs.Running.{event_keeps_lawful, live_some}
-- what a lawful state says of a seat: its hand, its credits, and the next arc of its row
pub use Rattle.relax_core.proofs.Cover.{hand_at}
pub use Rattle.relax_core.proofs.Accounts.{credits_at, saw_at, total_above}
pub use Rattle.relax_core.proofs.Along.{next_place, head_in, lowering_attains}
-- what it says of its total
pub use Rattle.relax_core.proofs.Closing.{total_is_bounded, zero_is_least}
-- lists of views, and the number of marks
pub use Rattle.relax_core.proofs.Seats.{all_at, sum_replaced, two_shares}
pub use Rattle.relax_core.proofs.Accounts.{marks_but, marks_le}
-- how a run opens, seed by seed
pub use Rattle.relax_core.proofs.Opening.{opening_lawful, started_none, started_more}
