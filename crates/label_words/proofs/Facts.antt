-- The lemmas that crates above may cite.
-- a pause in which no label below a limit is marked is least up to that limit; one whose marked vertices are far from
-- targets by bounds has their least labels
pub use Rattle.label_words.proofs.Limits.{pauses_are_least_up_to, far_pauses_are_least}
