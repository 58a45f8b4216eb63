-- The lemmas that crates above may cite.
-- walks one after the other, and what is attained along them
pub use Rattle.route_walks.proofs.Attained.{contains-one, walk-append, cost-append}
pub use Rattle.route_walks.proofs.Attained.{attained-start, attained-over, attained-along}
pub use Rattle.route_walks.proofs.Attained.{attained-by_walk, walk-of_attained}
-- among n vertices a walk can be cut to fewer than n arcs, at no more cost
pub use Rattle.route_walks.proofs.Cuts.{walks_can_be_cut}
-- and nothing is attained at a vertex whose least label is INF
pub use Rattle.route_walks.proofs.Cuts.{no_walk_at_inf}
-- labels that are settled and sound are least, and the other way round
pub use Rattle.route_walks.proofs.Labels.{settled_and_sound_are_least, least_labels_are_settled}
-- labels settled up to a limit are least up to it; those of at most the limit are least, and those within a bound
-- exact; least labels are least up to each limit
pub use Rattle.route_walks.proofs.Limits.{settled_up_to_is_least_up_to, least_up_to_is_least, least_is_least_up_to}
pub use Rattle.route_walks.proofs.Limits.{least_up_to_agrees, within_is_exact, walks_below_are_tight}
-- labels that are settled up to a limit on the way to a vertex are least up to it there, and walks there are tight
pub use Rattle.route_walks.proofs.Limits.{settled_toward_is_least_toward, least_toward_is_least_up_to}
pub use Rattle.route_walks.proofs.Limits.{least_up_to_is_least_toward, walks_toward_are_tight}
-- labels along which arcs are relaxed tell bounds, and a label that reaches a limit with a bound is past it
pub use Rattle.route_walks.proofs.Bounds.{relaxed_labels_are_bounds, backward_labels_are_bounds, bounds_are_past}
-- where every vertex is a seed, each is
pub use Rattle.route_walks.proofs.Components.{seed-within}
-- what is attained along some arcs is attained along more
pub use Rattle.route_walks.proofs.SameArcs.{attained-among}
-- lists of arcs, and other arcs after them
pub use Rattle.route_walks.proofs.Added.{unit_weights-append, both_ways-append, both_ways-graph, graph-append}
pub use Rattle.route_walks.proofs.Added.{same_arcs-append, same_arcs-sym, same_arcs-trans, same_arcs-grown}
pub use Rattle.route_walks.proofs.Added.{least_labels-grown}
-- labels as seeds: which they are, and that what is attained and least from them is so from the seeds that they meet
pub use Rattle.route_walks.proofs.Reseeding.{labels-have_seed, labels-meet_their_seeds, labels-are_seeds}
pub use Rattle.route_walks.proofs.Reseeding.{attained-from_labels, labels_serve_as_seeds}
