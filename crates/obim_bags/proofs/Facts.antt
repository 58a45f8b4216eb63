-- The lemmas that crates above may cite: on prefixes of lists, places of a list, and what was found.
pub use Rattle.obim_bags.proofs.Prefixes.{prefix_self, prefix_longer, prefix_trans, prefix_length, prefix_map}
pub use Rattle.obim_bags.proofs.Prefixes.{prefix_get}
pub use Rattle.obim_bags.proofs.Listed.{found_at, some_at, at_map, map_kept, at_set_else, at_last, at_snoc, all_at}
pub use Rattle.obim_bags.proofs.Listed.{none_then, true_then}
pub use Rattle.obim_bags.proofs.Written.{some_then, some_same, at_set, set_twice}
