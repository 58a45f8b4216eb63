-- The lemmas that crates above may cite: what lines are, and what whole requests are.
pub use Rattle.dimacs_text.proofs.TextLaws.{no_fault_among, one_fault_among, one_job_among}
pub use Rattle.dimacs_text.proofs.RequestLimits.{request_within}
pub use Rattle.dimacs_text.proofs.GraphTextLemmas.{lines_test}
pub use Rattle.dimacs_text.proofs.LineLemmas.{drop_next, empty_length, filled_length, line_first, lines_whole}
pub use Rattle.dimacs_text.proofs.CommentLemmas.{comment-more, comment_begins_none, comment_filled}
pub use Rattle.dimacs_text.proofs.ReaderLemmas.{keeps_more, no_feed_joined}
pub use Rattle.dimacs_text.proofs.AfterGraphLemmas.{others_no_head, silent_begins}
pub use Rattle.dimacs_text.proofs.HeadLemmas.{head_kept, head_more, heads_within}
pub use Rattle.dimacs_text.proofs.RequestLemmas.{comment_said, empty_unasked, not_whole}
pub use Rattle.dimacs_text.proofs.RequestLaws.{fault_inside, fault_or_end, silent_right, silent_unasked}
pub use Rattle.dimacs_text.proofs.OneRequest.{one_request, IsOneRequest}
pub use Rattle.dimacs_text.proofs.SectionLemmas.{one_section, IsAnsweredEarlier}
pub use Rattle.dimacs_text.proofs.ShortLemmas.{short_section}
