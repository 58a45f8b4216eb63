use Rattle.text_tests.proofs.texts.refusals.of_read_ahead_new.Goals as goal

pub feed_with-requires : goal.feed_with-requires
feed_with-requires g c = record { ahead = c.clear.ensures _ }
