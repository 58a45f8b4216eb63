use Rattle.job_reader.proofs.piece.Piece.take_ahead.Goals as goal

pub invariant_of-self : goal.invariant_of-self
invariant_of-self c = (c.self.invariant.0, c.self.invariant.1, rw c.replace.ensures.after (c.new.ensures _))
