-- What was read is at the front of the buffer, which is no shorter than it was.
use Rattle.std.proofs.Common.{◌≡◌, ◌++◌, ◌<◌, [], length, take, drop, arith}
use Rattle.std.proofs.lemmas.Grind.{common_steps}
use Rattle.job_reader.proofs.piece.Piece.fill.Given.{Over}
use Rattle.job_reader.proofs.piece.Piece.fill.Goals as goal
use Rattle.job_reader.proofs.piece.Piece.fill.Goals.{After-read_block}

-- the buffer after the read is what the read left
left : (g : Over) (c : After-read_block g) → let buffer = c.make_room.new.buffer in
    let new = c.read_block.new.buffer in
    take buffer.len (new ++ drop (length new) buffer.items) ≡ new
left g c = grind (arith, common_steps, c.read_block.auto.buffer, c.deref_mut.ensures.len, c.deref_mut.ensures.value)

some : (g : Over) (c : After-read_block g) → 0 < length c.read_block.new.buffer
some g c =
    rw (c.read_block.auto.buffer, c.deref_mut.ensures.value)
    (omega (arith, c.self.invariant.0, c.make_room.ensures))

pub invariant_of-self : goal.invariant_of-self
invariant_of-self g c =
    let here = (goal.at.invariant_of-self g c).After-read_block in
    (rw (left g here) (some g here), omega arith, c.clear.ensures [])

pub invariant_of-self-2 : goal.invariant_of-self-2
invariant_of-self-2 g c =
    let here = (goal.at.invariant_of-self-2 g c).After-read_block in (
      rw (left g here) (some g here),
      rw (left g here, c.read_block.auto.buffer, c.deref_mut.ensures.value)
          (omega (arith, c.in_ok-self-inside.ensures.count, c.min-room.ensures, c.len.ensures)),
      c.clear.ensures _,
    )
