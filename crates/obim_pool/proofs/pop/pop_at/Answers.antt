use Rattle.obim_pool.proofs.pop.pop_at.Goals as goal
use Rattle.obim_pool.proofs.Drawing.{takes_held}

pub returns-in-Some-clause-popped : goal.returns-in-Some-clause-popped
returns-in-Some-clause-popped g c =
    takes_held c.args.place c.args.mirror.now c.args.chunks.now c.take_last.new.self c.in-Some.v c.requires.place
    c.in-Some.ensures.taken
