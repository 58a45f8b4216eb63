use Rattle.job_answer.specs.Tasks.{IsSourceBlock}
use Rattle.job_answer.proofs.BlockLists.{blocks-all, blocks-more, blocks-none}
use Rattle.job_answer.proofs.output.blocks.put_blocks.Goals as goal

pub loop-place-init : goal.loop-place-init
loop-place-init g c = record {
  put = blocks-none (IsSourceBlock c.args.tasks.now) g.W.Write.contents c.args.sink.now;
  made = c.requires.made;
}

pub loop-place-preserved : goal.loop-place-preserved
loop-place-preserved g c = record {
  put =
      blocks-more (IsSourceBlock c.args.tasks.now) g.W.Write.contents c.args.tasks.now.sources.now c.loop-place.place 0
      c.loop-place-test.true c.loop-place.invariant.put c.put_block_at.ensures.block;
  made = c.put_block_at.ensures.left;
}

pub returns : goal.returns
returns g c =
    blocks-all (IsSourceBlock c.args.tasks.now) g.W.Write.contents c.args.tasks.now.sources.now c.loop-place.place
    c.loop-place-test.false c.loop-place.invariant.put
