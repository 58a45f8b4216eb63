use Rattle.job_answer.specs.Tasks.{IsWalkedBlock}
use Rattle.job_answer.proofs.BlockLists.{blocks-all, blocks-none, blocks-on}
use Rattle.job_answer.proofs.output.walked_pairs.put_all_lines.Goals as goal

pub loop-first-init : goal.loop-first-init
loop-first-init g c = record {
  put = blocks-none (IsWalkedBlock c.args.tasks.now.queries.graphs.now) g.W.Write.contents c.args.sink.now;
  made = c.requires.made;
}

pub loop-first-preserved : goal.loop-first-preserved
loop-first-preserved g c = record {
  put =
      blocks-on (IsWalkedBlock c.args.tasks.now.queries.graphs.now) g.W.Write.contents c.args.tasks.now.queries.pairs.now
      c.loop-first.first _ c.loop-first.invariant.put c.put_lines_at-first.ensures.blocks;
  made = c.put_lines_at-first.ensures.left;
}

pub returns : goal.returns
returns g c =
    blocks-all (IsWalkedBlock c.args.tasks.now.queries.graphs.now) g.W.Write.contents c.args.tasks.now.queries.pairs.now
    c.loop-first.first c.loop-first-test.false c.loop-first.invariant.put
