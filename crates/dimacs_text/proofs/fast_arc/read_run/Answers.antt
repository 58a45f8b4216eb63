use Rattle.std.proofs.Common.{◌+◌, drop, subst, sym, arith}
use Rattle.dimacs_text.specs.reader.Drafts.{ReadsArcs}
use Rattle.dimacs_text.proofs.ArcRunLemmas.{no_arcs_read}
use Rattle.dimacs_text.proofs.DraftLemmas.{one_arc_more}
use Rattle.dimacs_text.proofs.fast_arc.read_run.Goals as goal

pub loop-count-init : goal.loop-count-init
loop-count-init c = record {
  place = omega arith;
  inside = c.requires.inside;
  few = omega arith;
  room = omega (arith, c.requires.room);
  reads = no_arcs_read c.args.vertices (drop c.args.start c.args.bytes.now) c.args.arcs.now.items;
}

pub loop-count-preserved : goal.loop-count-preserved
loop-count-preserved c =
    let bytes = c.args.bytes.now in
    let so_far = c.loop-count.invariant in
    let place = c.in-Some.ensures.place in
    record {
      place = let before = so_far.place in omega arith;
      inside = place.1;
      few = let more = c.loop-count-test.true in omega arith;
      room =
          let room = so_far.room in
          let len = c.push_reserved.ensures.len in let capacity = c.push_reserved.ensures.capacity in omega arith;
      reads =
          subst
          (λ arcs. ReadsArcs c.args.vertices (drop c.args.start bytes) c.args.arcs.now.items arcs
          (c.loop-count.count + 1) (drop c.in-Some.after bytes)) (sym c.push_reserved.ensures.items)
          (one_arc_more c.args.vertices (drop c.args.start bytes) c.args.arcs.now.items c.loop-count.arcs.items
          c.loop-count.count (drop c.loop-count.at bytes) (drop c.in-Some.after bytes) c.in-Some.arc so_far.reads
          c.in-Some.ensures.line);
    }
