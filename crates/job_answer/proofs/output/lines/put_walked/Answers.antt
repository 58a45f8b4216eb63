-- One entry more, with its walk.
use Rattle.std.proofs.Common.{◌≡◌, ◌∙◌, ◌<◌, ℕ, [], ap, arith, length, refl, sym}
use Rattle.std.specs.Prelude.{slice_index_or}
use Rattle.std.specs.declared.vec.Vec.{Vec}
use Rattle.std.specs.declared.alloc.Global.{Global}
use Rattle.std.proofs.lemmas.List.{get_or-map}
use Rattle.walk_report.specs.Told.{walks_in}
use Rattle.answer_lines.specs.Lines.{source_text}
use Rattle.job_answer.proofs.Listed.{listed_text-next}
use Rattle.job_answer.proofs.Sinks.{lacks-more, puts-line}
use Rattle.job_answer.proofs.output.lines.put_walked.Goals as goal

pub loop-place-init : goal.loop-place-init
loop-place-init g c = λ text are. record { text = source_text c.args.source; is = refl; put = c.put_first.ensures }

pub loop-place-preserved : goal.loop-place-preserved
loop-place-preserved g c =
    λ text are.
    let found = c.args.found.now in
    let walks = c.args.walks.now in
    let k = c.loop-place.place in
    let here = c.loop-place-test.true in
    let inside : k < length walks = omega (arith, here, c.requires.count) in
    let walk-is : slice_index_or (walks_in walks) k [] ≡ c.deref.result.now =
    get_or-map (λ (v : Vec ℕ Global). v.items) walks k c.index-walks-place.result [] inside
    ∙ sym (ap (λ (v : Vec ℕ Global). v.items) c.index-walks-place.is) ∙ sym c.deref.ensures.value in
    lacks-more g.W.Write.contents
    (rw (listed_text-next text found k here, are k here, walk-is) at (c.loop-place.invariant text are))
    (puts-line g.W.Write.contents c.loop-place.sink _ _ c.put_found_vertex-put.result c.put_found_vertex-put.ensures.put refl refl
    refl refl c.end.ensures)
