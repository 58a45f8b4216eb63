use Rattle.std.proofs.Common.{◌≡◌, ◌∙◌, ap, sym, arith}
use Rattle.dimacs_text.specs.declared.form.Section.TheVariants.{Problem}
use Rattle.dimacs_text.specs.declared.stage.Stage.TheVariants.{Within}
use Rattle.dimacs_text.specs.reader.Drafts.{Progress, progress_of, records_by, arcs_progress}
use Rattle.dimacs_text.proofs.ArcRunLemmas.{arcs_lead}
use Rattle.dimacs_text.proofs.draft.Draft.read_arcs.Goals as goal

pub returns-clause-reads : goal.returns-clause-reads
returns-clause-reads c line =
    let ready = c.room_for_arcs-room.new.self in
    let same = c.room_for_arcs-room.ensures.same in
    let stage : ready.stage ≡ Within Problem c.in-Some.missing =
    ap (λ (p : Progress). p.stage) same ∙ c.in-Some.ensures.some in
    let start : arcs_progress ready.vertices c.in-Some.missing ready.arcs.items ≡ progress_of c.args.self.now =
    ap
    (λ s.
    record {
      records =
          records_by s ready.before_added ready.vertices ready.arcs.items ready.sources.items ready.pairs.items
          ready.added.items;
      stage = s;
      vertices = ready.vertices;
    }) (sym stage)
    ∙ same in
    rw (c.from.ensures, ← start)
    (arcs_lead _ _ _ _ _ _ c.in-Some.missing line c.read_run-count.ensures.reads
    (omega (arith, c.read_run-count.ensures.few, c.room_for_arcs-room.ensures.missing)))
