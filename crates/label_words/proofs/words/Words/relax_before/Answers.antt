-- The rule allows the step, and the seat goes along the next arc of its row.
use Rattle.std.proofs.Common.{◌∙◌, sym, ap, refl, arith}
use Rattle.std.proofs.lemmas.Bool.{lt-ltb, le-ltb}
use Rattle.csr_graph.specs.Graph.{end_place}
use Rattle.relax_core.proofs.Facts.{head_in}
use Rattle.relax_core.specs.Views.{vertex_of}
use Rattle.label_words.specs.Known.{after_relax}
use Rattle.label_words.proofs.Moves.{relax_allowed}
use Rattle.label_words.proofs.Ties.{tied, faces, faces_within}
use Rattle.label_words.proofs.words.Words.relax_before.Goals as goal
use Rattle.label_words.proofs.words.Words.relax_before.Goals.{then-label-found, else-label-found}

pub target-head-requires : goal.target-head-requires
target-head-requires c =
    let tie = c.seat.invariant.0 in
    let hand = ap (λ v. v.hand) (sym tie.view_is) ∙ c.in-Open.is in
    let end = rw (← c.seat.view_is) at c.requires.end ∙ ap (λ h. end_place c.args.csr.now.arcs (vertex_of h)) hand in
    faces_within (rw (← c.seat.view_is) at c.requires.graph) hand tie.ready.hand end c.if-k-end.false

pub fetch_min-found-requires : goal.fetch_min-found-requires
fetch_min-found-requires c =
    let tie = c.seat.invariant.0 in
    let hand = ap (λ v. v.hand) (sym tie.view_is) ∙ c.in-Open.is in
    let end = rw (← c.seat.view_is) at c.requires.end ∙ ap (λ h. end_place c.args.csr.now.arcs (vertex_of h)) hand in
    let face = faces _ (rw (← c.seat.view_is) at c.requires.graph) hand
    tie.ready.hand end c.if-k-end.false c.target-head.ensures.head c.target-head.ensures.weight
    c.offer-label.ensures in
    let same = rw (← c.seat.view_is, ← c.self.view_is) at c.requires.words in
    let known = c.seat.inside.table_seat.me.0 in
    let within = head_in known.graph known.view.hand tie.ready.rows face.before in
    let row = rw (← c.seat.view_is) at c.requires.open in
    let allowed = relax_allowed _ _ _ tie.ready row face.before face.heads face.offers in
    rw c.label_word.ensures (same, omega (arith, ap (λ t. t.words) same), allowed _ _ _ _)

pub invariant_of-seat : goal.invariant_of-seat
invariant_of-seat c =
    let tie = c.seat.invariant.0 in
    let hand = ap (λ v. v.hand) (sym tie.view_is) ∙ c.in-Open.is in
    let end = rw (← c.seat.view_is) at c.requires.end ∙ ap (λ h. end_place c.args.csr.now.arcs (vertex_of h)) hand in
    let face = faces _ (rw (← c.seat.view_is) at c.requires.graph) hand
    tie.ready.hand end c.if-k-end.false c.target-head.ensures.head c.target-head.ensures.weight
    c.offer-label.ensures in (
      tied c.fetch_min-found.new.seat.me tie c.fetch_min-found.ensures.0
          (ap (λ me. me.0) c.fetch_min-found.ensures.2.0) refl
          (rw (c.relax.ensures, face.offers, face.heads, tie.view_is) refl) c.fetch_min-found.ensures.2.1,
      ap (λ me. me.1) c.fetch_min-found.ensures.2.0 ∙ c.seat.invariant.1,
    )

pub returns : goal.returns
returns c =
    let tie = c.seat.invariant.0 in
    let hand = ap (λ v. v.hand) (sym tie.view_is) ∙ c.in-Open.is in
    let end = rw (← c.seat.view_is) at c.requires.end ∙ ap (λ h. end_place c.args.csr.now.arcs (vertex_of h)) hand in
    let face = faces _ (rw (← c.seat.view_is) at c.requires.graph) hand
    tie.ready.hand end c.if-k-end.false c.target-head.ensures.head c.target-head.ensures.weight
    c.offer-label.ensures in
    let step = ap (λ me. me.0) c.fetch_min-found.ensures.2.0 in
    elim c.if-label-found.branch [
      | then-label-found w ↦
          let less = rw (← face.offers) at w.if-label-found.true in
          let fell = step ∙ ap (λ b. after_relax b c.seat.inside.table_seat.me.0) (lt-ltb _ _ less) in
          let attained = c.fetch_min-found.ensures.2.2 less in
          rw (← c.seat.view_is, w.result-is) (record {
            words = c.fetch_min-found.ensures.0;
            step = (face.before, sym face.heads, sym face.offers, fell);
            attained = rw (face.heads, face.offers) at attained;
          })
      | else-label-found w ↦
          let stays = le-ltb _ _ (rw face.offers w.if-label-found.false) in
          rw (← c.seat.view_is, w.result-is) (record {
            words = c.fetch_min-found.ensures.0;
            step = (face.before, step ∙ ap (λ b. after_relax b c.seat.inside.table_seat.me.0) stays);
            attained = tt;
          })
    ]
