-- What the seat that closed the words says of what was read.
use Rattle.std.proofs.Common.{◌≡◌, ◌∙◌, sym, ap, arith, inl, inr, length}
use Rattle.std.proofs.lemmas.List.{with_items_is}
use Rattle.label_words.proofs.Ends.{ended, half_of, least_closed, pause_closed}
use Rattle.label_words.proofs.words.Words.close.Goals as goal
use Rattle.label_words.proofs.words.Words.close.Goals.{then-seat, else-seat}

pub returns-then-view-clause-closed : goal.returns-then-view-clause-closed
returns-then-view-clause-closed c =
    let tie = c.seat.invariant.0 in
    let me = c.seat.inside.table_seat.me.0 in
    let same = rw (← c.seat.view_is, ← c.self.view_is) at c.requires.words in
    let n = c.vertex_count-n.ensures ∙ half_of c.word_count.result me.graph.n (omega (arith, ap (λ t. t.words) same)) in
    let final = c.close_with-last.ensures.values.2 in
    let end = ended _ final.1.0 final.1.1 final.2 tie.ready in
    let labels = c.read_labels.new.labels.items in
    let all : length labels ≡ me.graph.n = omega (arith, c.read_labels.ensures.count) in
    let saw = ap (λ v. v.saw) (sym tie.view_is) ∙ c.if-view.true in
    rw (← c.seat.view_is) (saw, all, least_closed _ end all c.read_labels.ensures.labels saw)

pub returns-else-view-clause-closed : goal.returns-else-view-clause-closed
returns-else-view-clause-closed c =
    let tie = c.seat.invariant.0 in
    let me = c.seat.inside.table_seat.me.0 in
    let same = rw (← c.seat.view_is, ← c.self.view_is) at c.requires.words in
    let n = c.vertex_count-n.ensures ∙ half_of c.word_count.result me.graph.n (omega (arith, ap (λ t. t.words) same)) in
    let final = c.close_with-last.ensures.values.2 in
    let labels = c.read_words.new.labels.items in
    let end = ended _ final.1.0 final.1.1 final.2 tie.ready in
    let room : c.if-seat.vec ≡ c.vertex_count-n.result =
    elim c.if-seat.branch [
      | then-seat w ↦ cc
      | else-seat w ↦ w.vec-is
    ] in
    let all : length labels ≡ me.graph.n = omega (arith, c.read_words.ensures.count, room, c.in_ok-marks.ensures.len) in
    let all' : length c.read_words.new.marks ≡ me.graph.n = omega (arith, c.in_ok-marks.ensures.len) in
    let unseen = ap (λ v. v.saw) (sym tie.view_is) ∙ c.if-view.false in
    let share = elim (rw (← c.seat.view_is) at c.requires.done) as (λ _. me.view.share ≡ 65536) [
      | inl saw ↦ cc
      | inr share ↦ share
    ] in
    let idle = rw (← c.seat.view_is) at c.requires.idle in
    rw (← c.seat.view_is, with_items_is c.in_ok-marks.marks c.read_words.new.marks (omega arith))
    (unseen, pause_closed _ _ end all c.read_words.ensures.labels all' c.read_words.ensures.marks idle share)
