-- Another column stays, and in this one another vertex.
use Rattle.std.proofs.Common.{◌∙◌, ◌+◌, ◌*◌, ◌<◌, ℕ, arith, inl, inr, length, set, subst, sym}
use Rattle.std.specs.Prelude.{slice_index}
use Rattle.std.proofs.lemmas.Bool.{cases_eq}
use Rattle.std.proofs.lemmas.List.{get_or-set_other, get_or-set_same, length-set}
use Rattle.std.proofs.lemmas.Nat.{mul-add-lt, same_from_place}
use Rattle.least_costs.specs.Landmarks.{IsCell, column}
use Rattle.least_costs.proofs.network.landmarks.put_column.Goals as goal

pub loop-v-preserved : goal.loop-v-preserved
loop-v-preserved c =
    let cells = c.loop-v.cells in
    let labels = c.args.labels.now in
    let v = c.loop-v.v in
    let count = c.args.count in
    let at = c.args.at in
    let place = v * count + at in
    let unit = c.args.unit in
    let label = slice_index labels v in
    let cell = c.cell_of.result in
    let new = set cells place cell in
    let inside : place < length cells =
    omega (
      arith,
      mul-add-lt v count at (length labels) c.loop-v-test.true c.requires.place,
      c.loop-v.invariant.room,
      c.requires.room,
    ) in
    record {
      room = length-set cells place cell ∙ c.loop-v.invariant.room;
      put = λ w below.
          elim (cases_eq w v) [
            | inl is ↦
                subst (λ (k : ℕ). IsCell unit (column count new at k) (slice_index labels k)) (sym is)
                (subst (λ (x : ℕ). IsCell unit x label) (sym (get_or-set_same cells place cell 0 inside)) c.cell_of.ensures)
            | inr other ↦
                subst (λ (x : ℕ). IsCell unit x (slice_index labels w))
                (sym (get_or-set_other cells place (w * count + at) cell 0
                (λ e. other (same_from_place w at v at count c.requires.place c.requires.place e).0)))
                (c.loop-v.invariant.put w (omega (arith, below, other)))
          ];
      others = λ i w i-in differs.
          get_or-set_other cells place (w * count + i) cell 0
          (λ e. differs (same_from_place w i v at count i-in c.requires.place e).1)
          ∙ c.loop-v.invariant.others i w i-in differs;
    }
