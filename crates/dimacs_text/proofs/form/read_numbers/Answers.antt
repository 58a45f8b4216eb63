use Rattle.std.proofs.Common.{◌≡◌, true, false, refl, Ok, ◌∙◌, get_or, drop, ◌∷◌, ◌+◌, take, sym, ap₂, arith}
use Rattle.std.proofs.lemmas.Grind.{common_steps}
use Rattle.std.proofs.lemmas.List.{drop_more, take_more_set, length-set, length-replicate}
use Rattle.dimacs_text.specs.Lines.{fields}
use Rattle.dimacs_text.specs.Forms.{numbers_within}
use Rattle.dimacs_text.proofs.FormLemmas.{said_after, said_first, said_no_number, said_number, said_within}
use Rattle.dimacs_text.proofs.FormLemmas.{are_within}
use Rattle.dimacs_text.proofs.form.read_numbers.Goals as goal
use Rattle.dimacs_text.proofs.form.read_numbers.Goals.{in-None, in-Some-number_of, in-Some-2}

pub loop-i-init : goal.loop-i-init
loop-i-init g c = record {
  said = said_first c.args.limits (fields c.args.args.now);
  count = length-replicate g.row.N 0;
}

pub loop-i-preserved : goal.loop-i-preserved
loop-i-preserved g c =
    let i = c.loop-i.i in
    let wrong = c.loop-i.wrong in
    let before = take i c.loop-i.numbers in
    let limit = get_or c.args.limits i (record { least = 0; most = 0 }) in
    let limits = drop (i + 1) c.args.limits in
    let field = c.in-Some.field.now in
    let after = fields c.in-Some.after.now in
    let here : numbers_within c.args.limits (fields c.args.args.now)
    ≡ said_after wrong before (limit ∷ limits) (field ∷ after) =
    c.loop-i.invariant.said
    ∙ ap₂ (λ ls fs. said_after wrong before ls fs)
    (drop_more c.args.limits i _ (omega arith)) c.in-Some.ensures.fields in
    elim c.match-number_of.branch [
      | in-None w ↦ record {
        said = rw w.wrong-is
            (here ∙ said_no_number wrong before
            (take (i + 1) c.match-number_of.numbers) limit limits field after w.in-None.ensures);
        count = rw w.numbers-is c.loop-i.invariant.count;
      }
      | in-Some-number_of w ↦ record {
        said =
            rw w.wrong-is
            (here ∙ said_number true wrong before _ limit limits w.in-Some-number_of.value field after
            w.admits.ensures.fits w.in-Some-number_of.ensures (sym w.admits.ensures.admits ∙ w.if-admits.true)
            (λ _. rw (w.numbers-is, take_more_set c.loop-i.numbers i w.in-Some-number_of.value (omega arith)) refl));
        count = rw (w.numbers-is, length-set) c.loop-i.invariant.count;
      }
      | in-Some-2 w ↦ record {
        said =
            rw (w.wrong-is, w.or-wrong.ensures)
            (here ∙ said_number false wrong before _ limit limits w.in-Some-number_of.value field after
            w.admits.ensures.fits w.in-Some-number_of.ensures (sym w.admits.ensures.admits ∙ w.if-admits.false)
            (λ e. cc));
        count = rw w.numbers-is c.loop-i.invariant.count;
      }
    ]

pub returns-in-None-wrong : goal.returns-in-None-wrong
returns-in-None-wrong g c =
    let said : Ok c.loop-i.numbers ≡ numbers_within c.args.limits (fields c.args.args.now) =
    grind (arith, common_steps) in record {
      says = said;
      within =
          are_within c.args.limits c.loop-i.numbers
          (said_within c.args.limits (fields c.args.args.now) c.loop-i.numbers (sym said));
    }
