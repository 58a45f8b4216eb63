use Rattle.std.proofs.Common.{◌∷◌, [], ◌<◌, ◌≢◌, length, sym, ap, arith, below_more, get_or-set_other, get_or-set_same}
use Rattle.std.proofs.Common.{length-append, length-set}
use Rattle.std.specs.Prelude.{nat_lt}
use Rattle.std.specs.Slots.{slots_items}
use Rattle.label_words.specs.Closed.{IsLabelOf}
use Rattle.label_words.proofs.Ends.{word_is, one_label_more}
use Rattle.label_words.proofs.closed.read_words.Goals as goal

pub loop-v-preserved : goal.loop-v-preserved
loop-v-preserved c =
    let words = slots_items c.args.last.now.words in
    let labels = c.loop-v.labels.items in
    let word = word_is c.args.last.now.words.items c.label_word.result c.word.result c.word.ensures in
    let mark = word_is c.args.last.now.words.items c.mark_word.result c.word-in-loop-v.result c.word-in-loop-v.ensures in
    let pushed = c.push_reserved.ensures.items in
    let is : IsLabelOf words (length labels) c.word.result =
    rw c.loop-v.invariant.0 (sym (rw c.label_word.ensures at word), omega arith) in (
      omega (arith, ap length pushed, length-append labels (c.word.result ∷ []), c.loop-v.invariant.0),
      omega (
        arith,
        c.loop-v.invariant.1,
        c.push_reserved.ensures.capacity,
        length-set c.loop-v.marks c.loop-v.v (nat_lt 0 c.word-in-loop-v.result),
      ),
      rw pushed (one_label_more words labels c.word.result c.loop-v.invariant.2 is),
      below_more _ _
          (λ v below. let other : v ≢ c.loop-v.v = omega arith in rw get_or-set_other (c.loop-v.invariant.3 v below))
          (let within : c.loop-v.v < length c.loop-v.marks = omega arith in
          rw get_or-set_same (ap (nat_lt 0) (sym (rw c.mark_word.ensures at mark)))),
    )
