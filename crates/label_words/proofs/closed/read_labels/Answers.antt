use Rattle.std.proofs.Common.{◌∷◌, [], length, sym, ap, arith}
use Rattle.std.proofs.Common.{length-append}
use Rattle.std.specs.Slots.{slots_items}
use Rattle.label_words.specs.Closed.{IsLabelOf}
use Rattle.label_words.proofs.Ends.{word_is, one_label_more}
use Rattle.label_words.proofs.closed.read_labels.Goals as goal

pub loop-v-preserved : goal.loop-v-preserved
loop-v-preserved c =
    let words = slots_items c.args.last.now.words in
    let labels = c.loop-v.labels.items in
    let word = word_is c.args.last.now.words.items c.label_word.result c.word.result c.word.ensures in
    let pushed = c.push_reserved.ensures.items in
    let is : IsLabelOf words (length labels) c.word.result =
    rw c.loop-v.invariant.0 (sym (rw c.label_word.ensures at word), omega arith) in (
      omega (arith, ap length pushed, length-append labels (c.word.result ∷ []), c.loop-v.invariant.0),
      omega (arith, c.loop-v.invariant.1, c.push_reserved.ensures.capacity),
      rw pushed (one_label_more words labels c.word.result c.loop-v.invariant.2 is),
    )
