use Rattle.std.proofs.Common.{◌∙◌, ◌<◌, ◌^◌, ℕ, [], ◌∷◌, ◌++◌, ap, sym, map, take, get_or}
use Rattle.std.proofs.lemmas.List.{map-append, take_more}
use Rattle.std.proofs.lemmas.List.Elements.{All-append, All-cons, All-nil}
use Rattle.csr_graph.specs.Removal.{key_of}
use Rattle.csr_graph.proofs.changes.keys_of.Goals as goal

pub loop-tail-preserved : goal.loop-tail-preserved
loop-tail-preserved c =
    let pairs = c.args.pairs.now in
    let i = c.loop-tail.tail-index in
    let none : ℕ × ℕ = (0, 0) in
    let P = λ (pair : ℕ × ℕ). pair.1 < 2 ^ 32 in
    rw (take_more pairs i none c.loop-tail-test.true)
    (record {
      keys =
          c.in_ok-push.ensures.items
          ∙ ap (λ keys. keys ++ c.key_of.result ∷ []) c.loop-tail.invariant.keys
          ∙ ap (λ key. map key_of (take i pairs) ++ key ∷ []) c.key_of.ensures.key
          ∙ sym (map-append key_of (take i pairs) (get_or pairs i none ∷ []));
      heads =
          All-append P (take i pairs) _ c.loop-tail.invariant.heads
          (All-cons P _ [] c.key_of.ensures.head (All-nil P));
    })
