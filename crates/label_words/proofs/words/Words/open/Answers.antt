-- The words that were laid keep the rule.
use Rattle.std.proofs.Common.{◌≡◌, ◌∙◌, ap, List, [], ◌++◌, ℕ}
use Rattle.std.proofs.lemmas.List.{append-nil}
use Rattle.std.specs.declared.vec.Vec.{Vec}
use Rattle.std.specs.declared.alloc.Global.{Global}
use Rattle.route_walks.specs.declared.graph.Seed.{Seed}
use Rattle.label_words.proofs.Sowing.{sown_lawful}
use Rattle.label_words.proofs.words.Words.open.Goals as goal

pub begin-requires : goal.begin-requires
begin-requires c =
    let seeds : c.of-2.result.value.items ≡ c.args.seeds.now =
    ap (λ (v : Vec Seed Global). v.items) c.of-2.ensures
    ∙ c.in_ok-extend_from_slice.ensures.items
    ∙ ap (λ (xs : List Seed). xs ++ c.args.seeds.now) c.in_ok-copy.ensures.items in
    let none : c.of-3.result.value.items ≡ [] =
    ap (λ (v : Vec ℕ Global). v.items) c.of-3.ensures ∙ c.new-none.ensures.items in
    rw (c.of.ensures, seeds, none, append-nil c.args.seeds.now)
    (sown_lawful c.args.csr.now c.args.seeds.now c.in_ok-words.words.items c.n.ensures.in_rows
    (rw c.n.ensures.vertices at c.in_ok-words.ensures))
