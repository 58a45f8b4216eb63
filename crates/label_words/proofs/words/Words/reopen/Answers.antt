-- The words that were laid from the pause keep the rule.
use Rattle.std.proofs.Common.{◌≡◌, ◌∙◌, ap, [], ℕ}
use Rattle.std.specs.declared.vec.Vec.{Vec}
use Rattle.std.specs.declared.alloc.Global.{Global}
use Rattle.route_walks.specs.declared.graph.Seed.{Seed}
use Rattle.label_words.specs.Paused.{Rest, CanGoOn}
use Rattle.label_words.specs.Rule.{IsLaid}
use Rattle.label_words.specs.Sown.{state_of}
use Rattle.label_words.proofs.Resumes.{rest_words_lawful}
use Rattle.label_words.proofs.words.Words.reopen.Goals as goal

pub begin-requires : goal.begin-requires
begin-requires c =
    let none : c.of-2.result.value.items ≡ [] =
    ap (λ (v : Vec Seed Global). v.items) c.of-2.ensures ∙ c.new-none.ensures.items in
    let labels : c.of-3.result.value.items ≡ c.rest.inside.labels.items =
    ap (λ (v : Vec ℕ Global). v.items) c.of-3.ensures in
    let rest : Rest = record { labels = c.rest.inside.labels.items; marks = c.rest.inside.marks.items } in
    let going : CanGoOn c.args.csr.now rest = rw (← c.rest.view_is) at c.requires in
    let laid : IsLaid (state_of rest) c.args.csr.now.n c.in_ok-words.words.items =
    rw (c.deref.ensures.value, c.deref-2.ensures.value, c.n.ensures.vertices) at c.in_ok-words.ensures in
    rw (c.of.ensures, none, labels)
    (rest_words_lawful c.args.csr.now rest c.in_ok-words.words.items c.n.ensures.in_rows going laid)
