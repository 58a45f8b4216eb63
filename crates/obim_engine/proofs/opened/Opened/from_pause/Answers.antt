-- The seeds are the labels below INF, at vertices of the graph.
use Rattle.std.proofs.Common.{ap, sym, subst, ℕ}
use Rattle.route_walks.specs.Operators.{seeds_of}
use Rattle.route_walks.specs.Walk.{AreSeeds}
use Rattle.route_walks.proofs.Facts.{labels-are_seeds}
use Rattle.label_words.specs.declared.known.Known.{Known}
use Rattle.label_words.specs.Known.{Held}
use Rattle.obim_engine.proofs.opened.Opened.from_pause.Goals as goal

pub invariant_of-result : goal.invariant_of-result
invariant_of-result c =
    let seat = c.in_ok-words.ensures.seat in
    let labels = c.args.rest.labels in
    let within : AreSeeds c.args.csr.now.n (seeds_of labels) =
    subst (λ (n : ℕ). AreSeeds n (seeds_of labels)) c.requires.labels (labels-are_seeds labels) in
    record {
      words_are = ap (λ (s : Held). s.words) seat;
      shares = ap (λ (s : Held). s.known.view.share) seat;
      seeds_are = subst (λ (k : Known). AreSeeds k.graph.n k.seeds) (sym (ap (λ (s : Held). s.known) seat)) within;
      only_is = tt;
    }
