use Rattle.std.proofs.Common.{◌∙◌, ap, sym}
use Rattle.std.specs.Prelude.{◌==◌}
use Rattle.std.specs.List.{list_any}
use Rattle.csr_graph.proofs.Removals.{search_tells}
use Rattle.csr_graph.proofs.changes.is_keyed.Goals as goal

pub returns : goal.returns
returns c rising weight =
    c.is_ok.ensures.value
    ∙ sym (search_tells c.args.keys.now c.key_of.result c.binary_search.result rising c.binary_search.ensures.position)
    ∙ ap (λ one. list_any (λ k. k == one) c.args.keys.now) c.key_of.ensures.key
