-- The bag was looked into, since it is below.
use Rattle.std.proofs.Common.{◌≡◌, ◌≢◌, ◌∙◌, sym, ℕ, ◌<◌, [], Some, get_or, arith}
use Rattle.obim_bags.proofs.Facts.{prefix_get}
use Rattle.obim_pool.specs.Sides.{HasLookedBelow, IsOwn, Keeps, SideSeen}
use Rattle.obim_bags.proofs.Facts.{some_then}
use Rattle.worklist_tests.proofs.pools.callers.pop_onwards.Goals as goal

bare_behind : (old new : SideSeen) → Keeps old new → HasLookedBelow old new → (place metric higher : ℕ)
    → IsOwn place metric old
    → old.current ≡ Some metric → new.current ≡ Some higher → metric < higher → get_or new.held place [] ≡ []
bare_behind old new keeps below place metric higher own was is less =
    let apart : new.current ≢ old.current = λ same.
    let one : Some higher ≡ Some metric = sym is ∙ (same ∙ was) in
    let metrics : higher ≡ metric = cc one in
    omega (arith, metrics, less) in
    let still : IsOwn place metric new =
    (omega (arith, own.0, keeps.own), prefix_get _ _ place metric keeps.bags own.1) in
    (below higher is apart place metric still less).bare

pub returns-clause-bare : goal.returns-clause-bare
returns-clause-bare g c =
    some_then _ _ c.pop.result
    (λ v below. bare_behind c.args.side.now c.pop.new.side c.pop.ensures.keeps below) c.pop.ensures.below
