use Rattle.std.proofs.Common.{[]}
use Rattle.std.proofs.lemmas.List.Elements.{All-nil}
use Rattle.least_costs.proofs.Facts.{for-same}
use Rattle.least_costs.specs.Costs.{IsUnreached}
use Rattle.least_costs.specs.declared.start.Start.TheVariants.{At}
use Rattle.cost_examples.specs.Spares.{AreNearest}
use Rattle.cost_examples.specs.declared.choice.Choices.TheVariants.{Nowhere}
use Rattle.cost_examples.proofs.spare.nowhere.Goals as goal

pub returns : goal.returns
returns c net =
    rw (c.in_ok-vec.ensures.items_if_clones_equal (λ y same. same))
    (for-same (λ v choice. AreNearest net v [] choice) c.args.customers.now Nowhere
    (λ v. All-nil (λ depot. IsUnreached net (At depot) v)))
