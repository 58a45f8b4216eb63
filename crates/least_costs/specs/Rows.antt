-- What a network keeps beside its arcs: the rows of its reversed arcs, its landmarks and its hierarchy.
use Rattle.std.specs.Prelude.{◌≡◌, IfSome, Option}
use Rattle.near_labels.specs.Meeting.{AreAtLeast, IsReversed}
use Rattle.least_costs.specs.Landmarks.{LandmarksSeen}
use Rattle.least_costs.specs.Network.{IsNetwork, NetworkSeen, graph_of}
use Rattle.least_costs.specs.declared.network.reversed.Reversed.{Reversed}
use Rattle.least_costs.specs.declared.network.shortcuts.Shortcuts.{Shortcuts}

-- the rows of a network's reversed arcs, with a weight that none of them is below
pub record AreReversedRows (net : NetworkSeen) (reversed : Reversed) : Type 0 where
  pub turned : IsReversed (graph_of net) reversed.rows
  pub least : AreAtLeast reversed.least_weight reversed.rows.arcs

-- a hierarchy of a network, if it has one
abbrev pub AreShortcutsOf : NetworkSeen → Shortcuts → Type 0
AreShortcutsOf net shortcuts = IfSome shortcuts.hierarchy (λ h. h.graph ≡ graph_of net)

-- the rows of a network, those of its reversed arcs, its landmarks and its hierarchy, if these were made
pub record AreRowsOf (net : NetworkSeen) (reversed : Option Reversed) (landmarks : Option LandmarksSeen)
    (shortcuts : Option Shortcuts) : Type 0 where
  pub network : IsNetwork net
  pub turned : IfSome reversed (AreReversedRows net)
  pub told : IfSome landmarks (λ l. l.graph ≡ graph_of net)
  pub contracted : IfSome shortcuts (AreShortcutsOf net)
