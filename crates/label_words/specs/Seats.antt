-- What is so of every seat between two calls. No promise to callers.
use Rattle.std.specs.Prelude.{◌≡◌, ◌<◌, ◌≤◌}
use Rattle.csr_graph.specs.Graph.{Graph, IsInRows, end_place}
use Rattle.relax_core.specs.declared.views.Hand.{Hand}
use Rattle.relax_core.specs.declared.views.Hand.TheVariants.{Idle, Kept, Fresh, Open, Owe}
use Rattle.relax_core.specs.declared.views.View.{View}
use Rattle.relax_core.specs.declared.views.TheConstants.{SHARES}
use Rattle.relax_core.specs.Views.{HasCredits}
use Rattle.label_words.specs.declared.known.Known.{Known}
use Rattle.label_words.specs.Layout.{word_count}
use Rattle.atomic_table.specs.Seated.{TableId}

-- what a hand holds is in the graph
abbrev pub FitsGraph : Graph → Hand → Type 0
FitsGraph graph Idle = Unit {0}
FitsGraph graph Kept = Unit {0}
FitsGraph graph (Fresh u) = u < graph.n
FitsGraph graph (Open u d k) = (u < graph.n) × (k ≤ end_place graph.arcs u)
FitsGraph graph (Owe u d k head) = (u < graph.n) × (k ≤ end_place graph.arcs u) × (head < graph.n)

-- a seat that may step: its hand is in its graph, its credits fit its hand, and it has a share
pub record IsReady (known : Known) : Type 0 where
  pub rows : IsInRows known.graph
  pub hand : FitsGraph known.graph known.view.hand
  pub credits : HasCredits known.view.hand known.view.credits
  pub share : 1 ≤ known.view.share
  pub shares : known.view.share ≤ SHARES

-- a seat's view is the one that its words know, and it fits them
pub record IsTied (words : TableId) (known : Known) (view : View) : Type 0 where
  pub view_is : view ≡ known.view
  pub count : words.words ≡ word_count known.graph.n
  pub no_slots : words.slots ≡ 0
  pub ready : IsReady known
