-- What was gone is counted in, and so is what the rows have.
use Rattle.std.proofs.Common.{◌≡◌, ◌∙◌, subst}
use Rattle.std.specs.Prelude.{Contains}
use Rattle.std.proofs.lemmas.List.Elements.{All-contains_itself, All-weaker, Contains-append_right}
use Rattle.csr_graph.specs.Graph.{Graph}
use Rattle.least_costs.specs.Landmarks.{AreAmong, counted_in}
use Rattle.least_costs.proofs.Covering.{among-left}
use Rattle.least_costs.proofs.network.landmarks.Landmarks.gone_after.Goals as goal

pub loop-pair-init : goal.loop-pair-init
loop-pair-init c =
    let inside = c.self.inside in
    let gone = inside.gone.items in
    let copied : c.in_ok-gone.gone.items ≡ gone =
    c.in_ok-gone.ensures.items_if_clones_equal (λ _ _ same. same) ∙ c.deref.ensures.value in
    rw (copied, ← c.self.view_is)
    (All-weaker (Contains gone) _ (λ arc within. Contains-append_right inside.of.value.arcs gone arc within) gone
    (All-contains_itself gone))

pub loop-pair-preserved : goal.loop-pair-preserved
loop-pair-preserved c =
    let seen = c.args.self.now in
    c.note_between.ensures (counted_in seen)
    (subst (λ (graph : Graph). AreAmong (counted_in seen) graph.arcs) c.requires (among-left seen.graph.arcs seen.gone))
    c.loop-pair.invariant
