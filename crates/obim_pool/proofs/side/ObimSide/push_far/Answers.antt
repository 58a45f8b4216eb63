use Rattle.std.proofs.Common.{refl, [], ◌∷◌}
use Rattle.obim_pool.specs.Accounts.{Puts}
use Rattle.obim_pool.specs.Sides.{Keeps, PushesTo}
use Rattle.obim_pool.proofs.Lifting.{changed_here}
use Rattle.obim_pool.proofs.Standing.{at_changes, keeps_changes, of_sides, pushes_none, pushes_to, side_changes}
use Rattle.obim_pool.proofs.Standing.{side_grows}
use Rattle.obim_pool.proofs.side.ObimSide.push_far.Goals as goal

pub invariant_of-self-then-not-pushed : goal.invariant_of-self-then-not-pushed
invariant_of-self-then-not-pushed g c =
    let change = changed_here
    (Puts []) _ _ c.in-Some.ensures.own.0 c.index_mut.ensures.value c.if-not-pushed.ensures.refused in
    side_changes (side_grows c.self.invariant c.in-Some.ensures.grows c.in-Some.ensures.order) change

pub returns-then-not-pushed-clause-keeps : goal.returns-then-not-pushed-clause-keeps
returns-then-not-pushed-clause-keeps g c =
    let change = changed_here
    (Puts []) _ _ c.in-Some.ensures.own.0 c.index_mut.ensures.value c.if-not-pushed.ensures.refused in
    of_sides Keeps _ _ c.self.view_is refl refl (keeps_changes _ _ c.in-Some.ensures.grows change)

pub returns-then-not-pushed-clause-refused : goal.returns-then-not-pushed-clause-refused
returns-then-not-pushed-clause-refused g c =
    let change = changed_here
    (Puts []) _ _ c.in-Some.ensures.own.0 c.index_mut.ensures.value c.if-not-pushed.ensures.refused in
    pushes_none _ c.self.view_is c.in-Some.ensures.grows change

pub invariant_of-self-2 : goal.invariant_of-self-2
invariant_of-self-2 g c =
    let change = changed_here
    (Puts (c.args.v ∷ [])) _ _ c.in-Some.ensures.own.0 c.index_mut.ensures.value c.if-not-pushed.ensures.pushed in
    side_changes (side_grows c.self.invariant c.in-Some.ensures.grows c.in-Some.ensures.order) change

pub lower-requires : goal.lower-requires
lower-requires g c =
    let change = changed_here
    (Puts (c.args.v ∷ [])) _ _ c.in-Some.ensures.own.0 c.index_mut.ensures.value c.if-not-pushed.ensures.pushed in
    at_changes _ change c.in-Some.ensures.own

pub returns-clause-keeps : goal.returns-clause-keeps
returns-clause-keeps g c =
    let change = changed_here
    (Puts (c.args.v ∷ [])) _ _ c.in-Some.ensures.own.0 c.index_mut.ensures.value c.if-not-pushed.ensures.pushed in
    of_sides Keeps _ _ c.self.view_is c.lower.ensures.mirror c.lower.ensures.held
    (keeps_changes _ _ c.in-Some.ensures.grows change)

pub returns-clause-pushed : goal.returns-clause-pushed
returns-clause-pushed g c =
    let change = changed_here
    (Puts (c.args.v ∷ [])) _ _ c.in-Some.ensures.own.0 c.index_mut.ensures.value c.if-not-pushed.ensures.pushed in
    of_sides (PushesTo c.args.metric c.args.v) _ _ c.self.view_is c.lower.ensures.mirror c.lower.ensures.held
    (pushes_to c.args.metric c.args.v _ _ c.in-Some.ensures.grows change c.in-Some.ensures.own)
