use Rattle.std.proofs.Common.{◌≤◌, IfSome, [], ◌∷◌, ◌++◌, append_assoc, subst, sym}
use Rattle.route_walks.specs.declared.graph.TheConstants.{MAX_VERTICES}
use Rattle.request_reader.specs.Reading.{outcomes_in, HasRequests, IsAskedWithin}
use Rattle.request_reader.proofs.request_reader.RequestReader.read.Goals as goal

pub returns-clause-requests : goal.returns-clause-requests
returns-clause-requests c first all outcomes h =
    let ended = c.end-ended.ensures.requests first all c.args.line.now outcomes h c.begins_section-begins.ensures in
    subst (λ os. HasRequests c.take-completed.new.self first (all ++ c.args.line.now ∷ []) os)
    (append_assoc outcomes (outcomes_in c.end-ended.result) (outcomes_in c.take-completed.result))
    (c.take-completed.ensures.requests first all (outcomes ++ outcomes_in c.end-ended.result) ended)

pub returns-clause-refusable : goal.returns-clause-refusable
returns-clause-refusable c first all outcomes h =
    let ended = c.end-ended.ensures.requests first all c.args.line.now outcomes h c.begins_section-begins.ensures in
    c.take-completed.ensures.refusable first all (outcomes ++ outcomes_in c.end-ended.result) ended

pub returns-clause-within : goal.returns-clause-within
returns-clause-within c first all outcomes h few =
    let ended = c.end-ended.ensures.requests first all c.args.line.now outcomes h c.begins_section-begins.ensures in
    subst (λ n. IfSome c.take-completed.result (IsAskedWithin n)) c.end-ended.ensures.vertices
    (c.take-completed.ensures.within first all (outcomes ++ outcomes_in c.end-ended.result) ended
    (subst (λ n. n ≤ MAX_VERTICES) (sym c.end-ended.ensures.vertices) few))
