use Rattle.std.proofs.Common.{Bool, true, false, not, ◌≡◌, refl, sym, ◌∙◌}
use Rattle.dimacs_text.specs.reader.Drafts.{progress_of}
use Rattle.dimacs_text.proofs.RequestLemmas.{said_nothing, said_short}
use Rattle.dimacs_text.proofs.request_draft.RequestDraft.is_short.Goals as goal

turned : (b : Bool) → not b ≡ true → b ≡ false
turned true e = absurd (cc)
turned false e = refl

pub returns-then-is_in_section-clause-short : goal.returns-then-is_in_section-clause-short
returns-then-is_in_section-clause-short c n ls p e =
    said_short n ls (progress_of c.args.self.now.draft) p (sym c.is_in_section.ensures ∙ c.if-is_in_section.true)
    (sym c.is_request.ensures ∙ turned c.is_request.result e)

pub returns-else-is_in_section-clause-silent : goal.returns-else-is_in_section-clause-silent
returns-else-is_in_section-clause-silent c n ls p e lacking =
    let draft = c.args.self.now.draft in
    said_nothing n ls draft.stage draft.before_added draft.vertices draft.arcs.items draft.sources.items
    draft.pairs.items draft.added.items (sym c.is_in_section.ensures ∙ e) p.said p.split p.records
