use Rattle.std.proofs.Common.{◌∙◌}
use Rattle.dimacs_text.specs.reader.Drafts.{progress_of}
use Rattle.dimacs_text.proofs.RequestLemmas.{whole_stage}
use Rattle.dimacs_text.proofs.request_draft.RequestDraft.is_whole.Goals as goal

pub returns-clause-whole : goal.returns-clause-whole
returns-clause-whole c n ls job p w =
    c.is_request.ensures ∙ whole_stage n ls (progress_of c.args.self.now.draft) job p w
