-- What was read of a request.
use Rattle.std.specs.Prelude.{ℕ, Bool, List}
use Rattle.dimacs_text.specs.declared.request_draft.RequestDraft.{RequestDraft}
use Rattle.dimacs_text.specs.reader.Drafts.{progress_of}
use Rattle.dimacs_text.specs.reader.Requests.{HasSaid, is_request_at}

-- these lines were read after a graph of n vertices, and none of them is wrong
abbrev pub HasReadAfter : ℕ → List (List ℕ) → RequestDraft → Type 0
HasReadAfter n ls draft = HasSaid n ls (progress_of draft.draft)

-- a section was read to its end
abbrev pub is_whole : RequestDraft → Bool
is_whole draft = is_request_at draft.draft.stage
