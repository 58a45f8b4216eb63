-- What a reader has read, piece by piece, and what it gives at the end.
use Rattle.std.proofs.Common.{◌≡◌, ℕ, ◌+◌, ◌-◌, ◌^◌, List, [], ◌∷◌, ◌++◌, Option, Some}
use Rattle.std.proofs.Common.{Bool, None, Ok, Err, refl, sym, ap, subst, ◌∙◌, true, false, is_some, ◌≤◌}
use Rattle.std.proofs.Common.{length, IfOk, IfErr, Result, append-nil, append_assoc, length-append, arith, take, drop}
use Rattle.std.proofs.Math.Seq.{take-add}
use Rattle.std.proofs.lemmas.Grind.{common_steps}
use Rattle.std.proofs.lemmas.List.{get_or_append_left, get_or-append-add}
use Rattle.dimacs_text.specs.declared.draft.Draft.{Draft}
use Rattle.dimacs_text.specs.declared.explanation.ExplainedFault.{ExplainedFault}
use Rattle.dimacs_text.specs.Explaining.{Explains}
use Rattle.dimacs_text.specs.declared.fault.LineKind.{LineKind}
use Rattle.dimacs_text.specs.declared.fault.TextFault.TheVariants.{Line}
use Rattle.dimacs_text.specs.Lines.{begins_comment, lines}
use Rattle.dimacs_text.specs.Jobs.{content_of, records_of}
use Rattle.dimacs_text.specs.Jobs.{IsJobText}
use Rattle.dimacs_text.specs.Faults.{unfinished, IsFirstFault, IsFaultOf}
use Rattle.dimacs_text.specs.reader.Drafts.{Progress, progress_of}
use Rattle.dimacs_text.specs.reader.Drafts.{IsReadTo, ReadsTo}
use Rattle.dimacs_text.specs.reader.Drafts.{IsLackOf, ExplainsEnd}
use Rattle.dimacs_text.specs.reader.FastArc.{HasNoFeed}
use Rattle.dimacs_text.specs.declared.job.Job.{Job}
use Rattle.dimacs_text.specs.declared.reader.LineReader.{LineReader}
use Rattle.dimacs_text.specs.declared.reader.JobReader.{JobReader}
use Rattle.dimacs_text.specs.Reading.{HasReadBy, HasRead, HasReadText, IsLineEnd, IsOpenComment, Keeps, Reads}
use Rattle.dimacs_text.proofs.CommentLemmas.{comment-more, comment_filled}
use Rattle.dimacs_text.proofs.LineLemmas.{line_first, lines_whole}
use Rattle.dimacs_text.proofs.DraftLemmas.{line_reads, comment_says_nothing, end_explained, finished, lacking}

-- what a reader of lines has read
pub text_read : (reader : LineReader) (kept text : List ℕ)
    → reader.fault ≡ None → HasReadText reader false kept text
    → (reader.line ≤ length text + 1)
    × IsReadTo text kept reader.line (progress_of reader.draft)
    × HasNoFeed kept 0 (length kept)
text_read reader kept text right r =
    let reads = subst (λ o. HasReadBy o reader.draft reader.line r.whole) right r.lines in
    let keeps = subst (λ o. Keeps o false r.whole kept text) right r.keeps in
    let len = ap (λ l. length l) keeps.0 ∙ length-append r.whole kept in (
      omega (arith, len, reads.0),
      subst (λ t. IsReadTo t kept reader.line (progress_of reader.draft)) (sym keeps.0) (reads.1 kept),
      keeps.1,
    )

-- and where it is in a comment, which says nothing
pub comment_read : (reader : LineReader) (kept text : List ℕ)
    → reader.fault ≡ None → HasReadText reader true kept text
    → (reader.line ≤ length text + 1)
    × IsReadTo text [] (reader.line + 1) (progress_of reader.draft)
comment_read reader kept text right r =
    let reads = subst (λ o. HasReadBy o reader.draft reader.line r.whole) right r.lines in
    let keeps = subst (λ o. Keeps o true r.whole kept text) right r.keeps in
    let comment = keeps.1.0 in
    let begun = keeps.1.2 in
    let progress = progress_of reader.draft in
    let len = ap (λ l. length l) keeps.1.1 ∙ length-append r.whole comment in (
      omega (arith, len, reads.0),
      subst (λ t. IsReadTo t [] (reader.line + 1) progress) (sym keeps.1.1)
          (line_reads progress progress (r.whole ++ comment) comment comment [] reader.line
          (lines_whole comment (comment_filled comment begun.begins) (λ k few. begun.no_feed k (omega arith) few))
          (comment_says_nothing progress comment begun.begins) (reads.1 comment)),
    )

pub text_fails : (reader : LineReader) (in_comment : Bool) (kept text : List ℕ) (kind : LineKind)
    → reader.fault ≡ Some kind → HasReadText reader in_comment kept text
    → IsFirstFault text reader.line kind
text_fails reader in_comment kept text kind wrong r =
    let is = subst (λ o. Keeps o in_comment r.whole kept text) wrong r.keeps in
    subst (λ t. IsFirstFault t reader.line kind) (append-nil r.whole ∙ sym is)
    (subst (λ o. HasReadBy o reader.draft reader.line r.whole) wrong r.lines []).0

pub text_explained : (reader : LineReader) (in_comment : Bool) (kept text : List ℕ) (kind : LineKind)
    → reader.fault ≡ Some kind → HasReadText reader in_comment kept text
    → Explains text (Line reader.line kind) reader.draft.explanation
text_explained reader in_comment kept text kind wrong r =
    let is = subst (λ o. Keeps o in_comment r.whole kept text) wrong r.keeps in
    subst (λ t. Explains t (Line reader.line kind) reader.draft.explanation) (append-nil r.whole ∙ sym is)
    (subst (λ o. HasReadBy o reader.draft reader.line r.whole) wrong r.lines []).1

-- what is kept of a line is read with the rest of it
pub nothing_kept : (o : Option LineKind) (whole text : List ℕ) → text ≡ whole → Keeps o false whole [] text
nothing_kept None whole text e = (e ∙ sym (append-nil whole), λ k from to. absurd (omega arith))
nothing_kept (Some kind) whole text e = e

ended_by : (comment rest more : List ℕ)
    → (comment ++ (rest ++ 10 ∷ [])) ++ more ≡ (comment ++ rest) ++ 10 ∷ more
ended_by comment rest more = simp append_assoc refl

pub kept_whole : (o : Option LineKind) (whole kept text : List ℕ) → o ≡ None → Keeps o false whole kept text
    → text ≡ whole ++ kept
kept_whole o whole kept text e k = (subst (λ x. Keeps x false whole kept text) e k).0

-- what is known before the next lines are read
pub nothing_wrong : (fault : Option LineKind) → is_some fault ≡ false → fault ≡ None
nothing_wrong None none = refl
nothing_wrong (Some kind) none = absurd (cc)

pub read_before : (fault : Option LineKind) (draft : Draft) (line : ℕ) (text bytes : List ℕ)
    → is_some fault ≡ false → HasReadBy fault draft line text
    → (line ≤ length text + 1)
    × ((more : List ℕ) → IsReadTo ((text ++ bytes) ++ more) (bytes ++ more) line (progress_of draft))
read_before None draft line text bytes none r = (
  r.0,
  λ more.
      subst (λ t. IsReadTo t (bytes ++ more) line (progress_of draft)) (sym (append_assoc text bytes more))
      (r.1 (bytes ++ more)),
)
read_before (Some kind) draft line text bytes none r = absurd (cc)

pub no_feed_joined : (front back : List ℕ)
    → HasNoFeed front 0 (length front) → HasNoFeed back 0 (length back)
    → HasNoFeed (front ++ back) 0 (length (front ++ back))
no_feed_joined front back closed free k from to feed =
    let len = length-append front back in
    let first = closed k in
    let second = free (k - length front) in
    let left = get_or_append_left front back 0 k in
    let right = get_or-append-add front back (k - length front) 0 in
    grind (arith, common_steps)

pub keeps_more : (o : Option LineKind) (whole kept text bytes : List ℕ)
    → is_some o ≡ false → HasNoFeed bytes 0 (length bytes) → Keeps o false whole kept text
    → Keeps o false whole (kept ++ bytes) (text ++ bytes)
keeps_more (Some kind) whole kept text bytes none free is = absurd (cc)
keeps_more None whole kept text bytes none free (is, closed) =
    (ap (λ t. t ++ bytes) is ∙ append_assoc whole kept bytes, no_feed_joined kept bytes closed free)

-- a comment goes on
pub comment_longer : (o : Option LineKind) (whole kept text bytes : List ℕ)
    → is_some o ≡ false → HasNoFeed bytes 0 (length bytes) → Keeps o true whole kept text
    → Keeps o true whole kept (text ++ bytes)
comment_longer (Some kind) whole kept text bytes none free is = absurd (cc)
comment_longer None whole kept text bytes none free (empty, (comment, is, begun)) = (
  empty,
  (
    comment ++ bytes,
    ap (λ t. t ++ bytes) is ∙ append_assoc whole comment bytes,
    record {
      begins = comment-more comment bytes begun.begins;
      no_feed = no_feed_joined comment bytes begun.no_feed free;
    },
  ),
)

-- what is kept is known to begin one, and is let go
pub comment_begun : (o : Option LineKind) (whole kept text : List ℕ)
    → is_some o ≡ false → begins_comment kept ≡ true → Keeps o false whole kept text
    → Keeps o true whole [] text
comment_begun (Some kind) whole kept text none begins is = absurd (cc)
comment_begun None whole kept text none begins (is, free) =
    (refl, (kept, is, record { begins = begins; no_feed = free }))

-- it is over with its line feed
pub comment_passed : (fault : Option LineKind) (draft : Draft) (line next : ℕ) (text comment end : List ℕ)
    → fault ≡ None → HasReadBy fault draft line text → IsOpenComment comment → IsLineEnd end
    → (line ≤ length text + 1 → next ≡ line + 1)
    → HasReadBy fault draft next (text ++ (comment ++ end))
comment_passed fault draft line next text comment end none before begun ended exact =
    subst (λ f. HasReadBy f draft next (text ++ (comment ++ end))) (sym none)
    (after (subst (λ f. HasReadBy f draft line text) none before))
  where
    progress : Progress
    progress = progress_of draft

    says : List ℕ
    says = comment ++ ended.rest

    split : (more : List ℕ) → lines ((comment ++ end) ++ more) ≡ says ∷ lines more
    split more =
        ap (λ e. lines ((comment ++ e) ++ more)) ended.joined
        ∙ ap (λ (bytes : List ℕ). lines bytes) (ended_by comment ended.rest more)
        ∙ line_first says more (no_feed_joined comment ended.rest begun.no_feed ended.no_feed)

    after : HasReadBy None draft line text → HasReadBy None draft next (text ++ (comment ++ end))
    after read =
        let is = exact read.0 in
        let all = length-append text (comment ++ end) in
        let last = length-append comment end in
        let feed = ap (λ l. length l) ended.joined ∙ length-append ended.rest (10 ∷ []) in (
          omega (arith, read.0, is, all, last, feed),
          λ more.
              subst (λ n. IsReadTo ((text ++ (comment ++ end)) ++ more) more n progress) (sym is)
              (subst (λ t. IsReadTo t more (line + 1) progress) (sym (append_assoc text (comment ++ end) more))
              (line_reads progress progress (text ++ ((comment ++ end) ++ more)) ((comment ++ end) ++ more) says more line
              (split more) (comment_says_nothing progress says (comment-more comment ended.rest begun.begins))
              (read.1 ((comment ++ end) ++ more)))),
        )

-- of a text that ends in a comment the bytes before it are whole lines
pub comment_in : (o : Option LineKind) (whole kept text : List ℕ) → o ≡ None → Keeps o true whole kept text
    → (comment : List ℕ) × (text ≡ whole ++ comment) × IsOpenComment comment
comment_in o whole kept text e k = (subst (λ x. Keeps x true whole kept text) e k).1

pub comment_kept : (o : Option LineKind) (whole kept text : List ℕ) → o ≡ None → Keeps o true whole kept text
    → kept ≡ []
comment_kept o whole kept text e k = (subst (λ x. Keeps x true whole kept text) e k).0

-- the job and the fault at the end of the text
pub job_at_end : (text : List ℕ) (line : ℕ) (draft : Draft) (result : Result Job ExplainedFault)
    → IsReadTo text [] line (progress_of draft)
    → IfOk result (λ job. (progress_of draft).records ≡ records_of (content_of job))
    → IfOk result (λ job. IsJobText text (content_of job))
job_at_end text line draft (Ok job) p same = finished text line (progress_of draft) (content_of job) p same
job_at_end text line draft (Err fault) p same = tt

pub fault_at_end : (text : List ℕ) (line : ℕ) (draft : Draft) (result : Result Job ExplainedFault)
    → IsReadTo text [] line (progress_of draft) → IfErr result (λ refused. IsLackOf draft line refused.fault)
    → IfErr result (λ refused. IsFaultOf text refused.fault)
fault_at_end text line draft (Ok job) p lack = tt
fault_at_end text line draft (Err refused) p lack = lacking text line draft refused.fault p lack

pub explained_at_end : (text : List ℕ) (line : ℕ) (draft : Draft) (result : Result Job ExplainedFault)
    → IsReadTo text [] line (progress_of draft)
    → IfErr result (λ refused. ExplainsEnd line refused.fault refused.explanation)
    → IfErr result (λ refused. Explains text refused.fault refused.explanation)
explained_at_end text line draft (Ok job) p is = tt
explained_at_end text line draft (Err refused) p is =
    end_explained (progress_of draft) text line refused.fault refused.explanation p is

-- after a fault the reader stays as it is
pub fault_stays : (reader : JobReader) (text bytes : List ℕ)
    → is_some reader.lines.fault ≡ true → HasRead reader text → length text + length bytes ≤ 2 ^ 36
    → HasRead reader (text ++ bytes)
fault_stays reader text bytes some r few =
    let both = stays reader.lines.fault some r.lines r.keeps in
    let len = length-append text bytes in
    record { short = omega (arith, len, few); whole = text ++ bytes; lines = both.0; keeps = both.1 }
  where
    stays : (o : Option LineKind)
        → is_some o ≡ true
        → HasReadBy o reader.lines.draft reader.lines.line r.whole
        → Keeps o reader.in_comment r.whole reader.unfinished.items text
        → HasReadBy o reader.lines.draft reader.lines.line (text ++ bytes)
        × Keeps o reader.in_comment (text ++ bytes) reader.unfinished.items (text ++ bytes)
    stays None some reads is = absurd (cc)
    stays (Some kind) some reads is = (
      λ more.
          subst
          (λ t. IsFirstFault t reader.lines.line kind
          × Explains t (Line reader.lines.line kind) reader.lines.draft.explanation)
          (ap (λ t. t ++ (bytes ++ more)) (sym is) ∙ sym (append_assoc text bytes more)) (reads (bytes ++ more)),
      refl,
    )

-- pieces that were read one after the other
pub reads_both : (old between new : JobReader) (front back : List ℕ)
    → Reads old between front → Reads between new back
    → Reads old new (front ++ back)
reads_both old between new front back first second text r few =
    let len = length-append front back in
    let more = length-append text front in
    subst (λ t. HasRead new t) (append_assoc text front back)
    (second (text ++ front) (first text r (omega (arith, few, len))) (omega (arith, few, len, more)))

-- up to a place, and from there to a later one
pub reads_to : (old between new : JobReader) (bytes : List ℕ) (at next : ℕ)
    → at ≤ next → Reads old between (take at bytes) → Reads between new (take (next - at) (drop at bytes))
    → Reads old new (take next bytes)
reads_to old between new bytes at next order first second =
    subst (λ b. Reads old new b)
    (sym (take-add at (next - at) bytes) ∙ ap (λ n. take n bytes) (omega arith))
    (reads_both old between new (take at bytes) (take (next - at) (drop at bytes)) first second)

-- what is read after the lines of a text, if count lines more are read
pub lines_read : (fault : Option LineKind) (old new : Draft) (line next count : ℕ) (text part : List ℕ)
    → fault ≡ None → HasReadBy fault old line text
    → ReadsTo (progress_of old) line part (progress_of new) (line + count) []
    → count ≤ length part → (line ≤ length text + 1 → next ≡ line + count)
    → HasReadBy fault new next (text ++ part)
lines_read fault old new line next count text part none before leads few exact =
    subst (λ f. HasReadBy f new next (text ++ part)) (sym none)
    (after (subst (λ f. HasReadBy f old line text) none before))
  where
    after : HasReadBy None old line text → HasReadBy None new next (text ++ part)
    after read =
        let is = exact read.0 in (
          omega (arith, read.0, few, is, length-append text part),
          λ more.
              subst (λ n. IsReadTo ((text ++ part) ++ more) more n (progress_of new)) (sym is)
              (subst (λ t. IsReadTo t more (line + count) (progress_of new)) (sym (append_assoc text part more))
              (leads (text ++ (part ++ more)) more (read.1 (part ++ more)))),
        )
