use Rattle.std.proofs.Common.{◌≡◌, ◌++◌, List, ℕ, Bool, true, false, ap, subst, sym, ◌∙◌}
use Rattle.dimacs_text.specs.Lines.{begins_comment}
use Rattle.dimacs_text.proofs.Facts.{comment-more}
use Rattle.session_answer.specs.Conversations.{IsKeptOf}
use Rattle.session_answer.proofs.HeardLemmas.{comment_begun, kept_begun}
use Rattle.session_answer.proofs.conversation.Conversation.keep.Goals as goal

-- a comment goes on
comment_longer : (in_comment : Bool) (kept begun bytes : List ℕ) → in_comment ≡ true → IsKeptOf in_comment kept begun
    → IsKeptOf in_comment kept (begun ++ bytes)
comment_longer in_comment kept begun bytes inside is =
    let comment = comment_begun in_comment kept begun inside is in
    subst (λ test. IsKeptOf test kept (begun ++ bytes)) (sym inside) (comment.0, comment-more begun bytes comment.1)

pub returns-then-self-clause-kept : goal.returns-then-self-clause-kept
returns-then-self-clause-kept c begun is =
    comment_longer c.args.self.now.in_comment c.args.self.now.unfinished.items begun c.args.bytes.now c.if-self.true is

-- what is kept now
kept_now : (in_comment : Bool) (kept begun bytes now : List ℕ) → in_comment ≡ false → now ≡ kept ++ bytes
    → IsKeptOf in_comment kept begun
    → now ≡ begun ++ bytes
kept_now in_comment kept begun bytes now outside came is =
    came ∙ ap (λ some. some ++ bytes) (kept_begun in_comment kept begun outside is)

pub returns-then-not-begins_comment-clause-kept : goal.returns-then-not-begins_comment-clause-kept
returns-then-not-begins_comment-clause-kept c begun is =
    let old = c.args.self.now in
    let now = c.extend_from_slice.new.self.items in
    subst (λ test. IsKeptOf test now (begun ++ c.args.bytes.now)) (sym c.if-self.false)
    (kept_now old.in_comment old.unfinished.items begun c.args.bytes.now now c.if-self.false
    c.in_ok-extend_from_slice.ensures.items is)

pub returns-clause-kept : goal.returns-clause-kept
returns-clause-kept c begun is =
    let old = c.args.self.now in
    let now = c.extend_from_slice.new.self.items in (
      c.clear.ensures.items,
      ap (λ bytes. begins_comment bytes)
          (sym
          (kept_now old.in_comment old.unfinished.items begun c.args.bytes.now now c.if-self.false
          c.in_ok-extend_from_slice.ensures.items is)
          ∙ sym c.deref.ensures.value)
          ∙ c.if-not-begins_comment.ensures,
    )
