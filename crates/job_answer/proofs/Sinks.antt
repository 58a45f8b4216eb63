-- Texts that are put into a sink one after another, until it stops.
use Rattle.std.proofs.Common.{◌≡◌, ℕ, List, [], ◌∷◌, ◌++◌, Option, Some, None, refl, sym, subst, ap, ◌∙◌, append_assoc}
use Rattle.std.specs.Prelude.{IfSome, is_some, true, false, Result, Ok, Err, OnErr, OnOk}
use Rattle.std.proofs.lemmas.List.{append-nil}
use Rattle.std.specs.Io.KnownBytes.{Appends}
use Rattle.route_walks.specs.declared.refusal.Memory.{Memory}
use Rattle.job_answer.specs.AnswerText.{IsOneText}
use Rattle.job_answer.specs.Bytes.{Writes, WritesPrefix}
use Rattle.job_answer.specs.declared.output.sink.Sink.{Sink}
use Rattle.job_answer.specs.declared.output.sink.Stop.{Stop}
use Rattle.job_answer.specs.Sinks.{Ends, Is, IsStill, Puts, PutsText, Stops, due}
use Rattle.job_answer.proofs.Known.{appends-nothing, appends-then}

pub at-err : {T E P : Type 0} (r : Result T E) → P → OnErr r P
at-err (Ok x) p = tt
at-err (Err y) p = p

pub writes-nothing : (IsText : List ℕ → Type 0) (before : Option (List ℕ)) → WritesPrefix IsText before before
writes-nothing IsText before =
    record { given = []; is_prefix = λ text _. (text, refl); appended = appends-nothing before }

-- ---- stops

nothing-given : (given left : List ℕ) → [] ≡ given ++ left → given ≡ []
nothing-given [] left none = refl
nothing-given (x ∷ given) left none = cc

stop-stays : (stop : Option Stop) → IfSome stop (λ why. stop ≡ Some why)
stop-stays None = tt
stop-stays (Some stop) = refl

stop-then : (first second third : Option Stop) → IfSome first (λ stop. second ≡ Some stop)
    → IfSome second (λ stop. third ≡ Some stop)
    → IfSome first (λ stop. third ≡ Some stop)
stop-then None second third one two = tt
stop-then (Some stop) second third one two = subst (λ (s : Option Stop). IfSome s (λ stop. third ≡ Some stop)) one two

goes-before : (first second : Option Stop) → IfSome first (λ stop. second ≡ Some stop) → second ≡ None → first ≡ None
goes-before None second stays none = refl
goes-before (Some stop) second stays none = cc

due-waits : (stop : Option Stop) (waiting : List ℕ) → stop ≡ None → due stop waiting [] ≡ waiting
due-waits None waiting going = append-nil waiting
due-waits (Some stop) waiting going = cc

-- of what is due with two texts, what is given and left after each
due-then : (old between : Option Stop) (a b before waiting one left two rest : List ℕ)
    → due old before a ≡ one ++ left → (between ≡ None → left ≡ waiting)
    → IfSome old (λ stop. between ≡ Some stop) → due between waiting b ≡ two ++ rest
    → (last : List ℕ) × (due old before (a ++ b) ≡ (one ++ two) ++ last) × (between ≡ None → last ≡ rest)
due-then (Some stop) between a b before waiting one left two rest first waits stays second =
    let none = nothing-given one left first in
    let also = nothing-given two rest (subst (λ (s : Option Stop). due s waiting b ≡ two ++ rest) stays second) in
    ([], sym (ap (λ (xs : List ℕ). (xs ++ two) ++ []) none ∙ ap (λ (xs : List ℕ). xs ++ []) also), λ going. cc)
due-then None None a b before waiting one left two rest first waits stays second = (
  rest,
  sym (append_assoc before a b)
      ∙ ap (λ (xs : List ℕ). xs ++ b) first
      ∙ append_assoc one left b
      ∙ ap (λ (xs : List ℕ). one ++ (xs ++ b)) (waits refl)
      ∙ ap (λ (xs : List ℕ). one ++ xs) second
      ∙ sym (append_assoc one two rest),
  λ going. refl,
)
due-then None (Some stop) a b before waiting one left two rest first waits stays second = (
  left ++ b,
  sym (append_assoc before a b)
      ∙ ap (λ (xs : List ℕ). xs ++ b) first
      ∙ append_assoc one left b
      ∙ ap (λ (xs : List ℕ). xs ++ (left ++ b)) (sym (append-nil one))
      ∙ ap (λ (xs : List ℕ). (one ++ xs) ++ (left ++ b)) (sym (nothing-given two rest second)),
  λ going. cc,
)

pub not-stopped : (stop : Option Stop) → is_some stop ≡ false → stop ≡ None
not-stopped None goes = refl
not-stopped (Some stop) goes = cc

pub is-still : {W : Type 0} (sink : Sink W) → IsStill sink sink
is-still sink = record { writer = refl; waiting = refl; piece = refl; stop = stop-stays sink.stop; few = λ few. few }

pub still-then : {W : Type 0} {old between new : Sink W} → IsStill old between → IsStill between new → IsStill old new
still-then {W} {old} {between} {new} first second = record {
  writer = second.writer ∙ first.writer;
  waiting = second.waiting ∙ first.waiting;
  piece = second.piece ∙ first.piece;
  stop = stop-then old.stop between.stop new.stop first.stop second.stop;
  few = λ few. second.few (first.few few);
}

module _ {W : Type 0} (contents : W → Option (List ℕ)) where
  -- ---- texts

  pub text-then : {a b : List ℕ} {old between new : Sink W} → IsStill old between → IsStill between new
      → PutsText contents a old between → PutsText contents b between new
      → PutsText contents (a ++ b) old new
  text-then {a} {b} {old} {between} {new} stays still first second =
      let last =
      due-then old.stop between.stop a b old.waiting.now.items between.waiting.now.items first.given first.left second.given
      second.left first.whole first.waits stays.stop second.whole in
      record {
        given = first.given ++ second.given;
        left = last.0;
        whole = last.1;
        appended =
            appends-then (contents old.writer.now) (contents between.writer.now) (contents new.writer.now) first.given
            second.given first.appended second.appended;
        waits = λ going.
            last.2 (goes-before between.stop new.stop still.stop going) ∙ second.waits going;
      }

  -- the sink has stopped, so nothing is given of any text
  pub stops : {IsText : List ℕ → Type 0} {old new : Sink W} → Stops contents old new → Puts contents IsText old new
  stops {IsText} {old} {new} stop = record {
    still = stop.still;
    each = λ text _. record {
      given = [];
      left = due old.stop old.waiting.now.items text;
      whole = refl;
      appended =
          subst (λ (after : Option (List ℕ)). Appends (contents old.writer.now) after []) (sym stop.kept)
          (appends-nothing (contents old.writer.now));
      waits = λ going. let stopped = stop.stopped in cc;
    };
  }

  -- it had stopped before
  pub stopped : {IsText : List ℕ → Type 0} (sink : Sink W) → is_some sink.stop ≡ true → Puts contents IsText sink sink
  stopped {IsText} sink is = record {
    still = is-still sink;
    each = λ text _. record {
      given = [];
      left = due sink.stop sink.waiting.now.items text;
      whole = refl;
      appended = appends-nothing (contents sink.writer.now);
      waits = λ going. let going = going in cc;
    };
  }

  pub puts-nothing : (sink : Sink W) → Puts contents (Is []) sink sink
  puts-nothing sink = record {
    still = is-still sink;
    each = λ text is.
        subst (λ (text : List ℕ). PutsText contents text sink sink) (sym is)
        (record {
          given = [];
          left = due sink.stop sink.waiting.now.items [];
          whole = refl;
          appended = appends-nothing (contents sink.writer.now);
          waits = due-waits sink.stop sink.waiting.now.items;
        });
  }

  -- each text of the second kind is one of the first
  pub puts-as : {IsOne IsOther : List ℕ → Type 0} {old new : Sink W} → ((text : List ℕ) → IsOther text → IsOne text)
      → Puts contents IsOne old new
      → Puts contents IsOther old new
  puts-as are put = record { still = put.still; each = λ text is. put.each text (are text is) }

  pub puts-text : {text : List ℕ} {old new : Sink W} → IsStill old new → PutsText contents text old new
      → Puts contents (Is text) old new
  puts-text {text} {old} {new} still put = record {
    still = still;
    each = λ other is. subst (λ (text : List ℕ). PutsText contents text old new) (sym is) put;
  }

  -- a text is put that is the only one of its kind
  pub puts-only : {IsText : List ℕ → Type 0} {text : List ℕ} {old new : Sink W} → IsOneText IsText → IsText text
      → Puts contents (Is text) old new
      → Puts contents IsText old new
  puts-only {IsText} {text} only is put = puts-as (λ other other-is. only other text other-is is) put

  -- one text is put, and then another
  pub puts-then : {IsFirst IsSecond IsBoth : List ℕ → Type 0} {old between new : Sink W}
      → ((text : List ℕ) → IsBoth text
      → (a : List ℕ) × (b : List ℕ) × IsFirst a × IsSecond b × (text ≡ a ++ b))
      → Puts contents IsFirst old between → Puts contents IsSecond between new
      → Puts contents IsBoth old new
  puts-then {IsFirst} {IsSecond} {IsBoth} {old} {between} {new} split first second = record {
    still = still-then first.still second.still;
    each = λ text is.
        let parts = split text is in
        subst (λ (text : List ℕ). PutsText contents text old new) (sym parts.4)
        (text-then first.still second.still (first.each parts.0 parts.2) (second.each parts.1 parts.3));
  }

  pub puts-both : {a b : List ℕ} {old between new : Sink W} → Puts contents (Is a) old between
      → Puts contents (Is b) between new
      → Puts contents (Is (a ++ b)) old new
  puts-both {a} {b} first second = puts-then (λ text is. (a, b, refl, refl, is)) first second

  -- a line is put behind what waits, or refused memory, and ended
  pub puts-line : {line : List ℕ} (old between new : Sink W) (put : Result (Unit {0}) Memory)
      → OnOk put (between.waiting.now.items ≡ old.waiting.now.items ++ line)
      → between.writer ≡ old.writer → between.waiting.ghost_name ≡ old.waiting.ghost_name
      → between.piece ≡ old.piece → between.stop ≡ old.stop
      → Ends contents put between new
      → Puts contents (Is line) old new
  puts-line {line} old between new (Ok done) waits writer same piece stop end =
      let stays : IfSome old.stop (λ stop. between.stop ≡ Some stop) =
      subst (λ (s : Option Stop). IfSome old.stop (λ stop. s ≡ Some stop)) (sym stop) (stop-stays old.stop) in
      let first : PutsText contents line old between = record {
        given = [];
        left = due old.stop old.waiting.now.items line;
        whole = refl;
        appended =
            subst (λ (after : Option (List ℕ)). Appends (contents old.writer.now) after [])
            (sym (ap (λ w. contents w.now) writer)) (appends-nothing (contents old.writer.now));
        waits = λ going. ap (λ (s : Option Stop). due s old.waiting.now.items line) (sym stop ∙ going) ∙ sym waits;
      } in
      let last =
      due-then old.stop between.stop line [] old.waiting.now.items between.waiting.now.items first.given first.left
      end.put.given end.put.left first.whole first.waits stays end.put.whole in
      puts-text
      (record {
        writer = end.still.writer ∙ ap (λ w. w.ghost_name) writer;
        waiting = end.still.waiting ∙ same;
        piece = end.still.piece ∙ piece;
        stop = stop-then old.stop between.stop new.stop stays end.still.stop;
        few = λ _. end.few;
      })
      (subst (λ (text : List ℕ). PutsText contents text old new) (append-nil line)
      (record {
        given = first.given ++ end.put.given;
        left = last.0;
        whole = last.1;
        appended =
            appends-then (contents old.writer.now) (contents between.writer.now) (contents new.writer.now) first.given
            end.put.given first.appended end.put.appended;
        waits = λ going.
            last.2 (goes-before between.stop new.stop end.still.stop going) ∙ end.put.waits going;
      }))
  puts-line {line} old between new (Err memory) waits writer same piece stop end =
      let stays : IfSome old.stop (λ stop. between.stop ≡ Some stop) =
      subst (λ (s : Option Stop). IfSome old.stop (λ stop. s ≡ Some stop)) (sym stop) (stop-stays old.stop) in
      stops
      (record {
        stop = end.refused.stop;
        stopped = end.refused.stopped;
        none = end.refused.none;
        kept = end.refused.kept ∙ ap (λ w. contents w.now) writer;
        still = record {
          writer = end.still.writer ∙ ap (λ w. w.ghost_name) writer;
          waiting = end.still.waiting ∙ same;
          piece = end.still.piece ∙ piece;
          stop = stop-then old.stop between.stop new.stop stays end.still.stop;
          few = λ _. end.few;
        };
      })

  -- ---- the lines of a whole

  -- a text of a whole was put, which lacks the rest
  pub record Lacks (rest whole : List ℕ) (old new : Sink W) : Type 0 where
    pub text : List ℕ
    pub is : text ++ rest ≡ whole
    pub put : Puts contents (Is text) old new

  -- one more line is put
  pub lacks-more : {line rest whole : List ℕ} {old between new : Sink W} → Lacks (line ++ rest) whole old between
      → Puts contents (Is line) between new
      → Lacks rest whole old new
  lacks-more {line} {rest} {whole} some next = record {
    text = some.text ++ line;
    is = append_assoc some.text line rest ∙ some.is;
    put = puts-both some.put next;
  }

  -- none is left
  pub lacks-none : {whole : List ℕ} {old new : Sink W} → Lacks [] whole old new → Puts contents (Is whole) old new
  lacks-none {whole} {old} {new} some =
      subst (λ (text : List ℕ). Puts contents (Is text) old new) (sym (append-nil some.text) ∙ some.is) some.put

  -- ---- at the end

  -- before a writer that takes nothing the whole text is kept
  pub kept-text : {IsText : List ℕ → Type 0} → (text : List ℕ) × IsText text → (old new : Sink W) → old.stop ≡ None
      → old.waiting.now.items ≡ [] → contents old.writer.now ≡ Some [] → contents new.writer.now ≡ Some []
      → is_some new.stop ≡ false → Puts contents IsText old new
      → IsText new.waiting.now.items
  kept-text {IsText} some old new going none empty still goes put =
      let one = put.each some.0 some.1 in
      let nothing : [] ≡ one.given =
      subst (λ (after : Option (List ℕ)). Appends (Some []) after one.given) still
      (subst (λ (before : Option (List ℕ)). Appends before (contents new.writer.now) one.given) empty one.appended) in
      let kept : some.0 ≡ new.waiting.now.items =
      ap (λ (xs : List ℕ). xs ++ some.0) (sym none)
      ∙ ap (λ (s : Option Stop). due s old.waiting.now.items some.0) (sym going)
      ∙ one.whole
      ∙ ap (λ (xs : List ℕ). xs ++ one.left) (sym nothing)
      ∙ one.waits (not-stopped new.stop goes) in
      subst IsText kept some.1

  -- all that was put is given, or a prefix
  module _ {IsText : List ℕ → Type 0} (only : IsOneText IsText) (some : (text : List ℕ) × IsText text)
      (old between new : Sink W) (going : old.stop ≡ None) (none : old.waiting.now.items ≡ [])
      (put : Puts contents IsText old between) (still : IsStill between new) (sent : PutsText contents [] between new)
    where
      whole : PutsText contents some.0 old new
      whole =
          subst (λ (text : List ℕ). PutsText contents text old new) (append-nil some.0)
          (text-then put.still still (put.each some.0 some.1) sent)

      is-given : some.0 ≡ whole.given ++ whole.left
      is-given =
          ap (λ (xs : List ℕ). xs ++ some.0) (sym none)
          ∙ ap (λ (s : Option Stop). due s old.waiting.now.items some.0) (sym going)
          ∙ whole.whole

      pub writes-all : {T E : Type 0} (r : Result T E) → OnOk r (new.stop ≡ None) → new.waiting.now.items ≡ []
          → OnOk r (Writes IsText (contents old.writer.now) (contents new.writer.now))
      writes-all (Ok done) goes left = record {
        text = some.0;
        is_text = some.1;
        appended =
            subst (Appends (contents old.writer.now) (contents new.writer.now))
            (sym (is-given
            ∙ ap (λ (xs : List ℕ). whole.given ++ xs) (whole.waits goes ∙ left)
            ∙ append-nil whole.given))
            whole.appended;
      }
      writes-all (Err fault) goes left = tt

      pub writes-prefix : WritesPrefix IsText (contents old.writer.now) (contents new.writer.now)
      writes-prefix = record {
        given = whole.given;
        is_prefix = λ text is. (whole.left, only text some.0 is some.1 ∙ is-given);
        appended = whole.appended;
      }
