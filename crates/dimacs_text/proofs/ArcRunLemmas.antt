-- Runs of arcs: the lines of arcs are read wherever they come next, and what is read one after the other.
use Rattle.std.proofs.Common.{◌≡◌, ℕ, ◌+◌, ◌-◌, ◌<◌, ◌≤◌, List, [], ◌++◌, ◌∷◌, length, take, drop, get_or, sym, All}
use Rattle.std.proofs.Common.{ap, subst, ◌∙◌, append_assoc, arith, take-append-drop, refl, length-append, append-nil}
use Rattle.std.proofs.Common.{Result, Ok, Err, is_ok, cond, set, get_or-set_same, length-set}
use Rattle.std.proofs.Math.Seq.{take-append_seam}
use Rattle.std.proofs.lemmas.List.{drop-take, length-drop, length-take-le, take-append-le, take-set-le}
use Rattle.std.proofs.lemmas.List.Elements.{All-get_or, All-more, All-push}
use Rattle.std.specs.declared.vec.Vec.{Vec}
use Rattle.std.specs.declared.alloc.Global.{Global}
use Rattle.dimacs_text.specs.declared.arc_runs.ArcRuns.{ArcRuns}
use Rattle.dimacs_text.specs.declared.arc_runs.ReadAhead.{ReadAhead}
use Rattle.dimacs_text.specs.Reading.{AreRunsOf, IsReadAhead}
use Rattle.route_walks.specs.declared.graph.ArcRec.{ArcRec}
use Rattle.dimacs_text.specs.reader.Drafts.{Progress, arcs_progress, IsReadTo, ReadsTo, AreArcLines, ReadsArcs}

-- lines are read wherever they come next
pub reads_before : (old new : Progress) (line next : ℕ) (text rest after : List ℕ)
    → rest ≡ text ++ after → ReadsTo old line text new next [] → ReadsTo old line rest new next after
reads_before old new line next text rest after joined reads whole more p =
    reads whole (after ++ more)
    (subst (λ l. IsReadTo whole l line old) (ap (λ l. l ++ more) joined ∙ append_assoc text after more) p)

-- where the arcs before are the old ones
pub arcs_lead : (n : ℕ) (rest : List ℕ) (old new : List ArcRec) (count : ℕ) (after : List ℕ) (missing line : ℕ)
    → ReadsArcs n rest old new count after → count ≤ missing
    → ReadsTo (arcs_progress n missing old) line rest (arcs_progress n (missing - count) new) (line + count) after
arcs_lead n rest old new count after missing line r few =
    rw (r.appended, r.number)
    (reads_before (arcs_progress n missing old) (arcs_progress n (missing - length r.arcs) (old ++ r.arcs)) line
    (line + length r.arcs) r.text rest after r.joined (r.lines old missing line (omega (arith, few, r.number))))

-- no lines are those of no arcs
pub no_arc_lines : (n : ℕ) → AreArcLines n [] []
no_arc_lines n before missing line few text more p =
    subst (λ x. IsReadTo text more x (arcs_progress n (missing - 0) (before ++ []))) (omega arith)
    (subst (λ l. IsReadTo text more line (arcs_progress n (missing - 0) l)) (sym (append-nil before))
    (subst (λ m. IsReadTo text more line (arcs_progress n m before)) (omega arith) p))

-- so nothing is read of none
pub no_arcs_read : (n : ℕ) (rest : List ℕ) (old : List ArcRec) → ReadsArcs n rest old old 0 rest
no_arcs_read n rest old = record {
  text = [];
  joined = refl;
  arcs = [];
  appended = sym (append-nil old);
  number = refl;
  lines = no_arc_lines n;
}

-- what is read from one place of a part to another is what stands there in the whole
pub text_between : (bytes text : List ℕ) (start after end : ℕ)
    → start ≤ after → after ≤ end → end ≤ length bytes
    → drop start (take end bytes) ≡ text ++ drop after (take end bytes)
    → take (after - start) (drop start bytes) ≡ text
text_between bytes text start after end order before_end inside joined =
    ap (λ l. take (after - start) l) (sym (take-append-drop (end - start) (drop start bytes)))
    ∙ take-append-le (after - start) (take (end - start) (drop start bytes)) (drop (end - start) (drop start bytes))
    (omega (arith, length-take-le (end - start) (drop start bytes) (omega (arith, length-drop start bytes))))
    ∙ ap (λ l. take (after - start) l)
    (sym (drop-take start (end - start) bytes) ∙ ap (λ k. drop start (take k bytes)) (omega arith) ∙ joined)
    ∙ ap (λ k. take k (text ++ drop after (take end bytes))) (omega (
      arith,
      ap (λ l. length l) joined,
      length-append text (drop after (take end bytes)),
      length-drop start (take end bytes),
      length-drop after (take end bytes),
      length-take-le end bytes inside,
    ))
    ∙ take-append_seam text (drop after (take end bytes))

-- what holds of all elements holds of this one
pub holds_of_item : {X : Type 0} (P : X → Type 0) (xs : List X) (i : ℕ) (x : X)
    → i < length xs → All P xs → x ≡ get_or xs i x → P x
holds_of_item P xs i x inside all is = subst P (sym is) (All-get_or P xs i x inside all)

-- a vector to which one more was pushed, or to which it was not
pub all_pushed : {X T E : Type 0} (P : X → Type 0) (r : Result T E) (old new : List X) (x : X)
    → new ≡ cond (is_ok r) (old ++ x ∷ []) old → All P old → P x → All P new
all_pushed P (Ok done) old new x is before one =
    subst (λ l. All P l) (sym is) (All-push P old x before one)
all_pushed P (Err kind) old new x is before one = subst (λ l. All P l) (sym is) before

-- what holds of the elements before a place holds of one more, where one that has it is put there
pub all_set : {X : Type 0} (P : X → Type 0) (xs : List X) (i : ℕ) (x : X)
    → i < length xs → All P (take i xs) → P x → All P (take (i + 1) (set xs i x))
all_set P xs i x lt before one =
    All-more P (set xs i x) i x (rw length-set lt) (rw (take-set-le i xs i x (omega arith)) before)
    (rw (get_or-set_same xs i x x lt) one)

-- one list more, or none, in which nothing is read ahead
pub one_list_more : {T E : Type 0} (bytes : List ℕ) (ahead : ReadAhead) (r : Result T E)
    (others : Vec ArcRuns Global) (list : ArcRuns)
    → others.items ≡ cond (is_ok r) (ahead.others.items ++ list ∷ []) ahead.others.items
    → IsReadAhead bytes ahead → AreRunsOf bytes list
    → IsReadAhead bytes (record { one = ahead.one; another = ahead.another; others = others; alloc = ahead.alloc })
one_list_more bytes ahead r others list is before new = record {
  one = before.one;
  another = before.another;
  others = all_pushed (AreRunsOf bytes) r ahead.others.items others.items list is before.others new;
}
