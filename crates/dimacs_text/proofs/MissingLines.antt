-- A reader that misses lines of a graph: no text of fewer lines makes it whole.
use Rattle.std.proofs.Common.{◌≡◌, ◌∙◌, ◌+◌, ◌≤◌, ◌<◌, ◌⊎◌, ℕ, suc, Bool, true, false, cond, eqb, List, [], ◌∷◌, ◌++◌, length, map, take}
use Rattle.std.proofs.Common.{get_or, is_some, Option, Some, None, Ok, refl, sym, ap, ap₂, subst, arith, append_assoc, append-nil, inl, inr}
use Rattle.std.proofs.Math.Seq.{take-suc}
use Rattle.std.proofs.lemmas.Bool.{ne_eqb}
use Rattle.std.proofs.lemmas.List.{length-append, length-map}
use Rattle.std.proofs.lemmas.List.Elements.{filter_map-append}
use Rattle.std.specs.List.{onto_first}
use Rattle.route_walks.specs.declared.graph.ArcRec.{ArcRec}
use Rattle.route_walks.specs.declared.graph.TheConstants.{MAX_VERTICES}
use Rattle.dimacs_text.specs.declared.fault.LineKind.{LineKind}
use Rattle.dimacs_text.specs.declared.form.Section.TheVariants.{Problem, Sources, Pairs, Added}
use Rattle.dimacs_text.specs.declared.reader.JobReader.{JobReader}
use Rattle.dimacs_text.specs.declared.stage.Stage.{Stage}
use Rattle.dimacs_text.specs.declared.stage.Stage.TheVariants.{Start, Within}
use Rattle.dimacs_text.specs.Forms.{Reading, Record, reading, readings, vertices_after}
use Rattle.dimacs_text.specs.GraphTexts.{HasNoGraphInside, IsGraphText}
use Rattle.dimacs_text.specs.Jobs.{Content, arc_record, problem_record, records_among, records_of, records_of_added}
use Rattle.dimacs_text.specs.Jobs.{records_of_question, IsJobText}
use Rattle.dimacs_text.specs.Lines.{lines}
use Rattle.dimacs_text.specs.Reading.{HasRead, HasReadBy, Keeps}
use Rattle.dimacs_text.specs.reader.Drafts.{IsReadAmong, progress_of, records_by}
use Rattle.dimacs_text.specs.reader.FastArc.{HasNoFeed}
use Rattle.dimacs_text.specs.reader.Machine.{lines_missing}
use Rattle.dimacs_text.proofs.GraphTextLemmas.{lines_test, readings_length, some_line}

-- ---- lines

-- bytes without a line feed begin the first line of what follows
tail_lines : (tail more : List ℕ) → HasNoFeed tail 0 (length tail) → 0 < length more
    → length (lines (tail ++ more)) ≡ length (lines more)
tail_lines [] more free some = refl
tail_lines (b ∷ bs) [] free some = absurd (omega arith)
tail_lines (b ∷ []) (m ∷ more) free some =
    let first = some_line m more in
    ap (λ ls. length ls) (lines_test false b (m ∷ more) (ne_eqb b 10 (free 0 (omega arith) (omega arith))) ∙ ap (λ ls. onto_first b ls) first.2)
    ∙ sym (ap (λ ls. length ls) first.2)
tail_lines (b ∷ c ∷ bs) (m ∷ more) free some =
    let first = some_line c (bs ++ m ∷ more) in
    ap (λ ls. length ls)
    (lines_test false b (c ∷ (bs ++ m ∷ more)) (ne_eqb b 10 (free 0 (omega arith) (omega arith))) ∙ ap (λ ls. onto_first b ls) first.2)
    ∙ sym (ap (λ ls. length ls) first.2)
    ∙ tail_lines (c ∷ bs) (m ∷ more) (λ k from to. free (suc k) (omega arith) (omega arith)) some

-- no line is empty of bytes
few_bytes_by : (test : Bool) (b : ℕ) (bs : List ℕ) → eqb b 10 ≡ test → length (lines bs) ≤ length bs
    → length (lines (b ∷ bs)) ≤ length (b ∷ bs)
few_bytes_by true b bs e few = omega (arith, few, ap (λ (ls : List (List ℕ)). length ls) (lines_test true b bs e))
few_bytes_by false b [] e few = omega (arith, few, ap (λ (ls : List (List ℕ)). length ls) (lines_test false b [] e))
few_bytes_by false b (c ∷ bs) e few =
    let first = some_line c bs in
    omega (
      arith,
      few,
      ap (λ (ls : List (List ℕ)). length ls) first.2,
      ap (λ (ls : List (List ℕ)). length ls) (lines_test false b (c ∷ bs) e ∙ ap (λ ls. onto_first b ls) first.2),
    )

pub few_bytes : (bytes : List ℕ) → length (lines bytes) ≤ length bytes
few_bytes [] = omega arith
few_bytes (b ∷ bs) = few_bytes_by (eqb b 10) b bs refl (few_bytes bs)

-- how many line feeds there are
abbrev pub feeds : List ℕ → ℕ
feeds [] = 0
feeds (b ∷ bs) = cond (eqb b 10) (suc (feeds bs)) (feeds bs)

pub feeds-append : (a b : List ℕ) → feeds (a ++ b) ≡ feeds a + feeds b
feeds-append [] b = omega arith
feeds-append (x ∷ a) b = by_test (eqb x 10) (feeds-append a b)
  where
    by_test : (test : Bool) → feeds (a ++ b) ≡ feeds a + feeds b
        → cond test (suc (feeds (a ++ b))) (feeds (a ++ b)) ≡ cond test (suc (feeds a)) (feeds a) + feeds b
    by_test true is = omega (arith, is)
    by_test false is = is

-- each line but the last has its own
few_feeds_by : (test : Bool) (b : ℕ) (bs : List ℕ) → eqb b 10 ≡ test → length (lines bs) ≤ feeds bs + 1
    → length (lines (b ∷ bs)) ≤ cond test (suc (feeds bs)) (feeds bs) + 1
few_feeds_by true b bs e few = omega (arith, few, ap (λ (ls : List (List ℕ)). length ls) (lines_test true b bs e))
few_feeds_by false b [] e few = omega (arith, few, ap (λ (ls : List (List ℕ)). length ls) (lines_test false b [] e))
few_feeds_by false b (c ∷ bs) e few =
    let first = some_line c bs in
    omega (
      arith,
      few,
      ap (λ (ls : List (List ℕ)). length ls) first.2,
      ap (λ (ls : List (List ℕ)). length ls) (lines_test false b (c ∷ bs) e ∙ ap (λ ls. onto_first b ls) first.2),
    )

pub few_feeds : (bytes : List ℕ) → length (lines bytes) ≤ feeds bytes + 1
few_feeds [] = omega arith
few_feeds (b ∷ bs) = few_feeds_by (eqb b 10) b bs refl (few_feeds bs)

-- a last line feed ends a line and begins none
last_feed_by : (test : Bool) (b : ℕ) (bs : List ℕ) → eqb b 10 ≡ test → length (lines (bs ++ 10 ∷ [])) ≤ feeds bs + 1
    → length (lines (b ∷ (bs ++ 10 ∷ []))) ≤ cond test (suc (feeds bs)) (feeds bs) + 1
last_feed_by true b bs e few =
    omega (arith, few, ap (λ (ls : List (List ℕ)). length ls) (lines_test true b (bs ++ 10 ∷ []) e))
last_feed_by false b [] e few =
    omega (arith, few, ap (λ (ls : List (List ℕ)). length ls) (lines_test false b (10 ∷ []) e))
last_feed_by false b (c ∷ bs) e few =
    let first = some_line c (bs ++ 10 ∷ []) in
    omega (
      arith,
      few,
      ap (λ (ls : List (List ℕ)). length ls) first.2,
      ap (λ (ls : List (List ℕ)). length ls)
          (lines_test false b (c ∷ (bs ++ 10 ∷ [])) e ∙ ap (λ ls. onto_first b ls) first.2),
    )

pub last_feed : (bytes : List ℕ) → length (lines (bytes ++ 10 ∷ [])) ≤ feeds bytes + 1
last_feed [] = omega arith
last_feed (b ∷ bs) = last_feed_by (eqb b 10) b bs refl (last_feed bs)

-- one byte more
pub fed_next : (bytes : List ℕ) (place : ℕ) → place < length bytes → get_or bytes place 0 ≡ 10
    → feeds (take (place + 1) bytes) ≡ feeds (take place bytes) + 1
fed_next bytes place inside is =
    let one : place + 1 ≡ suc place = omega arith in
    ap (λ n. feeds (take n bytes)) one
    ∙ ap (λ l. feeds l) (take-suc bytes place 0 inside ∙ ap (λ b. take place bytes ++ b ∷ []) is)
    ∙ feeds-append (take place bytes) (10 ∷ [])

pub other_next : (bytes : List ℕ) (place : ℕ) → place < length bytes → (get_or bytes place 0 ≡ 10 → ⊥)
    → feeds (take (place + 1) bytes) ≡ feeds (take place bytes)
other_next bytes place inside other =
    let one : place + 1 ≡ suc place = omega arith in
    ap (λ n. feeds (take n bytes)) one
    ∙ ap (λ l. feeds l) (take-suc bytes place 0 inside)
    ∙ feeds-append (take place bytes) (get_or bytes place 0 ∷ [])
    ∙ ap (λ test. feeds (take place bytes) + cond test 1 0) (ne_eqb (get_or bytes place 0) 10 other)
    ∙ omega arith

pub feed_last : (bytes : List ℕ) (place : ℕ) → place < length bytes → get_or bytes place 0 ≡ 10
    → length (lines (take (place + 1) bytes)) ≤ feeds (take place bytes) + 1
feed_last bytes place inside is =
    let one : place + 1 ≡ suc place = omega arith in
    subst (λ l. length (lines l) ≤ feeds (take place bytes) + 1)
    (sym (ap (λ n. take n bytes) one ∙ take-suc bytes place 0 inside ∙ ap (λ b. take place bytes ++ b ∷ []) is)) (last_feed (take place bytes))

-- the lines of what comes before a line feed are lines of the whole
abbrev FrontLines : List ℕ → List ℕ → Type 0
FrontLines front rest =
    (more : List (List ℕ))
    × (lines (front ++ 10 ∷ rest) ≡ lines front ++ more)
    × (length (lines rest) ≤ length more)

front_lines_by : (test : Bool) (b : ℕ) (bs rest : List ℕ) → eqb b 10 ≡ test → FrontLines bs rest → FrontLines (b ∷ bs) rest
front_lines_by true b bs rest e front = (
  front.0,
  lines_test true b (bs ++ 10 ∷ rest) e
      ∙ ap (λ ls. [] ∷ ls) front.1
      ∙ ap (λ ls. ls ++ front.0) (sym (lines_test true b bs e)),
  front.2,
)
front_lines_by false b [] rest e front = (
  lines rest,
  lines_test false b (10 ∷ rest) e ∙ ap (λ ls. ls ++ lines rest) (sym (lines_test false b [] e)),
  omega arith,
)
front_lines_by false b (c ∷ bs) rest e front =
    let first = some_line c bs in (
      front.0,
      lines_test false b (c ∷ (bs ++ 10 ∷ rest)) e
          ∙ ap (λ ls. onto_first b ls) (front.1 ∙ ap (λ ls. ls ++ front.0) first.2)
          ∙ ap (λ ls. onto_first b ls ++ front.0) (sym first.2)
          ∙ ap (λ ls. ls ++ front.0) (sym (lines_test false b (c ∷ bs) e)),
      front.2,
    )

front_lines : (front rest : List ℕ) → FrontLines front rest
front_lines [] rest = ([] ∷ lines rest, refl, omega arith)
front_lines (b ∷ bs) rest = front_lines_by (eqb b 10) b bs rest refl (front_lines bs rest)

-- ---- what they say

-- what the first lines say is said first
readings_front : (n : ℕ) (front more : List (List ℕ))
    → (later : List Reading) × (readings n (front ++ more) ≡ readings n front ++ later)
unfolding readings
readings_front n [] more = (readings n more, refl)
readings_front n (l ∷ ls) more =
    let later = readings_front (vertices_after n (reading n l)) ls more in
    (later.0, ap (λ rs. reading n l ∷ rs) later.1)

abbrev as_reading : Option Record → Reading
as_reading said = Ok said

-- of two lists with which one list begins, one begins with the other
prefixes : (a b : List (Option Record)) (x y : List Reading) → map as_reading a ++ x ≡ map as_reading b ++ y
    → ((more : List (Option Record)) × (a ≡ b ++ more)) ⊎ ((more : List (Option Record)) × (b ≡ a ++ more))
prefixes [] b x y e = inr (b, refl)
prefixes (s ∷ a) [] x y e = inl (s ∷ a, refl)
prefixes (s ∷ a) (t ∷ b) x y e = by_rest (prefixes a b x y rest)
  where
    first : s ≡ t
    first = cc

    rest : map as_reading a ++ x ≡ map as_reading b ++ y
    rest = cc

    by_rest : ((more : List (Option Record)) × (a ≡ b ++ more)) ⊎ ((more : List (Option Record)) × (b ≡ a ++ more))
        → ((more : List (Option Record)) × (s ∷ a ≡ (t ∷ b) ++ more)) ⊎ ((more : List (Option Record)) × (t ∷ b ≡ (s ∷ a) ++ more))
    by_rest (inl is) = inl (is.0, ap₂ (λ h l. h ∷ l) first is.1)
    by_rest (inr is) = inr (is.0, ap₂ (λ h l. h ∷ l) (sym first) is.1)

few_records : (said : List (Option Record)) → length (records_among said) ≤ length said
few_records [] = omega arith
few_records (None ∷ said) = let rest = few_records said in omega (arith, rest)
few_records (Some r ∷ said) = let rest = few_records said in omega (arith, rest)

-- ---- a graph

abbrev graph_records : Content → List Record
graph_records graph = problem_record graph.n (length graph.arcs) ∷ map arc_record graph.arcs

-- no lines that were read begin with those of a graph while some are missing, and no few lines more make them so
never_whole : (stage before : Stage) (n : ℕ) (arcs : List ArcRec) (sources : List ℕ) (pairs : List (ℕ × ℕ))
    (added : List ArcRec) (read whole : List (Option Record)) (graph : Content)
    → records_among read ≡ records_by stage before n arcs sources pairs added
    → records_among whole ≡ graph_records graph
    → ((more : List (Option Record)) × (read ≡ whole ++ more)) ⊎ ((more : List (Option Record)) × (whole ≡ read ++ more))
    → 0 < lines_missing stage → length whole < length read + lines_missing stage
    → ⊥
never_whole Start before n arcs sources pairs added read whole graph has is (inl more) some few =
    let parts = ap (λ l. records_among l) more.1 ∙ filter_map-append (λ r. r) whole more.0 in
    omega (
      arith,
      ap (λ (l : List Record). length l) has,
      ap (λ (l : List Record). length l) is,
      ap (λ (l : List Record). length l) parts,
      length-append (records_among whole) (records_among more.0),
    )
never_whole Start before n arcs sources pairs added read whole graph has is (inr more) some few =
    let parts = ap (λ l. records_among l) more.1 ∙ filter_map-append (λ r. r) read more.0 in
    omega (
      arith,
      few,
      few_records more.0,
      ap (λ (l : List (Option Record)). length l) more.1,
      length-append read more.0,
      ap (λ (l : List Record). length l) has,
      ap (λ (l : List Record). length l) is,
      ap (λ (l : List Record). length l) parts,
      length-append (records_among read) (records_among more.0),
    )
never_whole (Within Problem missing) before n arcs sources pairs added read whole graph has is (inl more) some few =
    let parts = ap (λ l. records_among l) more.1 ∙ filter_map-append (λ r. r) whole more.0 in
    let heads : problem_record n (length arcs + missing) ∷ map arc_record arcs
    ≡ problem_record graph.n (length graph.arcs) ∷ (map arc_record graph.arcs ++ records_among more.0) =
    sym has ∙ parts ∙ ap (λ l. l ++ records_among more.0) is in
    let same : problem_record n (length arcs + missing) ≡ problem_record graph.n (length graph.arcs) = cc in
    let counts : length arcs + missing ≡ length graph.arcs = ap (λ (r : Record). get_or r.numbers 1 0) same in
    omega (
      arith,
      some,
      few,
      counts,
      ap (λ (l : List (Option Record)). length l) more.1,
      length-append whole more.0,
      ap (λ (l : List Record). length l) heads,
      length-append (map arc_record graph.arcs) (records_among more.0),
      length-map arcs arc_record,
      length-map graph.arcs arc_record,
    )
never_whole (Within Problem missing) before n arcs sources pairs added read whole graph has is (inr more) some few =
    let parts = ap (λ l. records_among l) more.1 ∙ filter_map-append (λ r. r) read more.0 in
    let heads : problem_record graph.n (length graph.arcs) ∷ map arc_record graph.arcs
    ≡ problem_record n (length arcs + missing) ∷ (map arc_record arcs ++ records_among more.0) =
    sym is ∙ parts ∙ ap (λ l. l ++ records_among more.0) has in
    let same : problem_record graph.n (length graph.arcs) ≡ problem_record n (length arcs + missing) = cc in
    let counts : length graph.arcs ≡ length arcs + missing = ap (λ (r : Record). get_or r.numbers 1 0) same in
    omega (
      arith,
      few,
      counts,
      few_records more.0,
      ap (λ (l : List (Option Record)). length l) more.1,
      length-append read more.0,
      ap (λ (l : List Record). length l) heads,
      length-append (map arc_record arcs) (records_among more.0),
      length-map arcs arc_record,
      length-map graph.arcs arc_record,
    )
never_whole (Within Sources missing) before n arcs sources pairs added read whole graph has is parts some few = absurd (omega (arith, some))
never_whole (Within Pairs missing) before n arcs sources pairs added read whole graph has is parts some few = absurd (omega (arith, some))
never_whole (Within Added missing) before n arcs sources pairs added read whole graph has is parts some few = absurd (omega (arith, some))

records_are : (graph : Content) (text : List ℕ) → IsGraphText text graph → records_of graph ≡ graph_records graph
records_are graph text is =
    ap₂ (λ q a. graph_records graph ++ records_of_question q ++ records_of_added a) is.unasked is.unadded
    ∙ append-nil (graph_records graph ++ [])
    ∙ append-nil (graph_records graph)

-- what came of an unfinished line has no line feed
tail_of : (fault : Option LineKind) (inside : Bool) (whole kept text : List ℕ) → fault ≡ None
    → Keeps fault inside whole kept text
    → (tail : List ℕ) × (text ≡ whole ++ tail) × HasNoFeed tail 0 (length tail)
tail_of fault false whole kept text right keeps =
    let is = subst (λ o. Keeps o false whole kept text) right keeps in (kept, is.0, is.1)
tail_of fault true whole kept text right keeps =
    let is = subst (λ o. Keeps o true whole kept text) right keeps in (is.1.0, is.1.1, is.1.2.no_feed)

-- a graph among lines of which a front was read
never_among : (reader : JobReader) (all rest : List (List ℕ)) (front : List ℕ) (more : List (List ℕ)) (graph : Content)
    → IsReadAmong all rest reader.lines.line (progress_of reader.lines.draft)
    → all ≡ lines front ++ more → IsGraphText front graph → 0 < lines_missing reader.lines.draft.stage
    → length (lines front) + length rest < length all + lines_missing reader.lines.draft.stage
    → ⊥
unfolding IsJobText
never_among reader all rest front more graph read parts is some few =
    let (said, reads, records) = is.is_job in
    let draft = reader.lines.draft in
    let later = readings_front MAX_VERTICES (lines front) more in
    let both : map as_reading read.said ++ readings draft.vertices rest ≡ map as_reading said ++ later.0 =
    sym read.split ∙ ap (λ ls. readings MAX_VERTICES ls) parts ∙ later.1 ∙ ap (λ rs. rs ++ later.0) reads in
    never_whole draft.stage draft.before_added draft.vertices draft.arcs.items draft.sources.items draft.pairs.items
    draft.added.items read.said said graph read.records (records ∙ records_are graph front is)
    (prefixes read.said said (readings draft.vertices rest) later.0 both) some
    (omega (
      arith,
      few,
      ap (λ (rs : List Reading). length rs) read.split,
      ap (λ (rs : List Reading). length rs) reads,
      readings_length MAX_VERTICES all,
      readings_length MAX_VERTICES (lines front),
      readings_length draft.vertices rest,
      length-append (map as_reading read.said) (readings draft.vertices rest),
      length-map read.said as_reading,
      length-map said as_reading,
    ))

-- so many lines more have no graph inside
pub missing_inside : (reader : JobReader) (text more : List ℕ) → reader.lines.fault ≡ None → HasRead reader text
    → 0 < lines_missing reader.lines.draft.stage → 0 < length more
    → length (lines more) ≤ lines_missing reader.lines.draft.stage
    → HasNoGraphInside (text ++ more)
missing_inside reader text more right r some filled few front rest graph parts is = by_rest rest refl
  where
    by_rest : (l : List ℕ) → rest ≡ l → rest ≡ []
    by_rest [] e = e
    by_rest (x ∷ xs) e =
        let tail = tail_of reader.lines.fault reader.in_comment r.whole reader.unfinished.items text right r.keeps in
        let reads = subst (λ o. HasReadBy o reader.lines.draft reader.lines.line r.whole) right r.lines in
        let next = tail.0 ++ more in
        let read = reads.1 next in
        let same : r.whole ++ next ≡ front ++ 10 ∷ rest =
        sym (append_assoc r.whole tail.0 more) ∙ ap (λ t. t ++ more) (sym tail.1) ∙ parts in
        let initial = front_lines front rest in
        let all = ap (λ (bytes : List ℕ). lines bytes) same ∙ initial.1 in
        let one = ap (λ (bytes : List ℕ). length (lines bytes)) e ∙ ap (λ (ls : List (List ℕ)). length ls) (some_line x xs).2 in
        absurd
        (never_among reader (lines (r.whole ++ next)) (lines next) front initial.0 graph read all is some
        (omega (
          arith,
          few,
          one,
          initial.2,
          tail_lines tail.0 more tail.2 filled,
          ap (λ (ls : List (List ℕ)). length ls) all,
          length-append (lines front) initial.0,
        )))

pub none_in : (o : Option LineKind) → is_some o ≡ false → o ≡ None
none_in None e = refl
none_in (Some kind) e = absurd (cc)
