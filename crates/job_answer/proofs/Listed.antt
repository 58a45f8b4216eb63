-- A list of the vertices within a bound, each with its label, tells the lines of all labels within it.
use Rattle.std.proofs.Common.{◌≡◌, ◌∙◌, ℕ, ◌+◌, ◌<◌, ◌≤◌, true, false, List, [], ◌∷◌, ◌++◌, drop, length, get_or}
use Rattle.std.proofs.Common.{Bool, None, Some, slice_index}
use Rattle.std.proofs.Common.{zero, suc, refl, subst, sym, ap, arith, inl, inr, nat_le}
use Rattle.std.specs.Prelude.{All, Contains, slice_index_or}
use Rattle.std.specs.declared.vec.Vec.{Vec}
use Rattle.std.specs.declared.alloc.Global.{Global}
use Rattle.std.proofs.lemmas.Bool.{cases_lt}
use Rattle.std.proofs.lemmas.Bool.Decides.{nat_tests}
use Rattle.std.proofs.lemmas.List.{drop_more, get_or_read, get_or-map, length-map}
use Rattle.route_walks.specs.declared.graph.ArcRec.{ArcRec}
use Rattle.route_walks.specs.declared.graph.Seed.{Seed}
use Rattle.route_walks.specs.Existence.{LeastLabelsExist}
use Rattle.route_walks.specs.Label.{AreLeastLabels, IsLeast, LeastLabelsAreUnique}
use Rattle.route_walks.specs.Operators.{seeds_from}
use Rattle.walk_report.specs.Existence.{HopsAndParentsExist}
use Rattle.walk_report.specs.Told.{IsWalkOf, walks_in}
use Rattle.near_labels.specs.Found.{AreWalksFound}
use Rattle.near_labels.specs.Noted.{AreThoseWithin, DoRise}
use Rattle.near_labels.specs.declared.walks.WalksFound.{WalksFound}
use Rattle.least_costs.proofs.Facts.{start-seeds}
use Rattle.least_costs.specs.Network.{IsNetwork, IsStartWithin, NetworkSeen}
use Rattle.least_costs.specs.declared.start.Start.{Start}
use Rattle.least_costs.specs.declared.start.Start.TheVariants.{At}
use Rattle.answer_lines.specs.Lines.{label_text, source_text}
use Rattle.job_answer.specs.declared.question.asked.Lines.{Lines}
use Rattle.job_answer.specs.declared.output.near_block.NearBlock.{NearBlock}
use Rattle.job_answer.specs.AnswerText.{vertex_text}
use Rattle.job_answer.specs.NearBlock.{AreTextsOf, AreWalksAsked, IsNearBlock, vertices_of}
use Rattle.job_answer.specs.Solves.{IsStartBlock}
use Rattle.job_answer.specs.Within.{lines_within, listed_text}
use Rattle.job_answer.proofs.NearPairs.{walk-line}

-- ---- lines of a list

-- the line of the entry at a place, and the lines after it
pub listed_text-next : (text : ℕ → ℕ → List ℕ) (found : List (ℕ × ℕ)) (k : ℕ) → k < length found
    → listed_text text (drop k found)
    ≡ text (slice_index_or found k (0, 0)).0 (slice_index_or found k (0, 0)).1 ++ listed_text text (drop (k + 1) found)
listed_text-next text found k below = ap (listed_text text) (drop_more found k (0, 0) below)

-- ---- places that rise

-- without its first entry a list rises still
rises-tail : (e : ℕ × ℕ) (found : List (ℕ × ℕ)) → DoRise (e ∷ found) → DoRise found
rises-tail e found rise k lt =
    let at : suc k + 1 ≡ suc (k + 1) = omega arith in
    let up : (slice_index_or (e ∷ found) (suc k) (0, 0)).0 < (slice_index_or (e ∷ found) (suc k + 1) (0, 0)).0 =
    rise (suc k) (omega arith) in
    subst (λ (i : ℕ). (slice_index_or found k (0, 0)).0 < (slice_index_or (e ∷ found) i (0, 0)).0) at up

-- the first is below each other one
rises-first : (e : ℕ × ℕ) (found : List (ℕ × ℕ)) → DoRise (e ∷ found) → (k : ℕ) → k < length found
    → e.0 < (slice_index_or found k (0, 0)).0
rises-first e found rise zero lt = rise 0 (omega arith)
rises-first e found rise (suc k) lt =
    let before : e.0 < (slice_index_or found k (0, 0)).0 = rises-first e found rise k (omega arith) in
    let at : k + 1 ≡ suc k = omega arith in
    let up : (slice_index_or found k (0, 0)).0 < (slice_index_or found (suc k) (0, 0)).0 =
    subst (λ (i : ℕ). (slice_index_or found k (0, 0)).0 < (slice_index_or found i (0, 0)).0) at
    (rises-tail e found rise k (omega arith)) in
    omega (arith, before, up)

-- ---- labels from a vertex on, and the list of those within a bound

-- an entry is one of the labels from vertex v on, within the bound
abbrev IsEntry : ℕ → ℕ → List ℕ → ℕ × ℕ → Type 0
IsEntry bound v labels entry =
    (j : ℕ) × (j < length labels) × (entry.0 ≡ v + j) × (get_or labels j 0 ≡ entry.1) × (entry.1 ≤ bound)

-- the entries are all those, in rising order
record AreEntries (bound v : ℕ) (labels : List ℕ) (found : List (ℕ × ℕ)) : Type 0 where
  each : (k : ℕ) → k < length found → IsEntry bound v labels (slice_index_or found k (0, 0))
  all : (j w : ℕ) → j < length labels → w ≡ v + j → get_or labels j 0 ≤ bound
      → Contains found (w, get_or labels j 0)
  rise : DoRise found

module _ (bound v label : ℕ) (labels : List ℕ) where
  -- an entry that isn't that of the first label is one of the others
  entry-after : (entry : ℕ × ℕ) → IsEntry bound v (label ∷ labels) entry → (entry.0 ≡ v → label ≡ entry.1 → ⊥)
      → IsEntry bound (v + 1) labels entry
  entry-after entry (zero, lt, is, same, small) other = absurd (other (omega (arith, is)) same)
  entry-after entry (suc j, lt, is, same, small) other = (j, omega (arith, lt), omega (arith, is), same, small)

  -- a label past the bound has no entry
  entries-skip : (found : List (ℕ × ℕ)) → bound < label → AreEntries bound v (label ∷ labels) found
      → AreEntries bound (v + 1) labels found
  entries-skip found past are = record {
    each = λ k lt.
        let is = are.each k lt in
        entry-after (slice_index_or found k (0, 0)) is (λ _ same. omega (arith, is.4, same, past));
    all = λ j w lt at small. are.all (suc j) w (omega arith) (omega arith) small;
    rise = are.rise;
  }

  -- a label that has an entry has the first one
  first-entry : (e : ℕ × ℕ) (found : List (ℕ × ℕ)) → AreEntries bound v (label ∷ labels) (e ∷ found)
      → Contains (e ∷ found) (v, label) → e ≡ (v, label)
  first-entry e found are (zero, lt, is) = is
  first-entry e found are (suc k, lt, is) =
      let inside : k < length found = omega (arith, lt) in
      let there : (v, label) ≡ slice_index_or found k (0, 0) = get_or_read found k (v, label) inside (sym is) (0, 0) in
      let low = are.each 0 (omega arith) in
      absurd
      (omega (arith, low.2, rises-first e found are.rise k inside, ap (λ (entry : ℕ × ℕ). entry.0) there))

  -- an entry of another vertex is one of the others
  entry-later : (e : ℕ × ℕ) (found : List (ℕ × ℕ)) (w d : ℕ) → (e.0 ≡ w → ⊥) → Contains (e ∷ found) (w, d)
      → Contains found (w, d)
  entry-later e found w d other (zero, lt, is) = absurd (other (ap (λ (entry : ℕ × ℕ). entry.0) is))
  entry-later e found w d other (suc k, lt, is) = (k, omega (arith, lt), is)

  -- without the first entry the list is that of the labels after the first
  entries-rest : (e : ℕ × ℕ) (found : List (ℕ × ℕ)) → e ≡ (v, label) → AreEntries bound v (label ∷ labels) (e ∷ found)
      → AreEntries bound (v + 1) labels found
  entries-rest e found first are =
      let at : e.0 ≡ v = ap (λ (entry : ℕ × ℕ). entry.0) first in
      record {
        each = λ k lt.
            entry-after (slice_index_or found k (0, 0)) (are.each (suc k) (omega arith))
            (λ same _. omega (arith, same, at, rises-first e found are.rise k lt));
        all = λ j w lt is small.
            entry-later e found w (get_or labels j 0) (λ same. omega (arith, same, at, is))
            (are.all (suc j) w (omega arith) (omega arith) small);
        rise = rises-tail e found are.rise;
      }

  -- the text of a label within the bound is that of the first entry, before those of the others
  text-here : (text : ℕ → ℕ → List ℕ) (found : List (ℕ × ℕ)) → AreEntries bound v (label ∷ labels) found → Contains found (v, label)
      → ((rest : List (ℕ × ℕ)) → AreEntries bound (v + 1) labels rest
      → lines_within bound text (v + 1) labels ≡ listed_text text rest)
      → text v label ++ lines_within bound text (v + 1) labels ≡ listed_text text found
  text-here text [] are here after = absurd (omega (arith, here.1))
  text-here text (e ∷ rest) are here after =
      let first : e ≡ (v, label) = first-entry e rest are here in
      ap (λ (lines : List ℕ). text v label ++ lines) (after rest (entries-rest e rest first are))
      ∙ sym (ap (λ (entry : ℕ × ℕ). text entry.0 entry.1 ++ listed_text text rest) first)

-- the texts of the labels within the bound are those of the entries
entries-text : (text : ℕ → ℕ → List ℕ) (bound v : ℕ) (labels : List ℕ) (found : List (ℕ × ℕ))
    → AreEntries bound v labels found
    → lines_within bound text v labels ≡ listed_text text found
entries-text text bound v [] [] are = refl
entries-text text bound v [] (e ∷ found) are = absurd (omega (arith, (are.each 0 (omega arith)).1))
entries-text text bound v (label ∷ labels) found are =
    elim (cases_lt bound label) [
      | inl past ↦
          let test : nat_le label bound ≡ false = grind (arith, nat_tests) in
          rw test (entries-text text bound (v + 1) labels found (entries-skip bound v label labels found past are))
      | inr few ↦
          let test : nat_le label bound ≡ true = grind (arith, nat_tests) in
          let here : Contains found (v, label) = are.all 0 v (omega arith) (omega arith) few in
          rw test (text-here bound v label labels text found are here (entries-text text bound (v + 1) labels))
    ]

-- where labels are least, the list of those within the bound tells their texts
pub within-listed : LeastLabelsAreUnique → (text : ℕ → ℕ → List ℕ) (bound n : ℕ) (arcs : List ArcRec) (seeds : List Seed)
    (labels : List ℕ) (found : List (ℕ × ℕ))
    → AreLeastLabels n arcs seeds labels → AreThoseWithin bound n arcs seeds found
    → lines_within bound text 0 labels ≡ listed_text text found
within-listed law text bound n arcs seeds labels found least those =
    entries-text text bound 0 labels found
    (record {
      each = λ k lt.
          let entry : ℕ × ℕ = slice_index_or found k (0, 0) in
          let is = those.each k (0, 0) lt in (
            entry.0,
            omega (arith, is.0, least.count),
            omega arith,
            law arcs seeds entry.0 (get_or labels entry.0 0) entry.1 (least.least entry.0 is.0) is.2,
            is.1,
          );
      all = λ j w lt at small.
          let inside : j < n = omega (arith, lt, least.count) in
          let same : j ≡ w = omega arith in
          those.all w (get_or labels j 0) (omega (arith, inside, same))
          (subst (λ (x : ℕ). IsLeast arcs seeds x (get_or labels j 0)) same (least.least j inside)) small;
      rise = those.rise;
    })

-- without walks none are asked for
unasked : (asked : Bool) (net : NetworkSeen) (source : ℕ) (found : List (ℕ × ℕ)) → AreWalksAsked asked net source found None
    → asked ≡ false
unasked true net source found walked = absurd walked
unasked false net source found walked = refl

-- with walks they are
walks-asked : (asked : Bool) (net : NetworkSeen) (source : ℕ) (found : List (ℕ × ℕ)) (walks : WalksFound)
    → AreWalksAsked asked net source found (Some walks)
    → (asked ≡ true) × AreWalksFound net.n net.arcs source (vertices_of found) walks
walks-asked true net source found walks walked = (refl, walked)
walks-asked false net source found walks walked = absurd walked

-- so a list of near vertices tells the block of its start
pub near-told : LeastLabelsExist → LeastLabelsAreUnique → (by : Lines) (from : Start) (net : NetworkSeen)
    (near : NearBlock)
    → IsNetwork net → IsStartWithin net.n from → IsNearBlock by from net near → near.walks ≡ None
    → IsStartBlock by from net.n net.arcs (source_text near.source ++ listed_text label_text near.found.items)
near-told exist law by from net near is within are alone =
    let source : near.source < net.n = rw are.start_is at within in
    let some = exist net.n net.arcs (seeds_from near.source) is.ends (start-seeds net.n (At near.source) source) in
    let walked : AreWalksAsked are.walks net near.source near.found.items None = rw alone at are.walked in
    let plain : are.walks ≡ false = unasked are.walks net near.source near.found.items walked in
    rw (are.lines_are, are.start_is, plain)
    (record {
      labels = some.0;
      least = some.1;
      written =
          ap (λ (lines : List ℕ). source_text near.source ++ lines)
          (sym
          (within-listed law label_text are.bound net.n net.arcs (seeds_from near.source) some.0 near.found.items some.1
          are.within));
    })

-- and with walks there
pub near-walked : LeastLabelsExist → LeastLabelsAreUnique → HopsAndParentsExist → (by : Lines) (from : Start)
    (net : NetworkSeen) (near : NearBlock) (walks : WalksFound)
    → IsNetwork net → IsStartWithin net.n from → IsNearBlock by from net near → near.walks ≡ Some walks
    → (text : ℕ → ℕ → List ℕ)
    × AreTextsOf text near.found.items walks.walks.items
    × IsStartBlock by from net.n net.arcs (source_text near.source ++ listed_text text near.found.items)
near-walked exist law led by from net near walks is within are alone =
    let n = net.n in
    let arcs = net.arcs in
    let source : near.source < n = rw are.start_is at within in
    let (least, whole) = exist n arcs (seeds_from near.source) is.ends (start-seeds n (At near.source) source) in
    let (fewest, nearest, are_hops, are_parents) = led n arcs near.source least is.few is.ends source whole in
    let walked : AreWalksAsked are.walks net near.source near.found.items (Some walks) = rw alone at are.walked in
    let (asked, told) = walks-asked are.walks net near.source near.found.items walks walked in
    let found = near.found.items in
    let text : ℕ → ℕ → List ℕ = vertex_text (slice_index fewest) (slice_index nearest) in (
      text,
      λ k below.
          let entry : ℕ × ℕ = slice_index_or found k (0, 0) in
          let here = are.within.each k (0, 0) below in
          let v-is : slice_index (vertices_of found) k ≡ entry.0 = get_or-map (λ (e : ℕ × ℕ). e.0) found k (0, 0) 0 below in
          let many : k < length (vertices_of found) = omega (arith, below, length-map found (λ (e : ℕ × ℕ). e.0)) in
          let walk : List ℕ = slice_index_or (walks_in walks.walks.items) k [] in
          let label : ℕ = slice_index walks.labels.items k in
          let is-walk : IsWalkOf n arcs near.source entry.0 label walk = rw v-is at (told.each k many) in
          let told-label = (is-walk.told least fewest nearest whole are_hops are_parents).label in
          let same : entry.1 ≡ label =
          law arcs (seeds_from near.source) entry.0 entry.1 (slice_index least entry.0) here.2 (whole.least entry.0 here.0) ∙ told-label in
          ap (λ (part : List ℕ). label_text entry.0 entry.1 ++ part)
          (sym (rw (← same) at (walk-line n arcs near.source entry.0 label walk least fewest nearest whole are_hops are_parents here.0 is-walk))),
      rw (are.lines_are, are.start_is, asked)
          (record {
            labels = least;
            hops = fewest;
            parents = nearest;
            walked = record { least = whole; fewest = are_hops; before = are_parents };
            written =
                ap (λ (lines : List ℕ). source_text near.source ++ lines)
                (sym (within-listed law text are.bound n arcs (seeds_from near.source) least found whole are.within));
          }),
    )

-- the walks of a block are among the vertices of its network
pub near-within : (by : Lines) (from : Start) (net : NetworkSeen) (near : NearBlock) (walks : WalksFound)
    → IsNearBlock by from net near → near.walks ≡ Some walks
    → All (λ (walk : Vec ℕ Global). All (λ u. u < net.n) walk.items) walks.walks.items
near-within by from net near walks are alone k d lt =
    let walked : AreWalksAsked are.walks net near.source near.found.items (Some walks) = rw alone at are.walked in
    let (asked, told) = walks-asked are.walks net near.source near.found.items walks walked in
    let is : slice_index_or (walks_in walks.walks.items) k [] ≡ (get_or walks.walks.items k d).items =
    get_or-map (λ (v : Vec ℕ Global). v.items) walks.walks.items k d [] lt in
    subst (All (λ (u : ℕ). u < net.n)) is (told.each k (omega (arith, lt, told.walks))).within
