-- What is so of each row is so of each arc.
use Rattle.std.proofs.Common.{◌≡◌, ◌∙◌, sym, refl, ℕ, ◌+◌, ◌<◌, ◌≤◌, List, [], ◌∷◌, get_or, subst, arith, below_more}
use Rattle.std.specs.Prelude.{All, Contains, IfSome, Option, Some, None}
use Rattle.std.proofs.lemmas.List.Elements.{All-contains, Contains-get_or}
use Rattle.route_walks.specs.declared.graph.ArcRec.{ArcRec}
use Rattle.csr_graph.specs.Graph.{Graph, IsInRows, arc_to, targets_of}
use Rattle.csr_graph.specs.declared.target.Target.{Target}
use Rattle.csr_graph.proofs.Facts.{row_all, row_arcs}
use Rattle.near_labels.specs.UpDown.{HasUpDown}
use Rattle.near_labels.proofs.Facts.{walk-none}
use Rattle.hierarchy.specs.Checked.{AreBridged, AreMet, HasArc, HasTarget, IsOver}

-- the arcs of the rows of the first vertices have a property
abbrev pub AreRowsBelow : (ArcRec → Type 0) → List ArcRec → ℕ → Type 0
AreRowsBelow P arcs count =
    (u : ℕ) → u < count → All (λ (target : Target). P (arc_to u target)) (targets_of arcs u)

-- one row more has it
pub rows-more : (P : ArcRec → Type 0) (arcs : List ArcRec) (count : ℕ) → AreRowsBelow P arcs count
    → All (λ (target : Target). P (arc_to count target)) (targets_of arcs count)
    → AreRowsBelow P arcs (count + 1)
rows-more P arcs count before here =
    below_more (λ (u : ℕ). All (λ (target : Target). P (arc_to u target)) (targets_of arcs u)) count before here

-- so each arc has it
pub rows-all : (P : ArcRec → Type 0) (graph : Graph) (count : ℕ) → IsInRows graph → graph.n ≤ count
    → AreRowsBelow P graph.arcs count → All P graph.arcs
rows-all P graph count rows all each k d lt =
    let arc : ArcRec = get_or graph.arcs k d in
    let below : arc.tail < graph.n = (rows.ends k d lt).0 in
    row_all P graph.arcs arc.tail (each arc.tail (omega (arith, below, all))) arc (Contains-get_or graph.arcs k d lt) refl

-- a target of a row is an arc
pub arc-of_target : (graph : Graph) → IsInRows graph → (u : ℕ) (row : List Target) → row ≡ targets_of graph.arcs u
    → (head most : ℕ) → HasTarget row head most → HasArc graph.arcs u head most
arc-of_target graph rows u row is head most has = record {
  arc = arc_to u has.target;
  within =
      (All-contains (λ (target : Target). Contains graph.arcs (arc_to u target) × (target.head < graph.n)) row has.target
      (row_arcs graph rows u row is) has.within).0;
  leaves = refl;
  enters = has.enters;
  cheap = has.cheap;
}

-- where each way over a vertex is bridged, each way over lower vertices is
pub bridged-all : (up down : Graph) (count : ℕ) → IsInRows up → IsInRows down → down.n ≡ up.n → up.n ≤ count
    → ((v : ℕ) → v < count
    → All (λ (from : Target). AreMet up.arcs down.arcs from.head from.weight (targets_of up.arcs v)) (targets_of down.arcs v))
    → AreBridged up.arcs down.arcs
bridged-all up down count rows rows' same all each from onto falls rises meets =
    let ends = (All-contains (λ (arc : ArcRec). (arc.tail < down.n) × (arc.head < down.n)) down.arcs from rows'.ends falls).0 in
    let v = from.tail in
    let row =
    row_all (λ (arc : ArcRec). AreMet up.arcs down.arcs arc.head arc.weight (targets_of up.arcs v)) down.arcs v
    (each v (omega (arith, ends, same, all))) from falls refl in
    row_all (λ (arc : ArcRec). HasUpDown up.arcs down.arcs from.head arc.head (from.weight + arc.weight)) up.arcs v row onto
    rises meets

-- a vertex is met from itself
pub met-here : (ups downs : List ArcRec) (u v c : ℕ) → u ≡ v → HasUpDown ups downs u v c
met-here ups downs u v c same =
    subst (λ (x : ℕ). HasUpDown ups downs u x c) same (record {
      top = u;
      rise = 0;
      fall = 0;
      up = walk-none ups u 0;
      down = walk-none downs u 0;
      cheap = omega arith;
    })

-- and over one arc up, or down
pub met-up : (ups downs : List ArcRec) (u v most : ℕ) → HasArc ups u v most → HasUpDown ups downs u v most
met-up ups downs u v most has = record {
  top = v;
  rise = most;
  fall = 0;
  up = record {
    walk = has.arc ∷ [];
    walks = (has.within, has.leaves, has.enters);
    cheap = omega (arith, has.cheap);
  };
  down = walk-none downs v 0;
  cheap = omega arith;
}

pub met-down : (ups downs : List ArcRec) (u v most : ℕ) → HasArc downs v u most → HasUpDown ups downs u v most
met-down ups downs u v most has = record {
  top = u;
  rise = 0;
  fall = most;
  up = walk-none ups u 0;
  down = record {
    walk = has.arc ∷ [];
    walks = (has.within, has.leaves, has.enters);
    cheap = omega (arith, has.cheap);
  };
  cheap = omega arith;
}

-- and over an arc up from each
pub met-over : (ups downs : List ArcRec) (u v top a b most : ℕ) → HasArc ups u top a → HasArc downs v top b → a + b ≤ most
    → HasUpDown ups downs u v most
met-over ups downs u v top a b most has has' sum = record {
  top = top;
  rise = a;
  fall = b;
  up = record {
    walk = has.arc ∷ [];
    walks = (has.within, has.leaves, has.enters);
    cheap = omega (arith, has.cheap);
  };
  down = record {
    walk = has'.arc ∷ [];
    walks = (has'.within, has'.leaves, has'.enters);
    cheap = omega (arith, has'.cheap);
  };
  cheap = sum;
}

-- a target of each of two rows of a place make a way over it
pub over-of_targets : (up down : Graph) → IsInRows up → IsInRows down → (v : ℕ) (rises falls : List Target)
    → rises ≡ targets_of up.arcs v → falls ≡ targets_of down.arcs v
    → (u w a b most : ℕ) → HasTarget falls u a → HasTarget rises w b → a + b ≤ most
    → IsOver up.arcs down.arcs u w most
over-of_targets up down rows rows' v rises falls is is' u w a b most has has' sum =
    let from = arc-of_target down rows' v falls is' u a has in
    let onto = arc-of_target up rows v rises is w b has' in
    record {
      from = from.arc;
      onto = onto.arc;
      falls = from.within;
      rises = onto.within;
      meets = onto.leaves ∙ sym from.leaves;
      leaves = from.enters;
      enters = onto.enters;
      cheap = omega (arith, from.cheap, onto.cheap, sum);
    }

-- what follows of a value follows of the one that there may be
pub if-some : (o : Option ℕ) (P Q : ℕ → Type 0) → ((x : ℕ) → P x → Q x) → IfSome o P → IfSome o Q
if-some None P Q more is = tt
if-some (Some x) P Q more is = more x is
