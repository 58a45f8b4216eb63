-- Each turn reaches the head of one more arc of the row.
use Rattle.std.proofs.Common.{◌≡◌, ◌≢◌, ◌∙◌, ℕ, ◌<◌, length, slice_index, get_or, set, List, [], ◌∷◌, ◌++◌, sym, ap, arith}
use Rattle.std.specs.List.{Contains}
use Rattle.std.proofs.lemmas.List.{get_or_read, get_or-set_other, get_or_append_left, length_push}
use Rattle.std.proofs.lemmas.List.Elements.{All-contains}
use Rattle.std.proofs.lemmas.Bool.{false≢true}
use Rattle.route_walks.specs.Walk.{IsArcBelow}
use Rattle.csr_graph.specs.declared.target.Target.{Target}
use Rattle.csr_graph.specs.Graph.{Graph, IsInRows, arc_to}
use Rattle.csr_graph.proofs.Facts.{row_arcs, no_target}
use Rattle.walk_report.specs.declared.hop.TheConstants.{NONE}
use Rattle.walk_report.specs.Search.{HasTightWalk, IsTightBelow}
use Rattle.walk_report.proofs.Filling.{filled-pass, filled-put, filled-all}
use Rattle.walk_report.proofs.LeastWalks.{tight-more}
use Rattle.walk_report.proofs.Searching.{search-small, search-push, search-near}
use Rattle.walk_report.proofs.hop.visit.Invariants.{IsVisiting}
use Rattle.walk_report.proofs.hop.visit.Goals as goal
use Rattle.walk_report.proofs.hop.visit.Goals.{then-is_tight+then-hops-head+in_ok-push, else-is_tight}
use Rattle.walk_report.proofs.hop.visit.Goals.{else-is_tight-via-then-is_tight+else-hops-head}
use Rattle.walk_report.proofs.hop.visit.Goals.{else-is_tight-via-else-is_tight}

-- the head of a tight arc gets the hop
reaches : {limit : ℕ} {graph : Graph} → IsInRows graph → {label : ℕ → ℕ} {hops queue : List ℕ} {next u h s : ℕ}
    → IsVisiting limit graph label hops queue next u h s
    → (target : Target) → Contains graph.arcs (arc_to u target) × (target.head < graph.n)
    → IsTightBelow limit label (arc_to u target)
    → slice_index hops target.head ≡ NONE
    → IsVisiting limit graph label (set hops target.head h) (queue ++ target.head ∷ []) next u h s
reaches {limit = limit} {graph = graph} rows {label = label} {hops = hops} {queue = queue} {next = next} {u = u} {h = h} inv target at
    tight unset =
    let v = target.head in
    let from = inv.search.found next inv.place in
    let here = slice_index queue next in
    let at_next = rw (← inv.vertex) at at.0 in
    let tight_next : IsTightBelow limit label (record { tail = here; head = v; weight = target.weight }) =
    rw (← inv.vertex) at tight in
    let walk : HasTightWalk limit graph.arcs label (slice_index queue 0) v (label v) h =
    rw (← tight.0, inv.hop, ← inv.vertex)
    (tight-more limit graph.arcs label (slice_index queue 0) here v target.weight (label here)
    (slice_index hops here) at_next tight_next from.walk) in
    let keep : (k : ℕ) → k < length queue → slice_index (queue ++ v ∷ []) k ≡ slice_index queue k =
    λ k old. get_or_append_left queue (v ∷ []) 0 k old in
    record {
      search = search-push inv.search rows.vertices inv.place v h inv.hop at.1 unset walk tight.1;
      place = omega (arith, length_push queue v, inv.place);
      vertex = keep next inv.place ∙ inv.vertex;
      hop =
          rw (
            keep next inv.place,
            get_or-set_other hops v here h 0
                (λ same. absurd
                (omega (arith, search-small inv.search rows.vertices inv.place, ap (slice_index hops) same))),
          ) inv.hop;
      source = keep 0 (omega (arith, inv.place)) ∙ inv.source;
    }

pub overflow_add-hop : goal.overflow_add-hop
overflow_add-hop c =
    let is = get_or_read _ _ _ c.requires.place c.index-u.ensures 0 in
    let small = search-small c.requires.search c.row-row.ensures.in_rows.vertices c.requires.place in
    omega (arith, small, ap (slice_index c.args.hops.now) is)

pub is_tight-requires-clause-head : goal.is_tight-requires-clause-head
is_tight-requires-clause-head c =
    let row = c.row-row.ensures in
    let at = row_arcs c.args.csr.now row.in_rows c.index-u.result.now _ row.targets c.loop-head.head-index no_target
    (omega arith) in
    omega (arith, at.1, c.requires.labels)

pub bounds-hops-head : goal.bounds-hops-head
bounds-hops-head c =
    let row = c.row-row.ensures in
    let at = row_arcs c.args.csr.now row.in_rows c.index-u.result.now _ row.targets c.loop-head.head-index no_target
    (omega arith) in
    omega (arith, at.1, c.loop-head.invariant.0.search.vertices)

pub loop-head-preserved : goal.loop-head-preserved
loop-head-preserved c =
    let row = c.row-row.result.now in
    let rows = c.row-row.ensures.in_rows in
    let k = c.loop-head.head-index in
    let u = c.index-u.result.now in
    let at = row_arcs c.args.csr.now rows u row c.row-row.ensures.targets k no_target (omega arith) in
    let Tight = IsTightBelow c.args.limit (slice_index c.args.labels.now) in
    let HasHop : ℕ → Type 0 = λ hop. hop ≢ NONE in
    let inv = c.loop-head.invariant in
    elim c.if-is_tight.branch [
      | then-is_tight+then-hops-head+in_ok-push b ↦
          rw (b.hops-is, b.queue-is, b.in_ok-push.ensures.items) (
            reaches rows inv.0 (get_or row k no_target) at
                (c.is_tight.ensures.0 b.if-is_tight.true) b.if-hops-head.true,
            filled-put Tight HasHop c.loop-head.hops u row k _ (omega arith) (omega (arith, at.1, inv.0.search.vertices))
                (λ is. absurd (omega (arith, is, search-small inv.0.search rows.vertices inv.0.place, inv.0.hop))) inv.1,
          )
      | else-is_tight b ↦
          rw (b.hops-is, b.queue-is) (
            inv.0,
            filled-pass Tight HasHop c.loop-head.hops u row k (omega arith) inv.1
                (elim b.else-is_tight.branch [
                  | else-is_tight-via-then-is_tight+else-hops-head b' ↦ λ _. b'.if-hops-head.false
                  | else-is_tight-via-else-is_tight b' ↦
                      λ tight. absurd (false≢true (sym b'.if-is_tight.false ∙ c.is_tight.ensures.1 tight))
                ]),
          )
    ]

pub returns-clause-visited : goal.returns-clause-visited
returns-clause-visited c arc within tail tight =
    let graph = c.args.csr.now in
    let inv = c.loop-head.invariant in
    let filled =
    filled-all (IsTightBelow c.args.limit (slice_index c.args.labels.now)) (λ hop. hop ≢ NONE) c.loop-head.hops c.index-u.result.now c.row-row.result.now
    c.loop-head.head-index
    graph.arcs c.row-row.ensures.targets (omega arith) inv.1 arc within (tail ∙ inv.0.vertex) tight in
    let head : arc.head < graph.n =
    (All-contains (IsArcBelow graph.n) graph.arcs arc c.row-row.ensures.in_rows.ends within).1 in
    search-near inv.0.search inv.0.place arc.head head filled
