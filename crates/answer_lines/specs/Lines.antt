-- The texts of an answer. Vertices, which are counted from 0, stand as their number plus 1.
use Rattle.std.specs.Prelude.{ℕ, ◌+◌, ◌-◌, ◌==◌, List, [], ◌∷◌, ◌++◌, codes, decimal, if◌then◌else◌}
use Rattle.std.specs.Prelude.{◌/◌, ◌%◌, nat_lt, length, slice_index}
use Rattle.route_walks.specs.declared.graph.ArcRec.{ArcRec}
use Rattle.route_walks.specs.declared.graph.TheConstants.{INF}

-- 's V'
abbrev pub source_text : ℕ → List ℕ
source_text s = codes "s " ++ decimal (s + 1) ++ codes "\n"

-- a label, or 'inf' where there is no walk
abbrev pub cost_text : ℕ → List ℕ
cost_text label = if label == INF then codes "inf" else decimal label

-- 'd V COST', for the text of a cost
abbrev pub cost_line : ℕ → List ℕ → List ℕ
cost_line v text = codes "d " ++ decimal (v + 1) ++ codes " " ++ text ++ codes "\n"

-- 'd V COST', for a label
abbrev pub label_text : ℕ → ℕ → List ℕ
label_text v label = cost_line v (cost_text label)

-- 'q S T COST', for the text of a cost
abbrev pub pair_line : ℕ → ℕ → List ℕ → List ℕ
pair_line s t text = codes "q " ++ decimal (s + 1) ++ codes " " ++ decimal (t + 1) ++ codes " " ++ text ++ codes "\n"

-- 'q S T COST', for the label of a target
abbrev pub pair_text : ℕ → ℕ → ℕ → List ℕ
pair_text s t label = pair_line s t (cost_text label)

-- 'g K': how many arcs were added, which is the number itself and no vertex
abbrev pub grown_text : ℕ → List ℕ
grown_text k = codes "g " ++ decimal k ++ codes "\n"

-- 'x K': how many arcs were removed
abbrev pub removed_text : ℕ → List ℕ
removed_text k = codes "x " ++ decimal k ++ codes "\n"

-- 'a U V W': an arc
abbrev pub arc_text : ArcRec → List ℕ
arc_text arc =
    codes "a "
    ++ decimal (arc.tail + 1)
    ++ codes " "
    ++ decimal (arc.head + 1)
    ++ codes " "
    ++ decimal arc.weight
    ++ codes "\n"

-- 'r N M LINE': how many vertices and arcs a graph has, and the number of a line, which are the numbers themselves
abbrev pub ready_text : ℕ → ℕ → ℕ → List ℕ
ready_text n m line =
    codes "r "
    ++ decimal n
    ++ codes " "
    ++ decimal m
    ++ codes " "
    ++ decimal line
    ++ codes "\n"

-- 'e LINE WORDS': a line that is wrong, and what is wrong with it
abbrev pub refusal_text : ℕ → List ℕ → List ℕ
refusal_text line words = codes "e " ++ decimal line ++ codes " " ++ words ++ codes "\n"

-- the digits of a number without the last two, for how many hundreds it has
abbrev pub front_digits : ℕ → List ℕ
front_digits hundreds = if hundreds == 0 then [] else decimal hundreds

-- the last two digits of a number, or its only one
abbrev pub last_digits : ℕ → List ℕ
last_digits number =
    if nat_lt number 10 then (48 + number) ∷ [] else (48 + number % 100 / 10) ∷ (48 + number % 10) ∷ []

-- the lines of the labels, the first of which is that of the vertex v
abbrev pub label_lines : ℕ → List ℕ → List ℕ
label_lines v [] = []
label_lines v (label ∷ labels) = label_text v label ++ label_lines (v + 1) labels

-- the labels from a source
abbrev pub distances_text : ℕ → List ℕ → List ℕ
distances_text s labels = source_text s ++ label_lines 0 labels

-- 'k V LABEL', where the label is that of a vertex too
abbrev pub component_text : ℕ → ℕ → List ℕ
component_text v label = codes "k " ++ decimal (v + 1) ++ codes " " ++ decimal (label + 1) ++ codes "\n"

abbrev pub component_lines : ℕ → List ℕ → List ℕ
component_lines v [] = []
component_lines v (label ∷ labels) = component_text v label ++ component_lines (v + 1) labels

abbrev pub components_text : List ℕ → List ℕ
components_text labels = component_lines 0 labels

-- ' V' for each vertex of a walk, and the end of the line
abbrev pub vertices_text : List ℕ → List ℕ
vertices_text [] = codes "\n"
vertices_text (v ∷ walk) = codes " " ++ decimal (v + 1) ++ vertices_text walk

-- 'w V COST V .. V', where V is the last vertex of the walk
abbrev pub walk_text : ℕ → List ℕ → List ℕ
walk_text cost walk =
    codes "w "
    ++ decimal (slice_index walk (length walk - 1) + 1)
    ++ codes " "
    ++ decimal cost
    ++ vertices_text walk
