-- What the labels from a source come to, and the line that says it.
use Rattle.std.specs.Prelude.{ℕ, ◌+◌, ◌==◌, max, List, [], ◌∷◌, ◌++◌, codes, decimal, if◌then◌else◌}
use Rattle.std.specs.List.{position_or_len}
use Rattle.route_walks.specs.declared.graph.TheConstants.{INF}

-- how many vertices a walk reaches: their labels are not `INF`
abbrev pub reached : List ℕ → ℕ
reached [] = 0
reached (label ∷ labels) = (if label == INF then 0 else 1) + reached labels

-- what a label adds to a sum: itself, and nothing where no walk leads there
abbrev pub cost_or_0 : ℕ → ℕ
cost_or_0 label = if label == INF then 0 else label

-- the sum of the costs, however large
abbrev pub sum_of : List ℕ → ℕ
sum_of [] = 0
sum_of (label ∷ labels) = cost_or_0 label + sum_of labels

-- the greatest of the costs, or 0 where there is none
abbrev pub greatest : List ℕ → ℕ
greatest [] = 0
greatest (label ∷ labels) = max (cost_or_0 label) (greatest labels)

-- the first vertex whose label is the greatest cost, or how many vertices there are where none is
abbrev pub farthest : List ℕ → ℕ
farthest labels = position_or_len (λ label. label == greatest labels) labels

-- 't S REACHED SUM GREATEST FARTHEST'
abbrev pub totals_line : ℕ → ℕ → ℕ → ℕ → ℕ → List ℕ
totals_line s count sum most v =
    codes "t "
    ++ decimal (s + 1)
    ++ codes " "
    ++ decimal count
    ++ codes " "
    ++ decimal sum
    ++ codes " "
    ++ decimal most
    ++ codes " "
    ++ decimal (v + 1)
    ++ codes "\n"

-- the same of the labels from a source
abbrev pub totals_text : ℕ → List ℕ → List ℕ
totals_text s labels = totals_line s (reached labels) (sum_of labels) (greatest labels) (farthest labels)
