-- The rules of the program: which points each of them keeps as ends, and the name that it goes by.
-- A further rule is one more definition and one more entry of the list.
use Rattle.std.specs.Prelude.{ℕ, ◌==◌, false, List, [], ◌∷◌, codes}
use Rattle.shape_terms.specs.Thinning.{Rule, rule_by}
use Rattle.shape_terms.specs.Shelves.{Named}
use Rattle.shape_rules.specs.Few.{few_marks, few_next}

-- no point is kept as an end
abbrev pub no_ends : Rule
no_ends = rule_by [] (λ s f. false) (λ s f. s)

-- a point is kept where it has one object near neighbour at that moment: it is the end of a curve
abbrev pub curve_ends : Rule
curve_ends = rule_by [] (λ s f. f.neighbours == 1) (λ s f. s)

-- the first ends of curves are kept, up to a number of them
abbrev pub few_ends : ℕ → Rule
few_ends limit = rule_by (limit ∷ limit ∷ []) few_marks few_next

-- the rules that a command line or a report may name
abbrev pub program_rules : List (Named Rule)
program_rules = record { name = codes "none"; rule = no_ends } ∷ record { name = codes "curve"; rule = curve_ends }
    ∷ record { name = codes "few"; rule = few_ends 2 } ∷ []
