-- A shelf as a report sees it: what each rule means, under its name.
-- What stands for a rule on the shelf is handed in by its meaning.
use Rattle.std.specs.Prelude.{List, map}
use Rattle.shape_terms.specs.Thinning.{Rule}
use Rattle.shape_terms.specs.Shelves.{Named}

-- the rules on a shelf, as what they mean
abbrev pub rules_on : {R : Type 0} → (R → Rule) → List (Named R) → List (Named Rule)
rules_on means shelf = map (λ e. record { name = e.name; rule = means e.rule }) shelf
