-- What a shelf lends: the rule of one entry.
-- Names and all other entries are out of reach.
use Rattle.std.specs.Prelude.{ℕ, zero, suc, List, [], ◌∷◌}
use Rattle.std.specs.Borrow.{Lends, MutBor, Fml, RattleType}
use Rattle.shape_terms.specs.Shelves.{Named}
use Rattle.shape_rules.specs.contracts.shelf.Shelf.{the_row}

-- the shelf with the rule w in entry i; names and all other entries are the same
abbrev pub with_rule : {R : Type 0} → List (Named R) → ℕ → R → List (Named R)
with_rule [] i w = []
with_rule (e ∷ es) zero w = record e { rule = w } ∷ es
with_rule (e ∷ es) (suc i) w = e ∷ with_rule es i w

-- s ends with the rule of entry i set to the last value behind r
abbrev pub LendsRule : (R : RattleType) → MutBor (List (Named R.Denot)) → ℕ → MutBor R.Denot → Fml
LendsRule R s i r = Lends (the_row R) R s r (with_rule s.now i)
