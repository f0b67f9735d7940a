-- What a shelf is for reports when one of its rules has moved, and which rule stands under a name.
-- Laws of shelves of any rules.
use Rattle.std.proofs.Common.{◌≡◌, ◌≢◌, ℕ, zero, suc, List, [], ◌∷◌, Some, refl, ap, arith}
use Rattle.std.specs.Prelude.{Contains, slice_get}
use Rattle.shape_terms.specs.Thinning.{Rule}
use Rattle.shape_terms.specs.Shelves.{Named, names_of, rules_of}
use Rattle.shape_rules.specs.Lending.{with_rule}
use Rattle.shape_rules.specs.Ruled.{rules_on}
use Rattle.shape_rules.proofs.Entries.{kept_by}

module _ {R : Type 0} (means : R → Rule) where
  -- a rule that moved and means the same is the same rule
  pub rules_same : (shelf : List (Named R)) (i : ℕ) (r w : R) → slice_get (rules_of shelf) i ≡ Some r → means w ≡ means r
      → rules_on means (with_rule shelf i w) ≡ rules_on means shelf
  rules_same shelf i r w there same = kept_by _ shelf i r w there (λ name. λ j. record { name = name; rule = same j })

  -- the names are the same
  pub names_on : (shelf : List (Named R)) → names_of (rules_on means shelf) ≡ names_of shelf
  names_on [] = refl
  names_on (e ∷ es) = ap (λ ns. e.name ∷ ns) (names_on es)

  -- the rule of an entry stands under the entry's name
  pub rule_there : (shelf : List (Named R)) (i : ℕ) (r : R) (name : List ℕ) → slice_get (rules_of shelf) i ≡ Some r → slice_get (names_of shelf) i ≡ Some name
      → Contains (rules_on means shelf) (record { name = name; rule = means r })
  rule_there [] i r name a b = cc
  rule_there (e ∷ es) zero r name a b =
      let same : e.rule ≡ r = cc in
      let called : e.name ≡ name = cc in
      (0, omega arith, λ j. record { name = called j; rule = means (same j) })
  rule_there (e ∷ es) (suc i) r name a b =
      let t = rule_there es i r name a b in
      (suc t.0, omega (arith, t.1), t.2)

-- all other entries are as they were
pub others_same : {R : Type 0} (shelf : List (Named R)) (i j : ℕ) (w : R) → j ≢ i → slice_get (with_rule shelf i w) j ≡ slice_get shelf j
others_same [] i j w h = refl
others_same (e ∷ es) zero zero w h = absurd (h refl)
others_same (e ∷ es) zero (suc j) w h = refl
others_same (e ∷ es) (suc i) zero w h = refl
others_same (e ∷ es) (suc i) (suc j) w h = others_same es i j w (λ q. h (ap suc q))
