-- Weights told anew of the same list are the same.
-- Those of a longer list stand elsewhere.
use Rattle.std.proofs.Common.{◌≡◌, ℕ, List, [], ◌∷◌, map, refl, ap, ◌∙◌, arith}
use Rattle.shape_terms.specs.Refutations.{Share, Refutation}
use Rattle.shape_plane.specs.ToldAnew.{told_place, told_share, told_anew}

place_same : (n i : ℕ) → told_place n n i ≡ i
place_same n i = grind arith

share_same : (n : ℕ) (s : Share) → told_share n n s ≡ s
share_same n s = ap (λ (i : ℕ). record { weight = s.weight; place = i }) (place_same n s.place)

shares_same : (n : ℕ) (shares : List Share) → map (told_share n n) shares ≡ shares
shares_same n [] = refl
shares_same n (s ∷ more) = ap (λ (z : Share). z ∷ map (told_share n n) more) (share_same n s) ∙ ap (λ (l : List Share). s ∷ l) (shares_same n more)

pub told_same : (n : ℕ) (why : Refutation) → told_anew n n why ≡ why
told_same n why = ap (λ (l : List Share). record { low = l; high = map (told_share n n) why.high; steps = why.steps }) (shares_same n why.low)
    ∙ ap (λ (l : List Share). record { low = why.low; high = l; steps = why.steps }) (shares_same n why.high)
