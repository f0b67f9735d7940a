-- The sides of a box as naturals and as whole numbers.
-- Stated of lists alone.
use Rattle.std.proofs.Common.{suc, ℕ, refl, arith, ◌≡◌, List, [], ◌∷◌}
use Rattle.std.specs.Prelude.{ℤ, pos, map}
use Rattle.std.proofs.lemmas.Int.{ints}
use Rattle.shape_terms.specs.Points.{Point, AreSides, sides_of}
use Rattle.shape_terms.proofs.Boxes.{abs_is}

-- sides that are 1 or more are their own absolute values
pub sides_back : (greatest : ℤ) (n : Point) → AreSides greatest n → map pos (sides_of n) ≡ n
sides_back g [] h = refl
sides_back g (x ∷ n) h =
    let one = (h 0 (omega arith)).0 in
    let e = abs_is x (omega (arith, ints)) in
    let r = sides_back g n (λ k l. h (suc k) (omega arith)) in
    λ i. e i ∷ r i

pub naturals_kept : (ns : List ℕ) → sides_of (map pos ns) ≡ ns
naturals_kept [] = refl
naturals_kept (n ∷ ns) = λ i. n ∷ naturals_kept ns i
