-- An object point has a distance of 1 or more: two points that are no distance apart are the same.
-- Laws over points alone.
use Rattle.std.proofs.Common.{◌≡◌, ℕ, ◌+◌, ◌*◌, ◌<◌, true, false, ap, sym, ◌∙◌, arith, [], ◌∷◌, length, inl, inr}
use Rattle.std.specs.Prelude.{ℤ, ◌-ℤ◌, ◌≤ℤ◌, pos, negsuc, nat_abs}
use Rattle.std.proofs.lemmas.Bool.{cases_lt}
use Rattle.std.proofs.lemmas.Int.{ints}
use Rattle.std.proofs.lemmas.Nat.{mul-le}
use Rattle.shape_terms.specs.Points.{Point, squared_distance}
use Rattle.shape_terms.specs.Pictures.{Picture, at}
use Rattle.shape_terms.specs.Parts.{Object}
use Rattle.shape_terms.specs.Thinning.{HasDistance}
use Rattle.shape_terms.proofs.Boxes.{in_box_length}
use Rattle.shape_terms.proofs.ObjectPlaces.{object_in_box}
use Rattle.shape_terms.proofs.SquaredDistances.{squared_distance-cons}

square_some : (n rest : ℕ) → n * n + rest ≡ 0 → n ≡ 0
square_some n rest e = elim (cases_lt 0 n) [
  | inl l ↦ (let m = mul-le 1 1 n n (omega arith) (omega arith) in absurd (omega (arith, m, e)))
  | inr l ↦ omega arith
]

abs_none : (z : ℤ) → nat_abs z ≡ 0 → (z ≤ℤ pos 0) × ((pos 0 -ℤ z) ≤ℤ pos 0)
abs_none (pos n) h = (omega (arith, ints), omega (arith, ints))
abs_none (negsuc n) h = (omega (arith, ints), omega (arith, ints))

no_gap : (x y : ℤ) → nat_abs (x -ℤ y) ≡ 0 → x ≡ y
no_gap x y e = let b = abs_none (x -ℤ y) e in omega (arith, ints, b.0, b.1)

same_point : (p q : Point) → length p ≡ length q → squared_distance p q ≡ 0 → p ≡ q
same_point [] [] l e = λ i. []
same_point [] (y ∷ q) l e = absurd (omega arith)
same_point (x ∷ p) [] l e = absurd (omega arith)
same_point (x ∷ p) (y ∷ q) l e =
    let c = squared_distance-cons x y p q in
    let n = square_some (nat_abs (x -ℤ y)) (squared_distance p q) (omega arith) in
    let h = no_gap x y n in
    let r = same_point p q (omega arith) (omega (arith, c, e)) in
    λ i. h i ∷ r i

pub some_distance : (X : Picture) (q : Point) (d : ℕ) → Object X q → HasDistance X q d → 0 < d
some_distance X q d o (r, n) = elim (cases_lt 0 d) [
  | inl l ↦ l
  | inr z ↦ absurd (
      let b = in_box_length X.sides q (object_in_box X q o) in
      let e = same_point q r (b ∙ sym n.background.point) (omega (arith, n.distance, z)) in
      let t : false ≡ true = sym n.background.value ∙ ap (at X) (sym e) ∙ o in cc)
]
