-- The points whose near neighbours are all in the box: those that are one unit or more from each face of it.
-- Laws over plain lists; the loop that tests a point goes by them.
use Rattle.std.proofs.Common.{◌≡◌, ◌⊎◌, inl, inr, ◌-◌, ◌<◌, ◌≤◌, ℕ, zero, suc, ℤ, pos, negsuc, ◌≤ℤ◌, ◌<ℤ◌, [], ◌∷◌, length, refl, sym, ◌∙◌, subst, arith, lit<}
use Rattle.std.specs.Prelude.{nat_abs, IsTrue, ◌+ℤ◌, ◌-ℤ◌}
use Rattle.std.proofs.lemmas.Int.{ints}
use Rattle.std.proofs.lemmas.List.Elements.{AllZip-get_or}
use Rattle.shape_terms.specs.Points.{Point, coordinate, AreSides, sides_of, in_box}
use Rattle.shape_terms.specs.Adjacency.{moved, near_steps, near_step, near_point}
use Rattle.shape_terms.proofs.Boxes.{in_box_by, in_box_coordinate}
use Rattle.shape_terms.proofs.NeighbourNumbers.{near_of_number}
use Rattle.shape_terms.proofs.ShiftedSteps.{length-near_step, length-moved}

coordinate-moved : (p v : Point) (j : ℕ) → length v ≡ length p → coordinate (moved p v) j ≡ coordinate p j +ℤ coordinate v j
coordinate-moved [] [] j e = refl
coordinate-moved [] (y ∷ v) j e = absurd (omega arith)
coordinate-moved (x ∷ p) [] j e = absurd (omega arith)
coordinate-moved (x ∷ p) (y ∷ v) zero e = refl
coordinate-moved (x ∷ p) (y ∷ v) (suc j) e = coordinate-moved p v j (omega arith)

-- one unit or more from both faces on each of the first axes
abbrev pub IsApart : Point → Point → ℕ → Type 0
IsApart n p k = (j : ℕ) → j < k → (pos 1 ≤ℤ coordinate p j) × (coordinate p j <ℤ (coordinate n j -ℤ pos 1))

-- such a point is in the box
pub itself_inside : (n p : Point) → length p ≡ length n → IsApart n p (length n) → IsTrue (in_box (sides_of n) p)
itself_inside n p e h = in_box_by n p e (λ j m. let b = h j m in (omega (arith, ints, b.0), omega (arith, ints, b.1)))

-- and so are its near neighbours
pub all_inside : (n p : Point) → length p ≡ length n → IsApart n p (length n) → (k : ℕ) → k < length (near_steps (length p))
    → IsTrue (in_box (sides_of n) (near_point p k))
all_inside n p e h k l =
    let near = near_of_number p k l in
    in_box_by n (near_point p k) (length-moved p (near_step (length p) k) (length-near_step (length p) k l) ∙ e) (λ j m.
    let a = AllZip-get_or (λ x y. nat_abs (x -ℤ y) ≤ 1) p (near_point p k) j (pos 0) (pos 0) near.1 (omega arith) in
    let b = h j m in
    (omega (arith, ints, a, b.0), omega (arith, ints, a, b.1)))

-- the first and the last near step go back and on along each axis
first_step : (d j : ℕ) → (d ≡ 2) ⊎ (d ≡ 3) → j < d → coordinate (near_step d 0) j ≡ negsuc 0
first_step d j (inl e) l = rw e (two j (omega arith))
  where
    two : (j : ℕ) → j < 2 → coordinate (near_step 2 0) j ≡ negsuc 0
    two zero l = refl
    two (suc zero) l = refl
    two (suc (suc j)) l = absurd (omega arith)
first_step d j (inr e) l = rw e (three j (omega arith))
  where
    three : (j : ℕ) → j < 3 → coordinate (near_step 3 0) j ≡ negsuc 0
    three zero l = refl
    three (suc zero) l = refl
    three (suc (suc zero)) l = refl
    three (suc (suc (suc j))) l = absurd (omega arith)

last_step : (d j : ℕ) → (d ≡ 2) ⊎ (d ≡ 3) → j < d → coordinate (near_step d (length (near_steps d) - 1)) j ≡ pos 1
last_step d j (inl e) l = rw e (two j (omega arith))
  where
    two : (j : ℕ) → j < 2 → coordinate (near_step 2 (length (near_steps 2) - 1)) j ≡ pos 1
    two zero l = refl
    two (suc zero) l = refl
    two (suc (suc j)) l = absurd (omega arith)
last_step d j (inr e) l = rw e (three j (omega arith))
  where
    three : (j : ℕ) → j < 3 → coordinate (near_step 3 (length (near_steps 3) - 1)) j ≡ pos 1
    three zero l = refl
    three (suc zero) l = refl
    three (suc (suc zero)) l = refl
    three (suc (suc (suc j))) l = absurd (omega arith)

some_steps : (d : ℕ) → (d ≡ 2) ⊎ (d ≡ 3) → 0 < length (near_steps d)
some_steps d (inl e) = rw e (lit< tt)
some_steps d (inr e) = rw e (lit< tt)

-- and only such a point's are
pub apart : (n p : Point) (greatest : ℤ) → AreSides greatest n → (length n ≡ 2) ⊎ (length n ≡ 3) → length p ≡ length n
    → ((k : ℕ) → k < length (near_steps (length p)) → IsTrue (in_box (sides_of n) (near_point p k)))
    → (j : ℕ) → j < length n → (pos 1 ≤ℤ coordinate p j) × (coordinate p j <ℤ (coordinate n j -ℤ pos 1))
apart n p greatest s d e h j l =
    let two = subst (λ m. (m ≡ 2) ⊎ (m ≡ 3)) (sym e) d in
    let some = some_steps (length p) two in
    let end = length (near_steps (length p)) - 1 in
    let a = in_box_coordinate n (near_point p 0) greatest s (h 0 some) j l in
    let b = in_box_coordinate n (near_point p end) greatest s (h end (omega arith)) j l in
    let x = coordinate-moved p (near_step (length p) 0) j (length-near_step (length p) 0 some) in
    let y = coordinate-moved p (near_step (length p) end) j (length-near_step (length p) end (omega arith)) in
    let u = first_step (length p) j two (omega arith) in
    let v = last_step (length p) j two (omega arith) in
    (omega (arith, ints, a.0, x, u), omega (arith, ints, b.1, y, v))
