-- Short steps, coordinate by coordinate: the cells that their cubes share, and dimensions.
-- Lists of whole numbers alone.
use Rattle.std.proofs.Common.{◌≡◌, ◌≢◌, ◌⊎◌, inl, inr, ◌++◌, subst, sym, ℕ, zero, suc, ◌+◌, ◌*◌, ◌<◌, ◌≤◌, ◌%◌, Bool, true, false, List, [], ◌∷◌, length, take}
use Rattle.std.proofs.Common.{ap, refl, arith, FitsSigned, w64}
use Rattle.std.specs.Prelude.{ℤ, pos, negsuc, ◌+ℤ◌, ◌-ℤ◌, nat_abs, ◌==◌, count_by, cond}
use Rattle.std.proofs.lemmas.Int.{ints, fits_signed_from_abs}
use Rattle.std.proofs.lemmas.Bool.{cases_Bool, cond-true, cond-false}
use Rattle.std.proofs.lemmas.List.Sums.{count_by_more_yes, count_by_more_no}
use Rattle.shape_terms.specs.Limits.{most_points}
use Rattle.shape_terms.specs.Points.{Point, coordinate}
use Rattle.measure_terms.specs.Cells.{IsCellOf, is_even, sign}
use Rattle.measure_terms.specs.Crossings.{moves, step_class}
use Rattle.measuring.specs.declared.cell.Cell.{Cell}
use Rattle.measuring.specs.Tables.{IsCellAt, cell_in, no_cell}
use Rattle.std.proofs.Math.ListN.{get_or-append}
use Rattle.std.proofs.Math.Seq.{get_or-append_seam}

-- how far a cell is from the middle of a cube, along an axis
abbrev pub gap_at : Point → Point → ℕ → ℕ
gap_at w v k = nat_abs ((coordinate w k +ℤ coordinate w k) -ℤ coordinate v k)

pub cell_from_gaps : (w v : Point) → length w ≡ length v → ((k : ℕ) → k < length w → gap_at w v k ≤ 1) → IsCellOf w v
cell_from_gaps [] [] e h = tt
cell_from_gaps [] (y ∷ v) e h = absurd (omega (arith, e))
cell_from_gaps (x ∷ w) [] e h = absurd (omega (arith, e))
cell_from_gaps (x ∷ w) (y ∷ v) e h = (h 0 (omega arith), cell_from_gaps w v (omega (arith, e)) (λ k l. h (suc k) (omega (arith, l))))

pub gaps_of_cell : (w v : Point) → IsCellOf w v → (k : ℕ) → gap_at w v k ≤ 1
gaps_of_cell [] [] h k = omega (arith, ints)
gaps_of_cell [] (y ∷ v) h k = absurd h
gaps_of_cell (x ∷ w) [] h k = absurd h
gaps_of_cell (x ∷ w) (y ∷ v) h zero = h.0
gaps_of_cell (x ∷ w) (y ∷ v) h (suc k) = gaps_of_cell w v h.1 k

-- ---- dimensions

even_at : (x : ℤ) → x ≡ pos 0 → is_even x ≡ true
even_at x e = ap is_even e

odd_at : (x : ℤ) → nat_abs x ≤ 1 → x ≢ pos 0 → is_even x ≡ false
odd_at x l n =
    let e : nat_abs x ≡ 1 = omega (arith, ints, l, n) in
    ap (λ m. m % 2 == 0) e

pub even_more : (v : Point) (k : ℕ) → k < length v → coordinate v k ≡ pos 0 → count_by is_even (take (k + 1) v) ≡ count_by is_even (take k v) + 1
even_more v k l e = count_by_more_yes is_even v k (pos 0) l (even_at (coordinate v k) e)

pub odd_more : (v : Point) (k : ℕ) → k < length v → nat_abs (coordinate v k) ≤ 1 → coordinate v k ≢ pos 0
    → count_by is_even (take (k + 1) v) ≡ count_by is_even (take k v)
odd_more v k l s n = count_by_more_no is_even v k (pos 0) l (odd_at (coordinate v k) s n)

-- the class of a step of the plane or of space, by its coordinates
pub class_is : (v : Point) → length v ≤ 3 → step_class v ≡ moves (coordinate v 0) + 2 * moves (coordinate v 1) + 4 * moves (coordinate v 2)
class_is [] l = refl
class_is (x ∷ []) l = omega arith
class_is (x ∷ y ∷ []) l = omega arith
class_is (x ∷ y ∷ z ∷ []) l = omega arith
class_is (x ∷ y ∷ z ∷ w ∷ v) l = absurd (omega (arith, l))

-- ---- the table

-- one cell more in the table
pub cells_more : (d k : ℕ) (cells : List Cell) (x : Cell) → length cells ≡ k → ((j : ℕ) → j < k → IsCellAt d j (cell_in cells j)) → IsCellAt d k x
    → (j : ℕ) → j < k + 1 → IsCellAt d j (cell_in (cells ++ x ∷ []) j)
cells_more d k cells x count h new j l =
    let split : (j ≡ length cells) ⊎ (j < length cells) = grind arith in
    elim split [
      | inl e ↦ subst (λ j. IsCellAt d j (cell_in (cells ++ x ∷ []) j)) (sym e)
          (subst (IsCellAt d (length cells)) (sym (get_or-append_seam cells x [] no_cell)) (subst (λ i. IsCellAt d i x) (sym count) new))
      | inr m ↦ subst (IsCellAt d j) (sym (get_or-append cells (x ∷ []) no_cell j m)) (h j (omega (arith, m, count)))
    ]

-- ---- sums of signs

small_sign : (n : ℕ) → nat_abs (sign n) ≤ 1
small_sign n = elim (cases_Bool (n % 2 == 0)) [
  | inl t ↦ (let e = ap nat_abs (cond-true (n % 2 == 0) (pos 1) (negsuc 0) t) in omega (arith, e))
  | inr f ↦ (let e = ap nat_abs (cond-false (n % 2 == 0) (pos 1) (negsuc 0) f) in omega (arith, e))
]

pub small_part : (b : Bool) (s : ℤ) (n : ℕ) → s ≡ sign n → nat_abs (cond b s (pos 0)) ≤ 1
small_part true s n e = let a = ap nat_abs e in let l = small_sign n in omega (arith, a, l)
small_part false s n e = omega arith

pub small_wide : (z : ℤ) (n : ℕ) → nat_abs z ≤ 27 * n → n ≤ most_points → FitsSigned w64 z
small_wide z n h l = fits_signed_from_abs w64 z (omega (arith, ints, h, l))
