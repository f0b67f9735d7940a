-- Which cells of a cube are new, by the bits of the near neighbours that were seen.
-- Sets of points and numbers alone; labels stand elsewhere.
use Rattle.std.proofs.Common.{◌≡◌, ◌≢◌, ℕ, ◌^◌, ◌<◌, ◌↔◌, true, false, List, length, subst, sym, ap, ◌∙◌, arith, w32}
use Rattle.std.specs.Int.Count.{count_trailing_zeros}
use Rattle.std.specs.Int.Bits.{bit_and}
use Rattle.std.specs.Int.{bit_at}
use Rattle.std.proofs.lemmas.Bool.Decides.{nat_tests}
use Rattle.std.proofs.lemmas.Nat.{and_le_l}
use Rattle.std.proofs.lemmas.Nat.Bits.{bit_at_and, bit_at-zero, bit_at-lt, bit_at-trailing_zeros}
use Rattle.shape_terms.specs.Points.{Point}
use Rattle.shape_terms.specs.Adjacency.{near_point, near_step}
use Rattle.shape_terms.proofs.NeighbourNumbers.{near_number}
use Rattle.shape_terms.proofs.ShiftedSteps.{length-near_step}
use Rattle.shape_adj.specs.NearMasks.{In, near_total}
use Rattle.measure_terms.specs.Cells.{IsCellOf, IsCell}
use Rattle.measure_terms.specs.Gains.{cell_at}
use Rattle.measure_terms.proofs.Cubes.{cell_moved, cell_back, shared_close}
use Rattle.measure_terms.proofs.OneCubeMore.{cell_of_number}
use Rattle.measuring.specs.declared.cell.Cell.{Cell}
use Rattle.measuring.specs.Tables.{AreCells, is_new, cell_in}

-- two sets that share no place
apart_at : (m t j : ℕ) → bit_and m t ≡ 0 → In m j → In t j → ⊥
apart_at m t j e a b =
    let l = bit_at_and m t j in
    let z : bit_at (bit_and m t) j ≡ 0 = ap (λ x. bit_at x j) e ∙ bit_at-zero j in
    omega (arith, l, z, a, b)

-- two sets that share one
shared_place : (m t : ℕ) → m < 2 ^ 32 → bit_and m t ≢ 0 → (j : ℕ) × In m j × In t j
shared_place m t small n =
    let a = and_le_l m t in
    let h = bit_at-trailing_zeros w32 (bit_and m t) (omega (arith, n)) (omega (arith, a, small)) in
    let j = count_trailing_zeros 32 (bit_and m t) in
    let l = bit_at_and m t j in
    let e = h.1 in
    let x = bit_at-lt m j in
    let y = bit_at-lt t j in
    (j, omega (arith, l, e, x, y), omega (arith, l, e, x, y))

module _ (S : Point → Type 0) (p : Point) (cells : List Cell) (m : ℕ) (h : AreCells (length p) cells)
    (seen : (j : ℕ) → In m j ↔ ((j < near_total (length p)) × S (near_point p j))) where
  pub new_is : (S p → ⊥) → (k : ℕ) → k < near_total (length p) → is_new cells m k ≡ true → IsCell S (cell_at p k) → ⊥
  new_is apart k l t c =
      let q = c.point in
      let near = near_number p q ((λ e. apart (subst S (sym e) c.within)), shared_close p q (cell_at p k) (cell_of_number p k l) c.cell) in
      let j = near.0 in
      let a = (seen j).1 (near.1, subst S (sym near.2) c.within) in
      let b = ((h.each k l).shared j).1 (
        near.1,
        cell_back p (near_step (length p) j) (near_step (length p) k) (length-near_step (length p) j near.1) (length-near_step (length p) k l)
            (subst (λ r. IsCellOf r (cell_at p k)) (sym near.2) c.cell),
      ) in
      let e : bit_and m (cell_in cells k).shared ≡ 0 = grind (arith, nat_tests) in
      apart_at m (cell_in cells k).shared j e a b

  pub old_is : m < 2 ^ 32 → (k : ℕ) → k < near_total (length p) → is_new cells m k ≡ false → IsCell S (cell_at p k)
  old_is small k l f =
      let n : bit_and m (cell_in cells k).shared ≢ 0 = grind (arith, nat_tests) in
      let at = shared_place m (cell_in cells k).shared small n in
      let j = at.0 in
      let a = (seen j).0 at.1 in
      let b = ((h.each k l).shared j).0 at.2 in
      record {
        point = near_point p j;
        within = a.1;
        cell = cell_moved p (near_step (length p) j) (near_step (length p) k) (length-near_step (length p) j a.0) (length-near_step (length p) k l) b.1;
      }
