-- No straight arc has more places than the contour.
-- What is said of sequences alone stands in `ShortRuns`.
use Rattle.std.proofs.Common.{◌≡◌, ℕ, suc, ◌+◌, ◌<◌, ◌≤◌, ◌%◌, List, length, ap, sym, ◌∙◌, arith, inl, inr}
use Rattle.std.specs.Prelude.{ℤ, pos, negsuc, neg_ℤ, ◌-ℤ◌}
use Rattle.std.proofs.lemmas.Int.{ints}
use native.Mathlib.Decide.{dec_lt}
use Rattle.std.proofs.Math.Nat.{add-mod_right}
use Rattle.shape_terms.specs.Points.{Point, coordinate}
use Rattle.shape_terms.specs.Refutations.{point_at}
use Rattle.shape_terms.specs.Turns.{change_at, other_axis}
use Rattle.shape_terms.specs.Straight.{IsStraightFor, IsStraight}
use Rattle.shape_terms.specs.Covers.{arc}
use Rattle.shape_terms.proofs.ArcRuns.{arc-get, length-arc}
use Rattle.shape_line.proofs.ShortRuns.{climb}
use Rattle.shape_line.proofs.Senses.{keeps_sense}

module _ (contour : List Point) (some : 1 ≤ length contour) where
  -- the other coordinate, round and round
  abbrev along : ℕ → ℕ → ℤ
  along t i = coordinate (point_at contour (i % length contour)) (other_axis t)

  along_round : (t i : ℕ) → along t (i + length contour) ≡ along t i
  along_round t i = ap (λ v. coordinate (point_at contour v) (other_axis t)) (add-mod_right i (length contour))

  change_is : (t b e i : ℕ) → b + i < e → change_at (arc contour b e) t i ≡ along t (suc (b + i)) -ℤ along t (b + i)
  change_is t b e i h =
      let p : point_at (arc contour b e) (i + 1) ≡ point_at contour (suc (b + i) % length contour) = arc-get contour b e (i + 1) (omega arith)
      ∙ ap (λ v. point_at contour (v % length contour)) (let q : b + (i + 1) ≡ suc (b + i) = omega arith in q) in
      let r : point_at (arc contour b e) i ≡ point_at contour ((b + i) % length contour) = arc-get contour b e i (omega arith) in
      λ k. coordinate (p k) (other_axis t) -ℤ coordinate (r k) (other_axis t)

  short_for : (t b e : ℕ) → IsStraightFor t (arc contour b e) → e < b + length contour
  short_for t b e s = elim (dec_lt e (b + length contour)) [
    | yes l ↦ l
    | no l ↦ absurd (let r = along_round t b in elim (keeps_sense t (arc contour b e) s.no_turn) [
      | inl h ↦ (let c = climb (along t) b (length contour) (λ i k. sym (change_is t b e i (omega arith)) ∙ h i (omega (arith, length-arc contour b e))) in
          omega (arith, ints, r, c, some))
      | inr h ↦ (let c = climb (λ i. neg_ℤ (along t i)) b (length contour)
          (λ i k. back (along t (suc (b + i))) (along t (b + i)) (sym (change_is t b e i (omega arith)) ∙ h i (omega (arith, length-arc contour b e)))) in
          omega (arith, ints, r, c, some))
    ])
  ]
    where
      back : (x y : ℤ) → x -ℤ y ≡ negsuc 0 → neg_ℤ x -ℤ neg_ℤ y ≡ pos 1
      back x y h = omega (arith, ints)

  pub short_arc : (b e : ℕ) → IsStraight (arc contour b e) → e < b + length contour
  short_arc b e (inl s) = short_for 0 b e s
  short_arc b e (inr s) = short_for 1 b e s
