-- A run that goes one way by one along an axis has no more points than the box has places there, and its least lines have small coefficients.
-- Lists of points alone; contours belong elsewhere.
use Rattle.std.proofs.Common.{◌≡◌, inl, inr, ℕ, zero, suc, ◌+◌, ◌*◌, ◌<◌, ◌≤◌, List, length, arith, subst}
use Rattle.std.specs.Prelude.{ℤ, pos, negsuc, ◌+ℤ◌, ◌-ℤ◌, neg_ℤ, ◌≤ℤ◌, ◌<ℤ◌, nat_abs, unsigned_abs}
use Rattle.std.proofs.lemmas.Int.{ints}
use Rattle.std.proofs.lemmas.Bool.{cases_lt}
use Rattle.shape_terms.specs.Limits.{line_gap}
use Rattle.shape_terms.specs.Points.{Point, coordinate}
use Rattle.shape_terms.specs.Naive.{Naive, IsNaiveFor}
use Rattle.shape_terms.specs.Refutations.{point_at}
use Rattle.shape_terms.specs.Turns.{other_axis, change_at}
use Rattle.shape_terms.specs.Straight.{KeepsSense}
use Rattle.shape_terms.specs.Least.{Pairs, ShowsLeast, side_of}
use Rattle.shape_terms.proofs.LeastLines.{short, shows_lowest}
use Rattle.report_terms.proofs.SteadyRuns.{side_size}

-- ---- few points

-- the coordinate goes up by one from place to place
goes_up : (t : ℕ) (run : List Point) → ((i : ℕ) → i + 1 < length run → change_at run t i ≡ pos 1) → (i : ℕ) → i < length run
    → coordinate (point_at run i) (other_axis t) ≡ coordinate (point_at run 0) (other_axis t) +ℤ pos i
goes_up t run h zero l = omega (arith, ints)
goes_up t run h (suc i) l =
    let e = goes_up t run h i (omega arith) in
    let q : i + 1 ≡ suc i = omega arith in
    let s = subst (λ (j : ℕ). coordinate (point_at run j) (other_axis t) -ℤ coordinate (point_at run i) (other_axis t) ≡ pos 1) q (h i (omega arith)) in
    more (coordinate (point_at run (suc i)) (other_axis t)) (coordinate (point_at run i) (other_axis t)) (coordinate (point_at run 0) (other_axis t)) i e s
  where
    more : (z y x : ℤ) (i : ℕ) → y ≡ x +ℤ pos i → z -ℤ y ≡ pos 1 → z ≡ x +ℤ pos (suc i)
    more z y x i e s = omega (arith, ints, e, s)

goes_down : (t : ℕ) (run : List Point) → ((i : ℕ) → i + 1 < length run → change_at run t i ≡ negsuc 0) → (i : ℕ) → i < length run
    → coordinate (point_at run 0) (other_axis t) ≡ coordinate (point_at run i) (other_axis t) +ℤ pos i
goes_down t run h zero l = omega (arith, ints)
goes_down t run h (suc i) l =
    let e = goes_down t run h i (omega arith) in
    let q : i + 1 ≡ suc i = omega arith in
    let s = subst (λ (j : ℕ). coordinate (point_at run j) (other_axis t) -ℤ coordinate (point_at run i) (other_axis t) ≡ negsuc 0) q (h i (omega arith)) in
    more (coordinate (point_at run (suc i)) (other_axis t)) (coordinate (point_at run i) (other_axis t)) (coordinate (point_at run 0) (other_axis t)) i e s
  where
    more : (z y x : ℤ) (i : ℕ) → x ≡ y +ℤ pos i → z -ℤ y ≡ negsuc 0 → x ≡ z +ℤ pos (suc i)
    more z y x i e s = omega (arith, ints, e, s)

-- the coordinates of each point on the axis k are from 0 up to before the side
abbrev pub IsWithinSide : ℕ → ℕ → List Point → Type 0
IsWithinSide side k run = (i : ℕ) → i < length run → (pos 0 ≤ℤ coordinate (point_at run i) k) × (coordinate (point_at run i) k <ℤ pos side)

-- so the run has at most as many points
pub few_points : (t side : ℕ) (run : List Point) → KeepsSense t run → IsWithinSide side (other_axis t) run → length run ≤ side
few_points t side run (inl h) w = elim (cases_lt side (length run)) [
  | inl l ↦ (let a = w 0 (omega arith) in let b = w side l in absurd (let e = goes_up t run h side l in omega (arith, ints, a, b, e)))
  | inr l ↦ l
]
few_points t side run (inr h) w = elim (cases_lt side (length run)) [
  | inl l ↦ (let a = w 0 (omega arith) in let b = w side l in absurd (let e = goes_down t run h side l in omega (arith, ints, a, b, e)))
  | inr l ↦ l
]

-- ---- small coefficients

module _ (t : ℕ) (run : List Point) (l : t < 2) (flat : (i : ℕ) → i < length run → length (point_at run i) ≡ 2) where
  near : (side i j : ℕ) → IsWithinSide side (other_axis t) run → side ≤ line_gap → i < length run → j < length run
      → unsigned_abs (side_of t (point_at run i) (point_at run j)) ≤ line_gap
  near side i j w few li lj =
      let a = w i li in
      let b = w j lj in
      by (coordinate (point_at run j) (other_axis t)) (coordinate (point_at run i) (other_axis t)) a.0 a.1 b.0 b.1
    where
      by : (y x : ℤ) → pos 0 ≤ℤ x → x <ℤ pos side → pos 0 ≤ℤ y → y <ℤ pos side → unsigned_abs (y -ℤ x) ≤ line_gap
      by y x a b c d = omega (arith, ints, a, b, c, d)

  -- a line with evidence that it is least has coefficients of at most twice the greatest gap
  pub small_main : (side : ℕ) (n : Naive) (p : Pairs) → IsWithinSide side (other_axis t) run → side ≤ line_gap → IsNaiveFor t run n
      → ShowsLeast t run (coordinate n.a t) p → coordinate n.a t ≤ℤ pos (2 * line_gap)
  small_main side n p w few h s =
      let k = short t run l flat p s.first_low s.first_high s.second_low s.second_high n h
      (near side p.low1 p.high1 w few s.first_low s.first_high) (near side p.low2 p.high2 w few s.second_low s.second_high) in
      let least = shows_lowest t run l flat p s.first_low s.first_high s.second_low s.second_high (coordinate n.a t) s k.b k.c k.slope in
      let most = k.short in
      omega (arith, ints, least, most)

  pub small_coefficients : (side : ℕ) (n : Naive) (p : Pairs) → IsWithinSide side (other_axis t) run → side ≤ line_gap → IsNaiveFor t run n
      → ShowsLeast t run (coordinate n.a t) p → (nat_abs (coordinate n.a t) ≤ 2 * line_gap) × (nat_abs (coordinate n.a (other_axis t)) ≤ 2 * line_gap)
  small_coefficients side n p w few h s =
      let m = small_main side n p w few h s in
      let some = h.proper.main in
      let z = side_size t run l flat n h.proper in
      by (coordinate n.a t) (coordinate n.a (other_axis t)) m some z.0 z.1
    where
      by : (b c : ℤ) → b ≤ℤ pos (2 * line_gap) → pos 1 ≤ℤ b → neg_ℤ b ≤ℤ c → c ≤ℤ b → (nat_abs b ≤ 2 * line_gap) × (nat_abs c ≤ 2 * line_gap)
      by b c m some low high = (omega (arith, ints, m, some), omega (arith, ints, m, low, high))
