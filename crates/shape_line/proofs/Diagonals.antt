-- A run that is straight for both axes goes along a diagonal: a line with the main coefficient 1 holds it.
-- So a segment whose least line has a greater one is straight for its own axis alone.
use Rattle.std.proofs.Common.{◌≡◌, ◌⊎◌, ◌≢◌, ℕ, zero, suc, ◌+◌, ◌<◌, List, [], length, ap, sym, subst, ◌∙◌, refl, arith, inl, inr}
use Rattle.std.specs.Prelude.{ℤ, pos, negsuc, ◌+ℤ◌, ◌-ℤ◌, ◌*ℤ◌, ◌≤ℤ◌, ◌<ℤ◌, neg_ℤ, nat_abs, take}
use Rattle.std.proofs.lemmas.Int.{ints}
use Rattle.std.proofs.lemmas.List.Elements.{All-from_get_or}
use Rattle.std.proofs.Math.IntN.{ℤ_discrete}
use native.Mathlib.Decide.{dec_lt}
use Rattle.shape_terms.specs.Points.{Point, coordinate}
use Rattle.shape_terms.specs.Vectors.{dot}
use Rattle.shape_terms.specs.Naive.{Naive, HoldsPoint, IsNaiveFor}
use Rattle.shape_terms.specs.Refutations.{point_at}
use Rattle.shape_terms.specs.Turns.{IsTurn, change_at, other_axis}
use Rattle.shape_terms.specs.Straight.{IsStraightFor}
use Rattle.shape_terms.proofs.Products.{rings}
use Rattle.shape_terms.proofs.LeastLines.{value_on}
use Rattle.shape_line.specs.Frames.{row, IsSense}
use Rattle.shape_line.specs.declared.segment.Segment.{Segment}
use Rattle.shape_line.specs.SegmentTerms.{seg_of, points_of}
use Rattle.shape_line.proofs.Outcomes.{run_of_segment}
use Rattle.shape_line.proofs.LeastSegments.{segment_least}

-- ---- one way

module _ (t : ℕ) (run : List Point) (no_turn : (i j : ℕ) → IsTurn t run i j → ⊥) where
  -- all changes are as the first
  forward : change_at run t 0 ≡ pos 1 → (i : ℕ) → i + 1 < length run → change_at run t i ≡ pos 1
  forward e i l = elim (ℤ_discrete (change_at run t i) (pos 1)) [
    | yes a ↦ a
    | no n ↦ absurd (no_turn 0 i (record { first = omega arith; second = l; not_forward = λ h. n h.1; not_backward = λ h. omega (arith, ints, e, h.0) }))
  ]

  backward : change_at run t 0 ≡ negsuc 0 → (i : ℕ) → i + 1 < length run → change_at run t i ≡ negsuc 0
  backward e i l = elim (ℤ_discrete (change_at run t i) (negsuc 0)) [
    | yes a ↦ a
    | no n ↦ absurd (no_turn 0 i (record { first = omega arith; second = l; not_forward = λ h. omega (arith, ints, e, h.0); not_backward = λ h. n h.1 }))
  ]

  -- and the first is one forward or one back
  first_way : 1 < length run → (change_at run t 0 ≡ pos 1) ⊎ (change_at run t 0 ≡ negsuc 0)
  first_way l = elim (ℤ_discrete (change_at run t 0) (pos 1)) [
    | yes a ↦ inl a
    | no n ↦ elim (ℤ_discrete (change_at run t 0) (negsuc 0)) [
      | yes b ↦ inr b
      | no m ↦ absurd (no_turn 0 0 (record { first = omega arith; second = omega arith; not_forward = λ h. n h.0; not_backward = λ h. m h.0 }))
    ]
  ]

-- ---- a row with the main coefficient 1

main_one : (t : ℕ) (r : ℤ) → t < 2 → coordinate (row t r (pos 1)) t ≡ pos 1
main_one zero r l = refl
main_one (suc zero) r l = refl
main_one (suc (suc t)) r l = absurd (omega arith)

other_one : (t : ℕ) (r : ℤ) → t < 2 → coordinate (row t r (pos 1)) (other_axis t) ≡ r
other_one zero r l = refl
other_one (suc zero) r l = refl
other_one (suc (suc t)) r l = absurd (omega arith)

row_small : (t : ℕ) (r : ℤ) (u : ℕ) → t < 2 → nat_abs r ≡ 1 → u ≢ t → pos (nat_abs (coordinate (row t r (pos 1)) u)) ≤ℤ pos 1
row_small zero r zero l s n = absurd (n refl)
row_small zero r (suc zero) l s n = omega (arith, ints, s)
row_small zero r (suc (suc u)) l s n = omega (arith, ints)
row_small (suc zero) r zero l s n = omega (arith, ints, s)
row_small (suc zero) r (suc zero) l s n = absurd (n refl)
row_small (suc zero) r (suc (suc u)) l s n = omega (arith, ints)
row_small (suc (suc t)) r u l s n = absurd (omega arith)

value_forward : (s w z x0 i z0 : ℤ) → s *ℤ w ≡ x0 +ℤ i → z ≡ z0 +ℤ i → neg_ℤ s *ℤ w +ℤ pos 1 *ℤ z ≡ z0 -ℤ x0
value_forward s w z x0 i z0 h k = omega (arith, ints, rings, h, k)

value_backward : (s w z x0 i z0 : ℤ) → s *ℤ w ≡ x0 +ℤ i → z ≡ z0 -ℤ i → s *ℤ w +ℤ pos 1 *ℤ z ≡ z0 +ℤ x0
value_backward s w z x0 i z0 h k = omega (arith, ints, rings, h, k)

next : (i : ℕ) → i + 1 ≡ suc i
next i = omega arith

one_up : (a b z0 : ℤ) (i : ℕ) → a -ℤ b ≡ pos 1 → b ≡ z0 +ℤ pos i → a ≡ z0 +ℤ pos (suc i)
one_up a b z0 i h k = omega (arith, ints, h, k)

one_down : (a b z0 : ℤ) (i : ℕ) → a -ℤ b ≡ negsuc 0 → b ≡ z0 -ℤ pos i → a ≡ z0 -ℤ pos (suc i)
one_down a b z0 i h k = omega (arith, ints, h, k)

twice_other : (t : ℕ) → t < 2 → other_axis (other_axis t) ≡ t
twice_other t l = omega arith

module _ (t : ℕ) (l : t < 2) (s x0 : ℤ) (sense : IsSense s) (run : List Point) (flat : (i : ℕ) → i < length run → length (point_at run i) ≡ 2)
    (place : (i : ℕ) → i < length run → s *ℤ coordinate (point_at run i) (other_axis t) ≡ x0 +ℤ pos i) where
  -- a line of value v at each point holds the run
  one_line : (r v : ℤ) → nat_abs r ≡ 1
      → ((i : ℕ) → i < length run → r *ℤ coordinate (point_at run i) (other_axis t) +ℤ pos 1 *ℤ coordinate (point_at run i) t ≡ v)
      → IsNaiveFor t run (record { a = row t r (pos 1); mu = v })
  one_line r v one value = record {
    proper = record {
      main = (let e = main_one t r l in omega (arith, ints, e));
      others = λ u n. subst (λ c. pos (nat_abs (coordinate (row t r (pos 1)) u)) ≤ℤ c) (sym (main_one t r l)) (row_small t r u l one n);
    };
    holds = All-from_get_or (HoldsPoint t (record { a = row t r (pos 1); mu = v })) run [] each;
  }
    where
      at_point : (i : ℕ) → i < length run → dot (row t r (pos 1)) (point_at run i) ≡ v
      at_point i m = value_on t (row t r (pos 1)) (point_at run i) l (flat i m)
          ∙ ((λ k. other_one t r l k *ℤ coordinate (point_at run i) (other_axis t) +ℤ main_one t r l k *ℤ coordinate (point_at run i) t) ∙ value i m)

      each : (i : ℕ) → i < length run → HoldsPoint t (record { a = row t r (pos 1); mu = v }) (point_at run i)
      each i m = record {
        low = (let e = at_point i m in omega (arith, ints, e));
        high = (let e = at_point i m in let f = main_one t r l in omega (arith, ints, e, f));
      }

  -- how high the points stand where each is one higher than the one before, or one lower
  rises : ((i : ℕ) → i + 1 < length run → coordinate (point_at run (i + 1)) t -ℤ coordinate (point_at run i) t ≡ pos 1)
      → (i : ℕ) → i < length run → coordinate (point_at run i) t ≡ coordinate (point_at run 0) t +ℤ pos i
  rises h zero m = omega (arith, ints)
  rises h (suc i) m = one_up (coordinate (point_at run (suc i)) t) (coordinate (point_at run i) t) (coordinate (point_at run 0) t) i
      (subst (λ k. coordinate (point_at run k) t -ℤ coordinate (point_at run i) t ≡ pos 1) (next i) (h i (omega arith))) (rises h i (omega arith))

  falls : ((i : ℕ) → i + 1 < length run → coordinate (point_at run (i + 1)) t -ℤ coordinate (point_at run i) t ≡ negsuc 0)
      → (i : ℕ) → i < length run → coordinate (point_at run i) t ≡ coordinate (point_at run 0) t -ℤ pos i
  falls h zero m = omega (arith, ints)
  falls h (suc i) m = one_down (coordinate (point_at run (suc i)) t) (coordinate (point_at run i) t) (coordinate (point_at run 0) t) i
      (subst (λ k. coordinate (point_at run k) t -ℤ coordinate (point_at run i) t ≡ negsuc 0) (next i) (h i (omega arith))) (falls h i (omega arith))

  -- a line with the main coefficient 1 that holds the run
  abbrev Diagonal : Type 0
  Diagonal = (n : Naive) × (IsNaiveFor t run n × (coordinate n.a t ≡ pos 1))

  -- the value at a point of the line with this coefficient beside
  abbrev value : ℤ → ℕ → ℤ
  value r i = r *ℤ coordinate (point_at run i) (other_axis t) +ℤ pos 1 *ℤ coordinate (point_at run i) t

  -- a run of one point
  alone : (1 < length run → ⊥) → Diagonal
  alone n = (record { a = row t s (pos 1); mu = value s 0 }, (one_line s (value s 0) sense (λ i m. ap (value s) (let e : i ≡ 0 = omega arith in e)), main_one t s l))

  changes : (v : ℤ) (j : ℕ) → change_at run (other_axis t) j ≡ v → coordinate (point_at run (j + 1)) t -ℤ coordinate (point_at run j) t ≡ v
  changes v j e = subst (λ u. coordinate (point_at run (j + 1)) u -ℤ coordinate (point_at run j) u ≡ v) (twice_other t l) e

  upward : ((i : ℕ) → i + 1 < length run → change_at run (other_axis t) i ≡ pos 1) → Diagonal
  upward h =
      let z0 = coordinate (point_at run 0) t in (
        record { a = row t (neg_ℤ s) (pos 1); mu = z0 -ℤ x0 },
        (
          one_line (neg_ℤ s) (z0 -ℤ x0) (let o : nat_abs s ≡ 1 = sense in omega (arith, ints, o))
              (λ i m. value_forward s (coordinate (point_at run i) (other_axis t)) (coordinate (point_at run i) t) x0 (pos i) z0 (place i m)
              (rises (λ j b. changes (pos 1) j (h j b)) i m)),
          main_one t (neg_ℤ s) l,
        ),
      )

  downward : ((i : ℕ) → i + 1 < length run → change_at run (other_axis t) i ≡ negsuc 0) → Diagonal
  downward h =
      let z0 = coordinate (point_at run 0) t in (
        record { a = row t s (pos 1); mu = z0 +ℤ x0 },
        (
          one_line s (z0 +ℤ x0) sense
              (λ i m. value_backward s (coordinate (point_at run i) (other_axis t)) (coordinate (point_at run i) t) x0 (pos i) z0 (place i m)
              (falls (λ j b. changes (negsuc 0) j (h j b)) i m)),
          main_one t s l,
        ),
      )

  -- so a line with the main coefficient 1 holds the run that is straight for the other axis too
  diagonal : IsStraightFor (other_axis t) run → Diagonal
  diagonal h = elim (dec_lt 1 (length run)) [
    | no n ↦ alone n
    | yes some ↦ elim (first_way (other_axis t) run h.no_turn some) [
      | inl e ↦ upward (forward (other_axis t) run h.no_turn e)
      | inr e ↦ downward (backward (other_axis t) run h.no_turn e)
    ]
  ]

-- ---- the segment

pub one_axis : (s : Segment) → pos 1 <ℤ coordinate (take 2 s.line.a) s.axis → IsStraightFor (other_axis s.axis) (points_of s) → ⊥
one_axis s great h =
    let run = run_of_segment s in
    let d = diagonal s.axis s.grown.axis s.sense (seg_of s).x0 s.grown.sense (points_of s) run.flat run.place h in
    let least = (segment_least s).least d.0 d.1.0 in
    let one = d.1.1 in
    omega (arith, ints, great, least, one)
