-- Of the least lines of a run along which the other coordinate goes one way by one: no line of either axis has a lesser main coefficient, and two of them have
-- one direction.
-- Lists of points alone; contours belong elsewhere.
use Rattle.std.proofs.Common.{◌≡◌, ◌⊎◌, inl, inr, ℕ, zero, suc, ◌+◌, ◌-◌, ◌<◌, List, length, sym, ap, ◌∙◌, arith}
use Rattle.std.specs.Prelude.{ℤ, pos, negsuc, neg_ℤ, ◌≤ℤ◌}
use Rattle.std.proofs.lemmas.Int.{ints}
use Rattle.shape_terms.specs.Points.{Point, coordinate}
use Rattle.shape_terms.specs.Naive.{Naive, IsNaiveFor}
use Rattle.shape_terms.specs.Refutations.{point_at}
use Rattle.shape_terms.specs.Turns.{change_at}
use Rattle.shape_terms.specs.Straight.{KeepsSense}
use Rattle.shape_terms.specs.Least.{IsLeastLine}
use Rattle.report_terms.proofs.SteadyRuns.{least_once, least_diagonal, slope_told}

-- two rows of coefficients have the same direction: they are equal or opposite
pub data AreParallel (a b : List ℤ) : Type 0 where
  Equal : coordinate a 0 ≡ coordinate b 0 → coordinate a 1 ≡ coordinate b 1 → AreParallel a b
  Opposite : coordinate a 0 ≡ neg_ℤ (coordinate b 0) → coordinate a 1 ≡ neg_ℤ (coordinate b 1) → AreParallel a b

pub parallel_back : (a b : List ℤ) → AreParallel a b → AreParallel b a
parallel_back a b (AreParallel.Equal e f) = AreParallel.Equal (sym e) (sym f)
parallel_back a b (AreParallel.Opposite e f) = AreParallel.Opposite (turn (coordinate a 0) (coordinate b 0) e) (turn (coordinate a 1) (coordinate b 1) f)
  where
    turn : (x y : ℤ) → x ≡ neg_ℤ y → y ≡ neg_ℤ x
    turn x y e = omega (arith, ints, e)

-- each change is 1 or -1
pub sense_steps : (t : ℕ) (run : List Point) → KeepsSense t run → (i : ℕ) → i + 1 < length run → (change_at run t i ≡ pos 1) ⊎ (change_at run t i ≡ negsuc 0)
sense_steps t run (inl h) i l = inl (h i l)
sense_steps t run (inr h) i l = inr (h i l)

module _ (run : List Point) (flat : (i : ℕ) → i < length run → length (point_at run i) ≡ 2) where
  -- ---- the least of all lines

  least_of_other : (t : ℕ) → t < 2 → KeepsSense t run → (n m : Naive) → IsLeastLine t run n → IsNaiveFor (1 - t) run m
      → coordinate n.a t ≤ℤ coordinate m.a (1 - t)
  least_of_other t l sense n m h k =
      let e = least_diagonal t run l flat (sense_steps t run sense) n m h.line k h in
      let some = k.proper.main in
      omega (arith, ints, e, some)

  -- no proper naive line of either axis that holds the run has a lesser main coefficient
  pub least_of_all : (t u : ℕ) → t < 2 → u < 2 → KeepsSense t run → (n m : Naive) → IsLeastLine t run n → IsNaiveFor u run m
      → coordinate n.a t ≤ℤ coordinate m.a u
  least_of_all zero zero l d sense n m h k = h.least m k
  least_of_all zero (suc zero) l d sense n m h k = least_of_other 0 l sense n m h k
  least_of_all (suc zero) zero l d sense n m h k = least_of_other 1 l sense n m h k
  least_of_all (suc zero) (suc zero) l d sense n m h k = h.least m k
  least_of_all (suc (suc t)) u l d sense n m h k = absurd (omega arith)
  least_of_all t (suc (suc u)) l d sense n m h k = absurd (omega arith)

  -- ---- one direction

  -- along a diagonal step the line of the one axis and that of the other have the slope that it tells
  along : (c e s d : ℤ) → (s ≡ pos 1) ⊎ (s ≡ negsuc 0) → (d ≡ pos 1) ⊎ (d ≡ negsuc 0) → (s ≡ pos 1 → c ≡ neg_ℤ d) × (s ≡ negsuc 0 → c ≡ d)
      → (d ≡ pos 1 → e ≡ neg_ℤ s) × (d ≡ negsuc 0 → e ≡ s)
      → ((c ≡ pos 1) × (e ≡ pos 1)) ⊎ ((c ≡ negsuc 0) × (e ≡ negsuc 0))
  along c e s d (inl x) (inl y) f g = inr (f.0 x ∙ ap neg_ℤ y, g.0 y ∙ ap neg_ℤ x)
  along c e s d (inl x) (inr y) f g = inl (f.0 x ∙ ap neg_ℤ y, g.1 y ∙ x)
  along c e s d (inr x) (inl y) f g = inl (f.1 x ∙ y, g.0 y ∙ ap neg_ℤ x)
  along c e s d (inr x) (inr y) f g = inr (f.1 x ∙ y, g.1 y ∙ x)

  crossed : KeepsSense 0 run → KeepsSense 1 run → (n m : Naive) → IsLeastLine 0 run n → IsLeastLine 1 run m → 1 < length run → AreParallel n.a m.a
  crossed across up n m h k two =
      let sx = sense_steps 0 run across in
      let sy = sense_steps 1 run up in
      let en = least_diagonal 0 run (omega arith) flat sx n m h.line k.line h in
      let em = least_diagonal 1 run (omega arith) flat sy m n k.line h.line k in
      let tn = slope_told 0 run (omega arith) flat sx n h.line two en in
      let tm = slope_told 1 run (omega arith) flat sy m k.line two em in
      elim (along (coordinate n.a 1) (coordinate m.a 0) (change_at run 0 0) (change_at run 1 0) (sx 0 two) (sy 0 two) tn tm) [
        | inl e ↦ AreParallel.Equal (en ∙ sym e.1) (e.0 ∙ sym em)
        | inr e ↦ AreParallel.Opposite (en ∙ sym (ap neg_ℤ e.1)) (e.0 ∙ sym (ap neg_ℤ em))
      ]

  -- two least lines, each of an axis along which the run keeps its sense
  pub one_direction : (t u : ℕ) → t < 2 → u < 2 → KeepsSense t run → KeepsSense u run → (n m : Naive) → IsLeastLine t run n → IsLeastLine u run m
      → 1 < length run → AreParallel n.a m.a
  one_direction zero zero l d st su n m h k two = let e = least_once 0 run l flat (sense_steps 0 run st) n m h k two in AreParallel.Equal e.0 e.1
  one_direction zero (suc zero) l d st su n m h k two = crossed st su n m h k two
  one_direction (suc zero) zero l d st su n m h k two = parallel_back m.a n.a (crossed su st m n k h two)
  one_direction (suc zero) (suc zero) l d st su n m h k two = let e = least_once 1 run l flat (sense_steps 1 run st) n m h k two in AreParallel.Equal e.1 e.0
  one_direction (suc (suc t)) u l d st su n m h k two = absurd (omega arith)
  one_direction t (suc (suc u)) l d st su n m h k two = absurd (omega arith)
