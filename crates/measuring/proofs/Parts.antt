-- The parts of a matrix's angle are no more than all, and what is less than a number of them is less than each greater one.
-- Each law goes by both parts.
use Rattle.std.proofs.Common.{◌≡◌, ℕ, ◌+◌, ◌*◌, ◌≤◌, sym, ◌∙◌, subst, arith}
use Rattle.std.specs.Prelude.{ℤ, pos, ◌≤ℤ◌, ◌<ℤ◌, nat_abs, neg_ℤ}
use Rattle.std.proofs.lemmas.Int.{ints}
use Rattle.measure_terms.specs.Moments.{Moments}
use Rattle.measure_terms.specs.Ellipse.{double_x, discriminant, square, IsRounded}
use Rattle.measuring.specs.declared.matrix.Matrix.{Matrix}
use Rattle.measuring.specs.declared.axis_turn.Part.{Part}
use Rattle.measuring.specs.declared.axis_turn.Part.TheVariants.{Cosine, Sine}
use Rattle.measuring.specs.Matrices.{TellsMatrix}
use Rattle.measuring.specs.Turns.{most_parts, IsPartBelow, IsTurn}
use Rattle.measuring.specs.Parts.{along, IsLess}
use Rattle.measuring.proofs.AxisTurning.{part_at_most, part_rises}

negated_square : (x : ℤ) → square (neg_ℤ x) ≡ square x
negated_square x = let e : nat_abs (neg_ℤ x) ≡ nat_abs x = omega (arith, ints) in λ i. square_of (e i)
  where
    square_of : ℕ → ℕ
    square_of n = n * n

along_less : (part : Part) (a : Matrix) → square (along part a) ≤ square a.double_x + square a.double_y
along_less Cosine a = omega arith
along_less Sine a = let e = negated_square a.double_x in omega (arith, e)

pub less_at_most : (part : Part) (a : Matrix) → 1 ≤ square a.double_x + square a.double_y → IsLess part a most_parts
less_at_most part a some = part_at_most (along part a) (square a.double_x + square a.double_y) some (along_less part a)

pub less_rises : (part : Part) (a : Matrix) (r s : ℕ) → r ≤ s → IsLess part a r → IsLess part a s
less_rises part a r s l = part_rises (along part a) (square a.double_x + square a.double_y) r s l

-- ---- the angle of an object's axis

module _ (m : Moments) (a : Matrix) (is : TellsMatrix m a) where
  pub same_discriminant : square a.double_x + square a.double_y ≡ discriminant m
  same_discriminant = let x = is.double_x in let y = is.double_y in λ i. square (x i) + square (y i)

  cosine_told : (c : ℕ) → IsRounded (IsLess Cosine a) c → IsRounded (IsPartBelow (double_x m) (discriminant m)) c
  cosine_told c h = let x = is.double_x in let d = same_discriminant in subst (λ (P : ℕ → Type 0). IsRounded P c) (λ i. IsPartBelow (x i) (d i)) h

  sine_told : (c : ℕ) → IsRounded (IsLess Sine a) c → IsRounded (IsPartBelow (neg_ℤ (double_x m)) (discriminant m)) c
  sine_told c h = let x = is.double_x in let d = same_discriminant in subst (λ (P : ℕ → Type 0). IsRounded P c) (λ i. IsPartBelow (neg_ℤ (x i)) (d i)) h

  pub turned : (c n : ℕ) (s : ℤ) → (square a.double_x + square a.double_y ≡ 0 → ⊥) → IsRounded (IsLess Cosine a) c → IsRounded (IsLess Sine a) n → nat_abs s ≡ n
      → (pos 0 ≤ℤ a.double_y → pos 0 ≤ℤ s) → (a.double_y <ℤ pos 0 → s ≤ℤ pos 0) → IsTurn m (record { cosine = c; sine = s })
  turned c n s some cosine sine size down up = record {
    cosine = λ l. cosine_told c cosine;
    sine = λ l. subst (IsRounded (IsPartBelow (neg_ℤ (double_x m)) (discriminant m))) (sym size) (sine_told n sine);
    down = λ l. down (subst (λ z. pos 0 ≤ℤ z) (sym is.double_y) l);
    up = λ l. up (subst (λ z. z <ℤ pos 0) (sym is.double_y) l);
    circle = λ e. absurd (some (same_discriminant ∙ e));
  }
