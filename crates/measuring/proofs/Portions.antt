-- The part of a direction that counts for a class, by the classes that are nearer to it and as near.
-- Directions and classes alone.
use Rattle.std.proofs.Common.{◌≡◌, ℕ, ◌/◌, ◌<◌, ◌≤◌, Bool, true, false, ap, arith}
use Rattle.std.specs.Prelude.{if◌then◌else◌, nat_lt, count_by, cond}
use Rattle.std.specs.List.{list_any}
use Rattle.std.proofs.lemmas.Bool.Decides.{nat_tests}
use Rattle.measure_terms.specs.Spacing.{Spacing}
use Rattle.measure_terms.specs.Shares.{Direction, spaced_step, classes, is_nearer, is_as_near, portion}
use Rattle.measuring.proofs.Ranges.{any_here}

-- a class is nearer to the direction than another, and as near
abbrev pub nearer : Spacing → ℕ → Direction → ℕ → Bool
nearer s c u b = is_nearer u (spaced_step s b) (spaced_step s c)

abbrev pub as_near : Spacing → ℕ → Direction → ℕ → Bool
as_near s c u b = is_as_near u (spaced_step s b) (spaced_step s c)

pub lt_true : (m n : ℕ) → m < n → nat_lt m n ≡ true
lt_true m n l = grind (arith, nat_tests)

pub lt_false : (m n : ℕ) → n ≤ m → nat_lt m n ≡ false
lt_false m n l = grind (arith, nat_tests)

pub small_tie : (b : Bool) → cond b 1 0 ≤ 1
small_tie true = omega arith
small_tie false = omega arith

pub beaten : (s : Spacing) (c b : ℕ) (u : Direction) → 1 ≤ b → b < 8 → nearer s c u b ≡ true → portion s c u ≡ 0
unfolding portion
beaten s c b u l m t = ap (λ v. if v then 0 else (420 / count_by (as_near s c u) classes)) (any_here (nearer s c u) 1 7 b l m t)

pub unbeaten : (s : Spacing) (c : ℕ) (u : Direction) → list_any (nearer s c u) classes ≡ false → portion s c u ≡ 420 / count_by (as_near s c u) classes
unfolding portion
unbeaten s c u e = ap (λ v. if v then 0 else (420 / count_by (as_near s c u) classes)) e
