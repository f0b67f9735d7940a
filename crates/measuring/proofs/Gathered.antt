-- What the classes have of the fan, lattice point by lattice point, and what all have.
-- Spacings and numbers alone.
use Rattle.std.proofs.Common.{◌≡◌, ℕ, ◌+◌, ◌*◌, ◌/◌, ◌^◌, arith, refl, sym, ap, ◌∙◌}
use Rattle.std.proofs.Math.Nat.{mul-zero}
use Rattle.std.specs.Prelude.{sum_by}
use Rattle.measure_terms.specs.Spacing.{Spacing}
use Rattle.measure_terms.specs.Rounding.{root}
use Rattle.measure_terms.specs.Shares.{fan_size, first_of, second_of, reach, directions_of, portion, solid_angle, given, gathered, gathered_by_all, share, dot}
use Rattle.measure_terms.specs.Shares.{spaced_step}
use Rattle.measure_terms.specs.SpacedSurface.{volume, variants, step_size, step_weight}
use Rattle.measuring.proofs.Ranges.{sum_more}

pub none_gathered : (s : Spacing) (c : ℕ) → gathered s 0 c ≡ 0
unfolding gathered
none_gathered s c = refl

pub gathered_more : (s : Spacing) (c i : ℕ) → gathered s (i + 1) c ≡ gathered s i c + given s c i
unfolding gathered
gathered_more s c i = sum_more (given s c) 0 i i (omega arith)

pub given_is : (s : Spacing) (c i : ℕ) → given s c i ≡ solid_angle (first_of i) (second_of i) * sum_by (portion s c) (directions_of (first_of i) (second_of i))
unfolding given
given_is s c i = refl

pub nothing_given : (s : Spacing) (c i : ℕ) → sum_by (portion s c) (directions_of (first_of i) (second_of i)) ≡ 0 → given s c i ≡ 0
nothing_given s c i e = given_is s c i ∙ ap (λ n. solid_angle (first_of i) (second_of i) * n) e ∙ mul-zero (solid_angle (first_of i) (second_of i))

pub angle_is : (a b : ℕ) → solid_angle a b ≡ 10 ^ 26 / reach a b / root (reach a b)
unfolding solid_angle
angle_is a b = refl

pub all_gathered : (s : Spacing) → gathered_by_all s
    ≡ gathered s fan_size 1
    + (gathered s fan_size 2
    + (gathered s fan_size 3 + (gathered s fan_size 4 + (gathered s fan_size 5 + (gathered s fan_size 6 + gathered s fan_size 7)))))
unfolding gathered_by_all
all_gathered s = omega arith

pub share_is : (s : Spacing) (c : ℕ) → share s c ≡ 10 ^ 12 * gathered s fan_size c / gathered_by_all s
unfolding share
share_is s c = refl

pub is_share : (s : Spacing) (c part all q : ℕ) → part ≡ gathered s fan_size c → all ≡ gathered_by_all s → q ≡ 10 ^ 12 * part / all → q ≡ share s c
is_share s c part all q p a h = h ∙ (λ i. 10 ^ 12 * p i / a i) ∙ sym (share_is s c)

-- ---- steps

pub size_is : (s : Spacing) (c : ℕ) → root (100000000 * dot (spaced_step s c) (spaced_step s c)) ≡ step_size s c
unfolding step_size
size_is s c = refl

pub weight_is : (s : Spacing) (c : ℕ) → 40000 * volume s 1 * share s c / variants c / step_size s c ≡ step_weight s c
unfolding step_weight
weight_is s c = refl
