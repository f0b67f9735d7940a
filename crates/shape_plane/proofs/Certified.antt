-- What a row says on each axis, and that it stands for a lawful step or for a pair.
-- How rows are taken together belongs elsewhere.
use Rattle.std.proofs.Common.{◌≡◌, ℕ, zero, suc, ◌<◌, ◌≤◌, ◌⊎◌, inl, inr, List, length, get_or, refl, ap, arith}
use Rattle.std.specs.Prelude.{ℤ, pos, ◌-ℤ◌, All}
use Rattle.std.proofs.lemmas.Int.{ints}
use Rattle.std.proofs.lemmas.Option.{slice_get-get_or}
use Rattle.std.proofs.lemmas.List.Elements.{All-append, All-map}
use Rattle.shape_terms.specs.Points.{Point}
use Rattle.shape_refute.proofs.Meet.{unit_same, unit_other}
use Rattle.shape_plane.specs.declared.pair.Pair.{Pair}
use Rattle.shape_plane.specs.declared.row.Row.{Row}
use Rattle.shape_plane.specs.Rows.{IsGap}
use Rattle.shape_plane.specs.Pairs.{IsPair, ArePairs, first_axis, second_axis, gap, pair_row}
use Rattle.shape_plane.specs.Systems.{bounding_rows, rows_for, coefficient}
use Rattle.shape_plane.proofs.Weighed.{IsLawful}

-- ---- the axes

pub each_axis : (t k : ℕ) → t < 3 → k < 3 → (k ≡ t) ⊎ ((k ≡ first_axis t) ⊎ (k ≡ second_axis t))
each_axis (suc (suc (suc t))) k h l = absurd (omega arith)
each_axis t (suc (suc (suc k))) h l = absurd (omega arith)
each_axis t k h l = grind arith

pub few_axes : (d : ℕ) → (d ≡ 2) ⊎ (d ≡ 3) → d ≤ 3
few_axes d (inl e) = omega (arith, e)
few_axes d (inr e) = omega (arith, e)

pub low_axis : (d t : ℕ) → (d ≡ 2) ⊎ (d ≡ 3) → t < d → t < 3
low_axis d t two l = omega (arith, few_axes d two, l)

pub first_low : (d t : ℕ) → (d ≡ 2) ⊎ (d ≡ 3) → first_axis t < d
first_low d zero (inl e) = omega (arith, e)
first_low d zero (inr e) = omega (arith, e)
first_low d (suc t) (inl e) = omega (arith, e)
first_low d (suc t) (inr e) = omega (arith, e)

pub first_other : (t : ℕ) → first_axis t ≡ t → ⊥
first_other zero e = omega (arith, e)
first_other (suc t) e = omega (arith, e)

pub second_other : (t : ℕ) → second_axis t ≡ t → ⊥
second_other zero e = omega (arith, e)
second_other (suc zero) e = omega (arith, e)
second_other (suc (suc t)) e = omega (arith, e)

second_low : (t : ℕ) → second_axis t < 3
second_low zero = omega arith
second_low (suc zero) = omega arith
second_low (suc (suc t)) = omega arith

-- ---- what a row says on each axis

-- of the three axes that are told, the coefficient is that of the row
pub record IsToldBy (t : ℕ) (points : List Point) (r : Row) : Type 0 where
  pub x : coefficient t points r.cause (first_axis t) ≡ r.x
  pub y : coefficient t points r.cause (second_axis t) ≡ r.y
  pub z : coefficient t points r.cause t ≡ r.z

bounding_told : (t : ℕ) (points : List Point) → t < 3 → All (IsToldBy t points) (bounding_rows t)
bounding_told (suc (suc (suc t))) points h i r l = absurd (omega arith)
bounding_told t points h (suc (suc (suc (suc i)))) r l = absurd (omega arith)
bounding_told t points h i r l = record { x = refl; y = refl; z = refl }

pair_told : (t : ℕ) (points : List Point) (pair : Pair) → IsToldBy t points (pair_row t points pair)
pair_told t points pair = record {
  x = none (gap points pair (first_axis t)) _ (unit_other t (first_axis t) (first_other t));
  y = none (gap points pair (second_axis t)) _ (unit_other t (second_axis t) (second_other t));
  z = ap (λ (z : ℤ). gap points pair t -ℤ z) (unit_same t);
}
  where
    none : (g u : ℤ) → u ≡ pos 0 → g -ℤ u ≡ g
    none g u e = omega (arith, ints, e)

-- in the plane the second slope stands in no pair, and its bounds stand for no step
pub record IsSound (d t : ℕ) (points : List Point) (pairs : List Pair) (r : Row) : Type 0 where
  pub told : IsToldBy t points r
  pub lawful : (d ≡ 2 → r.y ≡ pos 0) → IsLawful d t (length points) pairs r.cause
  pub flat : IsGap r.cause → d ≡ 2 → r.y ≡ pos 0

pub sound_rows : (d t : ℕ) (points : List Point) (pairs : List Pair) → (d ≡ 2) ⊎ (d ≡ 3) → t < d → ArePairs (length points) pairs
    → ((pair : Pair) → IsPair (length points) pair → d ≡ 2 → gap points pair (second_axis t) ≡ pos 0) → All (IsSound d t points pairs) (rows_for t points pairs)
sound_rows d t points pairs two axis are flat =
    All-append (IsSound d t points pairs) (bounding_rows t) _ bounds (All-map (IsSound d t points pairs) (pair_row t points) pairs each)
  where
    told : All (IsToldBy t points) (bounding_rows t)
    told = bounding_told t points (low_axis d t two axis)

    second : (d ≡ 2 → ⊥) → (second_axis t < d) × (second_axis t ≡ t → ⊥)
    second n = (by_space two, second_other t)
      where
        by_space : (d ≡ 2) ⊎ (d ≡ 3) → second_axis t < d
        by_space (inl e) = absurd (n e)
        by_space (inr e) = omega (arith, second_low t, e)

    bounds : All (IsSound d t points pairs) (bounding_rows t)
    bounds zero r l = record { told = told zero r l; lawful = λ h. (first_low d t two, first_other t); flat = λ g. absurd g }
    bounds (suc zero) r l = record { told = told (suc zero) r l; lawful = λ h. (first_low d t two, first_other t); flat = λ g. absurd g }
    bounds (suc (suc zero)) r l =
        record { told = told (suc (suc zero)) r l; lawful = λ h. second (λ e. let f = h e in omega (arith, ints, f)); flat = λ g. absurd g }
    bounds (suc (suc (suc zero))) r l =
        record { told = told (suc (suc (suc zero))) r l; lawful = λ h. second (λ e. let f = h e in omega (arith, ints, f)); flat = λ g. absurd g }
    bounds (suc (suc (suc (suc k)))) r l = absurd (omega arith)

    each : All (λ (pair : Pair). IsSound d t points pairs (pair_row t points pair)) pairs
    each k p l = record {
      told = pair_told t points (get_or pairs k p);
      lawful = λ h. (are k p l, (k, slice_get-get_or pairs k p l));
      flat = λ g. flat (get_or pairs k p) (are k p l);
    }
