-- The rows of a list of pairs, and the weights of points and steps that stand for them.
-- How weights are found belongs elsewhere.
use Rattle.std.specs.Prelude.{ℕ, zero, suc, List, [], ◌∷◌, ◌++◌, map, ℤ, pos, negsuc, neg_ℤ, ◌-ℤ◌, ◌*ℤ◌, unsigned_abs}
use Rattle.shape_terms.specs.Points.{Point, coordinate}
use Rattle.shape_terms.specs.Vectors.{unit}
use Rattle.shape_terms.specs.Refutations.{Step as Shift, Refutation, step_of}
use Rattle.shape_refute.specs.declared.share.Step.{Step}
use Rattle.shape_refute.specs.declared.share.Step.TheVariants.{Plus, Minus}
use Rattle.shape_refute.specs.Shown.{shift_of}
use Rattle.shape_refute.specs.Sums.{shares_sum, steps_sum, axis_value}
use Rattle.shape_plane.specs.declared.pair.Pair.{Pair}
use Rattle.shape_plane.specs.declared.row.Row.{Row}
use Rattle.shape_plane.specs.declared.row.Cause.{Cause}
use Rattle.shape_plane.specs.declared.row.Cause.TheVariants.{Proper, Gap}
use Rattle.shape_plane.specs.declared.eliminate.Multiple.{Multiple}
use Rattle.shape_plane.specs.declared.eliminate.Excluded.{Excluded}
use Rattle.shape_plane.specs.Rows.{row_at}
use Rattle.shape_plane.specs.Pairs.{first_axis, second_axis, gap, pair_row}

-- what a step says of the slopes
abbrev pub proper_row : ℤ → ℤ → Step → Row
proper_row x y s = record { x = x; y = y; z = negsuc 0; cause = Proper s }

-- the rows that keep both slopes between -1 and 1
abbrev pub bounding_rows : ℕ → List Row
bounding_rows t = proper_row (negsuc 0) (pos 0) (Plus (first_axis t)) ∷ proper_row (pos 1) (pos 0) (Minus (first_axis t)) ∷ proper_row (pos 0) (negsuc 0)
    (Plus (second_axis t)) ∷ proper_row (pos 0) (pos 1) (Minus (second_axis t)) ∷ []

-- those rows, and what each pair says
abbrev pub rows_for : ℕ → List Point → List Pair → List Row
rows_for t points pairs = bounding_rows t ++ map (pair_row t points) pairs

-- ---- weights

abbrev pub no_weights : Refutation
no_weights = record { low = []; high = []; steps = [] }

abbrev pub with_step : Refutation → ℕ → Shift → Refutation
with_step r w s = record { low = r.low; high = r.high; steps = r.steps ++ record { weight = w; step = s } ∷ [] }

abbrev pub with_pair : Refutation → ℕ → Pair → Refutation
with_pair r w pair = record {
  low = r.low ++ record { weight = w; place = pair.low } ∷ [];
  high = r.high ++ record { weight = w; place = pair.high } ∷ [];
  steps = r.steps;
}

-- a row taken so often: its step, or its pair; nothing where it is taken no times
abbrev pub with_row : Refutation → ℕ → Cause → Refutation
with_row r zero c = r
with_row r (suc w) (Proper s) = with_step r (suc w) (shift_of s)
with_row r (suc w) (Gap pair) = with_pair r (suc w) pair

-- steps up, so many; none where there are none
abbrev pub with_up : Refutation → ℕ → Refutation
with_up r zero = r
with_up r (suc w) = with_step r (suc w) Shift.Up

-- the rows of a combination, so often as it is taken
abbrev pub with_first : List Row → Refutation → Multiple → Refutation
with_first rows r m = with_row r (unsigned_abs (m.times *ℤ m.combination.first_weight)) (row_at rows m.combination.first).cause

abbrev pub with_second : List Row → Refutation → Multiple → Refutation
with_second rows r m = with_row r (unsigned_abs (m.times *ℤ m.combination.second_weight)) (row_at rows m.combination.second).cause

abbrev pub with_multiple : List Row → Refutation → Multiple → Refutation
with_multiple rows r m = with_second rows (with_first rows r m) m

-- the rows of both combinations, and so many steps up as they leave
abbrev pub weights_of : List Row → Excluded → Refutation
weights_of rows k = with_up (with_multiple rows (with_multiple rows no_weights k.first) k.second) (unsigned_abs k.rest)

-- what the weights leave on the axis k: the high points, each one step down, less the low points and the steps
abbrev pub balance : ℕ → List Point → Refutation → ℕ → ℤ
balance t points r k = (shares_sum (axis_value points k (coordinate (unit t) k)) r.high -ℤ shares_sum (axis_value points k (pos 0)) r.low) -ℤ steps_sum t k
    r.steps

-- the coefficient of a row on the axis k
abbrev pub coefficient : ℕ → List Point → Cause → ℕ → ℤ
coefficient t points (Proper s) k = neg_ℤ (coordinate (step_of t (shift_of s)) k)
coefficient t points (Gap pair) k = gap points pair k -ℤ coordinate (unit t) k
