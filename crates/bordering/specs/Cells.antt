-- What the program keeps of the lengths of a step along several runs: their sum and number.
-- Which runs pass a step is told in the definitions.
use Rattle.std.specs.Prelude.{◌≡◌, ℕ, ◌+◌, ◌*◌, ◌/◌, ◌^◌, ◌<◌, ◌≤◌, nat_le, nat_lt, Bool, ◌&&◌, if◌then◌else◌, List, map, length, sum, slice_index_or}
use Rattle.std.specs.List.{range_with_len}
use Rattle.shape_terms.specs.Points.{Point}
use Rattle.measure_terms.specs.Runs.{Run}
use Rattle.measure_terms.specs.Lengths.{share, step_at, shares}
use Rattle.bordering.specs.declared.cells.Cell.{Cell}

-- some lengths
abbrev pub cell_of : List ℕ → Cell
cell_of xs = record { sum = sum xs; many = length xs }

-- no length
abbrev pub no_cell : Cell
no_cell = record { sum = 0; many = 0 }

-- one length more
abbrev pub cell_with : Cell → ℕ → Cell
cell_with c x = record { sum = c.sum + x; many = c.many + 1 }

-- there is room for so many lengths more, where none is greater than 2^41
pub record HasRoom (n : ℕ) (c : Cell) : Type 0 where
  pub few : c.many + n < 2 ^ 61
  pub small : c.sum ≤ c.many * 2 ^ 41

-- and of each step
abbrev pub HaveRoom : ℕ → List Cell → Type 0
HaveRoom n cells = (i : ℕ) → i < length cells → HasRoom n (slice_index_or cells i no_cell)

-- a place is from the first up to before the second
abbrev pub is_between : (from to i : ℕ) → Bool
is_between from to i = nat_le from i && nat_lt i to

-- each step from a place up to before another has one length more, that along the run
pub record ArePassed (points : List Point) (r : Run) (from to : ℕ) (old new : List Cell) : Type 0 where
  pub all : length new ≡ length old
  pub each : (i : ℕ) → i < length old → slice_index_or new i no_cell
      ≡ (if is_between from to i then cell_with (slice_index_or old i no_cell) (share r (step_at points i)) else slice_index_or old i no_cell)

-- for each step of the contour, its lengths along these runs
abbrev pub AreCells : List Point → List Run → List Cell → Type 0
AreCells points runs cells = cells ≡ map (λ i. cell_of (shares points runs i)) (range_with_len 0 (length points))

-- the means of all
abbrev pub all_means : List Cell → ℕ
all_means cells = sum (map (λ (c : Cell). c.sum / c.many) cells)
