-- The lower envelope of the first places of a row, in parts.
-- The parts have numbers: the place that is lowest in each, and where it starts.
use Rattle.std.specs.Prelude.{◌≡◌, ℕ, ◌+◌, ◌<◌, ◌≤◌, List, slice_index, pos, Option, Some, None}
use Rattle.shape_terms.specs.Rows.{cell, height}

-- the place i is filled and before j, and no filled place before j is lower at x
pub record IsLowestBefore (row : List (Option ℕ)) (j x i : ℕ) : Type 0 where
  pub f : ℕ
  pub filled : cell row i ≡ Some f
  pub before : i < j
  pub least : (k g : ℕ) → k < j → cell row k ≡ Some g → height f i (pos x) ≤ height g k (pos x)

-- no filled place before j is lower at x than j
abbrev pub Wins : List (Option ℕ) → ℕ → ℕ → Type 0
Wins row j x = (g k f : ℕ) → cell row j ≡ Some g → k < j → cell row k ≡ Some f → height g j (pos x) ≤ height f k (pos x)

-- from each of the first m starts up to the next, and from the last up to e, the place with the same number is lowest of those before j
pub record AreParts (row : List (Option ℕ)) (places starts : List ℕ) (m j e : ℕ) : Type 0 where
  pub first : 0 < m → slice_index starts 0 ≡ 0
  pub rising : (h k : ℕ) → h < k → k < m → slice_index starts h < slice_index starts k
  pub below : (k : ℕ) → k < m → slice_index starts k < e
  pub lowest : (k x : ℕ) → k < m → slice_index starts k ≤ x → x < e → (k + 1 < m → x < slice_index starts (k + 1))
      → IsLowestBefore row j x (slice_index places k)

-- the parts up to e, where j wins from e on
pub record IsCut (row : List (Option ℕ)) (places starts : List ℕ) (m j n : ℕ) : Type 0 where
  pub e : ℕ
  pub parts : AreParts row places starts m j e
  pub within : e ≤ n
  pub wins : (x : ℕ) → e ≤ x → x < n → Wins row j x
  pub alone : m ≡ 0 → (x : ℕ) → x < n → Wins row j x

-- the parts up to a start, where j is one of the places, and wins from the start on
pub record IsSettled (row : List (Option ℕ)) (places starts : List ℕ) (m start j n : ℕ) : Type 0 where
  pub parts : AreParts row places starts m (j + 1) start
  pub within : start ≤ n
  pub wins : (x : ℕ) → start ≤ x → x < n → Wins row j x
  pub alone : m ≡ 0 → start ≡ 0

-- the parts of all places before j; there is none exactly where these are empty
pub record AreBuilt (row : List (Option ℕ)) (places starts : List ℕ) (m j n : ℕ) : Type 0 where
  pub parts : AreParts row places starts m j n
  pub few : m ≤ j
  pub none : m ≡ 0 → (k : ℕ) → k < j → cell row k ≡ None
