-- Runs of a row of truth values: stretches of places whose values are the same, and what is changed of them at once.
-- How a run is found, place by place or by words, does not matter here.
use Rattle.std.specs.Prelude.{◌≡◌, ℕ, suc, ◌<◌, ◌≤◌, Bool, true, false, not, List, length, slice_index_or}

-- the values from a place on are v up to k, and no further up to another place
pub record IsRunEnd (values : List Bool) (v : Bool) (from until k : ℕ) : Type 0 where
  pub on : from ≤ k
  pub within : k ≤ until
  pub each : (i : ℕ) → from ≤ i → i < k → slice_index_or values i false ≡ v
  pub stop : k < until → slice_index_or values k false ≡ not v

-- the values before a place are true back to k, and no further back to another place
pub record IsRunStart (values : List Bool) (from until k : ℕ) : Type 0 where
  pub on : from ≤ k
  pub within : k ≤ until
  pub each : (i : ℕ) → k ≤ i → i < until → slice_index_or values i false ≡ true
  pub stop : (i : ℕ) → suc i ≡ k → from ≤ i → slice_index_or values i false ≡ false

-- the values of a stretch are v, and all else is as before
pub record IsFilled (old new : List Bool) (from until : ℕ) (v : Bool) : Type 0 where
  pub room : length new ≡ length old
  pub inside : (i : ℕ) → from ≤ i → i < until → slice_index_or new i false ≡ v
  pub before : (i : ℕ) → i < from → slice_index_or new i false ≡ slice_index_or old i false
  pub behind : (i : ℕ) → until ≤ i → slice_index_or new i false ≡ slice_index_or old i false
