-- Lists that are kept in cells: each item that is kept stands in a cell of its own, whose number is told by its place in the list.
-- What the items are does not matter here.
use Rattle.std.specs.Prelude.{◌≡◌, ◌≢◌, ℕ, ◌<◌, Bool, true, false, List, length, map, slice_index_or, if◌then◌else◌}
use Rattle.std.specs.List.{range_with_len}

-- the items in their order: item i stands in cell number cell i where it is kept, and is none where it is not
abbrev pub laid : {A : Type 0} → A → (ℕ → ℕ) → List Bool → List A → List A
laid none cell kept cells = map (λ i. if slice_index_or kept i false then slice_index_or cells (cell i) none else none) (range_with_len 0 (length kept))

-- each item that is kept has a cell among so many, and no two of them have the same
pub record AreApart (cell : ℕ → ℕ) (kept : List Bool) (room : ℕ) : Type 0 where
  pub within : (i : ℕ) → slice_index_or kept i false ≡ true → cell i < room
  pub apart : (i j : ℕ) → slice_index_or kept i false ≡ true → slice_index_or kept j false ≡ true → i ≢ j → cell i ≢ cell j
