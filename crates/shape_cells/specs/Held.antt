-- What places hold, where some of them have a cell of their own and each other one holds what its number tells.
-- The cells stand one after the other, one for each place or one for each true value of a row.
use Rattle.std.specs.Prelude.{◌≡◌, ℕ, ◌<◌, ◌≤◌, Bool, true, false, List, length, map, slice_get, slice_index_or, slice_set, if◌then◌else◌, Option, Some, None}
use Rattle.std.specs.List.{range_with_len}
use Rattle.shape_terms.specs.Limits.{most_framed}
use Rattle.shape_cells.specs.Counting.{trues, trues_before}

-- what each place holds, and whether it has a cell of its own
pub record Held (A : Type 0) : Type 0 where
  pub values : List A
  pub kept : List Bool

-- the place has a cell of its own
abbrev pub HasCell : {A : Type 0} → Held A → ℕ → Type 0
HasCell held i = slice_index_or held.kept i false ≡ true

-- each place without a cell of its own holds what its number tells
abbrev pub IsBareElsewhere : {A : Type 0} → (ℕ → A) → Held A → Type 0
IsBareElsewhere bare held = (i : ℕ) → i < length held.values → (HasCell held i → ⊥) → slice_get held.values i ≡ Some (bare i)

-- with this value at a place that has a cell of its own; any other place stays as it is
abbrev pub with_value : {A : Type 0} → Held A → ℕ → A → Held A
with_value held i value = record { values = if slice_index_or held.kept i false then slice_set held.values i value else held.values; kept = held.kept }

-- ---- how the cells are kept

-- each place has a cell of its own
abbrev pub all_kept : {A : Type 0} → List A → Held A
all_kept values = record { values = values; kept = map (λ _. true) values }

-- what a place holds where the true values have the cells, in order: the cell of its number, or what is bare
abbrev pub value_at : {A : Type 0} → (ℕ → A) → List Bool → List A → ℕ → A
value_at bare objects cells i = if slice_index_or objects i false then slice_index_or cells (trues_before objects i) (bare i) else bare i

-- the true values have the cells, in order, and no other place has one
abbrev pub trues_kept : {A : Type 0} → (ℕ → A) → List Bool → List A → Held A
trues_kept bare objects cells = record { values = map (value_at bare objects cells) (range_with_len 0 (length objects)); kept = objects }

-- each place has a cell where no row of objects is told; else the true values of the row have them
abbrev pub held : {A : Type 0} → (ℕ → A) → Option (List Bool) → List A → Held A
held bare None cells = all_kept cells
held bare (Some objects) cells = trues_kept bare objects cells

-- there are as many cells as that asks for
abbrev pub AreCells : {A : Type 0} → Option (List Bool) → List A → Type 0
AreCells None cells = length cells ≤ most_framed
AreCells (Some objects) cells = (length objects ≤ most_framed) × (length cells ≡ trues objects)
