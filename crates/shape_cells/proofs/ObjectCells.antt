-- The cells of the object points of a picture, by their raster numbers.
-- Laws over pictures and lists.
use Rattle.std.proofs.Common.{◌≡◌, ◌<◌, ℕ, Bool, true, false, List, get_or, set, ap, sym, ◌∙◌}
use Rattle.std.specs.Prelude.{if◌then◌else◌}
use Rattle.std.proofs.lemmas.Bool.{and_parts}
use Rattle.shape_terms.specs.Points.{in_box, box_count, raster_point}
use Rattle.shape_terms.specs.Pictures.{Picture}
use Rattle.shape_terms.specs.Parts.{Object}
use Rattle.shape_terms.proofs.Boxes.{raster_number-raster_point}
use Rattle.shape_cells.specs.Held.{Held, HasCell, with_value}

-- what is put at a place that has a cell is there then
pub cell_put : {A : Type 0} (held : Held A) (i : ℕ) (value : A) → HasCell held i → (with_value held i value).values ≡ set held.values i value
cell_put held i value t = ap (λ b. if b then set held.values i value else held.values) t

-- the place of an object point has a cell
pub cell_there : (X : Picture) (kept : List Bool) (i : ℕ) → ((k : ℕ) → get_or X.values k false ≡ true → get_or kept k false ≡ true)
    → i < box_count X.sides → Object X (raster_point X.sides i) → get_or kept i false ≡ true
cell_there X kept i cells l o = cells i
    (ap (λ k. get_or X.values k false) (sym (raster_number-raster_point X.sides i l)) ∙ (and_parts (in_box X.sides (raster_point X.sides i)) _ o).1)
