-- The places of the object by the values of a picture.
-- Laws of pictures alone.
use Rattle.std.proofs.Common.{◌≡◌, ◌<◌, ◌↔◌, ℕ, Bool, true, false, List, length, sym, ◌∙◌, subst, arith}
use Rattle.std.specs.Prelude.{Result, Ok, Err, IfOk}
use Rattle.std.proofs.lemmas.List.{get_or_past}
use native.Mathlib.Decide.{dec_lt}
use Rattle.shape_terms.specs.Points.{box_count}
use Rattle.shape_terms.specs.Pictures.{Picture}
use Rattle.shape_terms.proofs.BoxLists.{at_raster_point}
use Rattle.shape_terms.specs.Places.{ObjectPlace}
use Rattle.shape_adj.specs.Todo.{Marked}

-- a place whose value is true is in the row
pub marked_within : (values : List Bool) (i : ℕ) → Marked values i → i < length values
marked_within values i m = elim (dec_lt i (length values)) [
  | yes l ↦ l
  | no l ↦ (let z : false ≡ true = sym (get_or_past values i false (omega arith)) ∙ m in cc)
]

-- what is told of a row that is a copy of another
pub copied : {E : Type 0} (r : Result (List Bool) E) (P : List Bool → Type 0) (values : List Bool) → IfOk r (λ b. b ≡ values) → P values → IfOk r P
copied (Ok b) P values e h = subst P (sym e) h
copied (Err x) P values e h = tt

-- ---- object points

-- the values of a picture tell its object places
pub object_values : (X : Picture) → length X.values ≡ box_count X.sides → (i : ℕ) → Marked X.values i ↔ ObjectPlace X i
object_values X e i = (
  (λ m. let l : i < box_count X.sides = (let b = marked_within X.values i m in omega arith) in (l, at_raster_point X i l ∙ m)),
  λ o. sym (at_raster_point X i o.0) ∙ o.1,
)
