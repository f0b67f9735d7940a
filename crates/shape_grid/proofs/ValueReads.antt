-- What the first true value of a grid from a place on tells of the object points.
-- Stated of pictures alone.
use Rattle.std.proofs.Common.{◌≡◌, ◌+◌, ◌-◌, ◌<◌, ◌≤◌, ℕ, zero, suc, false, [], ◌∷◌, length, get_or, refl, sym, ap, ◌∙◌, arith}
use Rattle.std.proofs.lemmas.List.{drop_all}
use Rattle.std.specs.Prelude.{filter}
use native.Mathlib.Decide.{dec_lt}
use Rattle.shape_terms.specs.Points.{box_count, box_points, raster_point}
use Rattle.shape_terms.specs.Pictures.{Picture, at, objects_from}
use Rattle.shape_terms.proofs.BoxLists.{objects_next, objects_skip, length-box_points}
use Rattle.shape_grid.specs.Truths.{IsFirstTrue}

-- points without a true value are passed
passed : (X : Picture) (n from : ℕ) → from + n ≤ box_count X.sides → ((k : ℕ) → from ≤ k → k < from + n → get_or X.values k false ≡ false)
    → objects_from X from ≡ objects_from X (from + n)
passed X zero from l none = let e : from + 0 ≡ from = omega arith in rw e refl
passed X (suc n) from l none =
    let e : from + suc n ≡ from + 1 + n = omega arith in
    objects_skip X from (omega arith) (none from (omega arith) (omega arith))
    ∙ passed X n (from + 1) (omega arith) (λ k m h. none k (omega arith) (omega arith)) ∙ ap (objects_from X) (sym e)

-- the first true value is that of the first object point
pub found : (X : Picture) (from k : ℕ) → length X.values ≡ box_count X.sides → IsFirstTrue X.values from k
    → objects_from X from ≡ raster_point X.sides k ∷ objects_from X (k + 1)
found X from k e f =
    let on = f.on in
    let within = f.within in
    let n : from + (k - from) ≡ k = omega arith in
    passed X (k - from) from (omega arith) (λ j l h. f.first j l (omega arith)) ∙ ap (objects_from X) n ∙ objects_next X k (omega arith) f.there

none_left : (X : Picture) (i : ℕ) → box_count X.sides ≤ i → objects_from X i ≡ []
none_left X i l = ap (filter (at X)) (drop_all i (box_points X.sides) (omega (arith, length-box_points X.sides)))

-- no value is true from there on
pub none_found : (X : Picture) (from : ℕ) → ((k : ℕ) → from ≤ k → get_or X.values k false ≡ false) → objects_from X from ≡ []
none_found X from none = elim (dec_lt from (box_count X.sides)) [
  | yes l ↦ passed X (box_count X.sides - from) from (omega arith) (λ k m h. none k m) ∙ none_left X (from + (box_count X.sides - from)) (omega arith)
  | no m ↦ none_left X from (omega arith)
]
