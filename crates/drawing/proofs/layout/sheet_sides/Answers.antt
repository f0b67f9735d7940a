use Rattle.std.proofs.Common.{◌∷◌, [], zero, suc, inl, ℤ, pos, ◌≤ℤ◌, refl, arith, to_z, w32}
use Rattle.std.proofs.lemmas.Int.{ints}
use Rattle.shape_terms.specs.Limits.{most_flat}
use Rattle.shape_terms.specs.Points.{AreSides}
use Rattle.shape_terms.proofs.Boxes.{some_points, few_points}
use Rattle.drawing.proofs.layout.sheet_sides.Goals as goal

two_sides : (w h : ℤ) → pos 1 ≤ℤ w → w ≤ℤ pos most_flat → pos 1 ≤ℤ h → h ≤ℤ pos most_flat → AreSides (pos most_flat) (w ∷ h ∷ [])
two_sides w h a b c d zero l = (a, b)
two_sides w h a b c d (suc zero) l = (c, d)
two_sides w h a b c d (suc (suc k)) l = absurd (omega arith)

pub invariant_of-result : goal.invariant_of-result
invariant_of-result c =
    let w = to_z w32 c.sheet_width.result in
    let h = to_z w32 c.sheet_height.result in
    let sides = two_sides w h (omega (arith, ints)) (omega (arith, ints)) (omega (arith, ints)) (omega (arith, ints)) in
    record {
      in_range = sides;
      some = some_points (pos most_flat) (w ∷ h ∷ []) sides;
      few = few_points (pos most_flat) (w ∷ h ∷ []) sides (omega (arith, ints)) (inl refl) (λ e. omega (arith, ints));
    }
