use Rattle.std.proofs.Common.{◌≡◌, ◌++◌, length, map, take, drop, ap, ◌∙◌, arith}
use Rattle.std.proofs.Math.Seq.{take-append_seam}
use Rattle.shape_thickness.specs.Greatest.{greatest_squares}
use Rattle.masking.specs.Pictures.{told_square, told_diameter, squared_diameters}
use Rattle.masking.proofs.thickness.diameters.Goals as goal

pub returns : goal.returns
unfolding squared_diameters
returns g c =
    let new = c.double.new.squares in
    let old = c.as_mut_slice.result.now in
    let kept : length new ≡ length old = c.double.auto.squares in
    let len : c.in_ok-squares.squares.len ≡ length new = omega (arith, kept, c.as_mut_slice.ensures.len) in
    let rest = drop (length new) c.in_ok-squares.squares.items in
    let whole : take c.in_ok-squares.squares.len (new ++ rest) ≡ new = ap (λ n. take n (new ++ rest)) len ∙ take-append_seam new rest in
    c.of.ensures ∙ whole ∙ c.double.ensures ∙ ap (map told_diameter) (c.as_mut_slice.ensures.value ∙ c.in_ok-squares.ensures)
    ∙ (λ i. map told_diameter (greatest_squares (c.object.ensures i) (map told_square (c.squares.ensures.value i))))
