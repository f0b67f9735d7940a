use Rattle.std.proofs.Common.{ℕ, ◌++◌, ◌∷◌, [], ap, sym, pos}
use Rattle.std.proofs.lemmas.Int.{to_z-of_z}
use Rattle.shape_line.specs.Frames.{row}
use Rattle.shape_line.proofs.FrameLines.{row_else}
use Rattle.shape_line.proofs.frame.coefficients.Goals as goal

pub returns-then-axis-eq0 : goal.returns-then-axis-eq0
returns-then-axis-eq0 c =
    let f = c.ranges.other in
    let g = c.ranges.main in
    simp to_z-of_z (ap (λ (t : ℕ). row t c.args.other c.args.main ++ pos 0 ∷ []) (sym c.if-axis-eq0.true))

pub returns-else-axis-eq0 : goal.returns-else-axis-eq0
returns-else-axis-eq0 c =
    let f = c.ranges.other in
    let g = c.ranges.main in
    simp to_z-of_z (row_else c.args.axis c.args.other c.args.main c.if-axis-eq0.false)
