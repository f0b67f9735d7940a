use Rattle.std.proofs.Common.{ap, sym, arith, length, ◌≤◌}
use Rattle.std.specs.Prelude.{nat_abs}
use Rattle.std.proofs.lemmas.List.{length-map}
use Rattle.shape_terms.specs.Points.{sides_of}
use Rattle.measuring.proofs.TextSteps.{no_digit}
use Rattle.measuring.proofs.text.digit.Goals as goal

pub returns-else-k-DIM : goal.returns-else-k-DIM
returns-else-k-DIM g c =
    let n = g.P.Point.coords c.args.sides.lengths in
    let axes = g.met.P.Point.axes c.args.sides.lengths in
    let m : length (sides_of n) ≤ c.args.k = omega (arith, length-map n nat_abs, axes, c.DIM.ensures, c.if-k-DIM.false) in
    sym (ap nat_abs (no_digit (sides_of n) c.args.k c.args.i m))
