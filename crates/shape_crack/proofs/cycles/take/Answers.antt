use Rattle.std.proofs.Common.{rules, arith, ◌≡◌, ◌+◌, ◌*◌, true, refl, subst, inl}
use Rattle.shape_terms.specs.Points.{raster_number, raster_point}
use Rattle.shape_terms.proofs.Boxes.{raster_number-raster_point}
use Rattle.shape_crack.specs.MarkBits.{is_marked}
use Rattle.shape_crack.proofs.cycles.take.Goals as goal

pub returns-else-not-has-clause-taken : goal.returns-else-not-has-clause-taken
returns-else-not-has-clause-taken c =
    let X = c.args.grid.now in
    let e = raster_number-raster_point X.sides c.args.i c.requires.pixel in
    let n : c.args.i * 4 + c.args.side ≡ raster_number X.sides (raster_point X.sides c.args.i) * 4 + c.args.side = omega arith in
    let m : is_marked c.args.marks.now (c.args.i * 4 + c.args.side) ≡ true = search rules in
    inl (subst (λ j. is_marked c.args.marks.now j ≡ true) n m, refl, refl)
