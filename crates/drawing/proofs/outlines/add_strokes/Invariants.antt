use Rattle.std.proofs.Common.{◌≡◌, ◌++◌, true, drop}
use Rattle.std.specs.Prelude.{filter}
use Rattle.shape_terms.specs.Points.{sides_of}
use Rattle.drawing.specs.Seen.{flat, flats, all_strokes, all_stretches}
use Rattle.drawing.specs.Outlines.{strokes_along, is_inside}
use Rattle.drawing.proofs.outlines.add_strokes.Given as goal

abbrev pub invariant-loop-s : goal.invariant-loop-s
invariant-loop-s l = all_strokes l.strokes.items ++ filter (is_inside (sides_of (flat l.sides.lengths)))
    (strokes_along (flats l.points) l.even (all_stretches (drop l.s-index l.stretches)))
    ≡ all_strokes l.initial.strokes.items ++ filter (is_inside (sides_of (flat l.sides.lengths)))
    (strokes_along (flats l.points) true (all_stretches l.stretches))
