use Rattle.std.proofs.Common.{◌≡◌, ◌++◌, map}
use Rattle.std.specs.List.{flat_map, range_with_len}
use Rattle.shape_terms.specs.Points.{sides_of}
use Rattle.drawing.specs.Seen.{flat}
use Rattle.measuring.specs.Told.{measures_told}
use Rattle.draw_report.specs.Numbers.{deepest_point, numbered}
use Rattle.draw_report.proofs.numbers.put_all.Given as goal

abbrev pub invariant-loop-i : goal.invariant-loop-i
invariant-loop-i l =
    let points = map deepest_point (map (measures_told (sides_of (flat l.sides.lengths))) l.objects) in
    l.svg ≡ l.initial.svg ++ flat_map (numbered points) (range_with_len 0 l.i)
