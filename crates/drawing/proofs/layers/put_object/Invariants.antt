use Rattle.std.proofs.Common.{◌≡◌, ◌++◌}
use Rattle.std.specs.List.{flat_map, range_with_len}
use Rattle.drawing.specs.Seen.{all_pixels}
use Rattle.drawing.specs.Svg.{depth_path}
use Rattle.drawing.proofs.layers.put_object.Given as goal

abbrev pub invariant-loop-depth : goal.invariant-loop-depth
invariant-loop-depth l = l.svg ≡ l.initial.svg ++ flat_map (depth_path (all_pixels l.found)) (range_with_len 0 l.depth)
