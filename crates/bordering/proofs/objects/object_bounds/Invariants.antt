use Rattle.std.proofs.Common.{◌≡◌, take}
use Rattle.shape_terms.specs.Points.{sides_of}
use Rattle.measure_terms.specs.Objects.{object_bounds}
use Rattle.bordering.specs.Told.{flat, all_borders, all_bounds}
use Rattle.bordering.proofs.objects.object_bounds.Given as goal

abbrev pub invariant-loop-b : goal.invariant-loop-b
invariant-loop-b l = all_bounds l.all.items ≡ object_bounds (sides_of (flat l.sides.lengths)) l.labels l.count (all_borders (take l.b-index l.borders))
