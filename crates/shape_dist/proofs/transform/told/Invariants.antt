use Rattle.std.proofs.Common.{◌≡◌, ◌≤◌, ◌-◌, ℕ, true, false}
use Rattle.std.specs.Prelude.{slice_index_or}
use Rattle.shape_terms.specs.Points.{box_count}
use Rattle.shape_terms.proofs.DistanceLists.{DistancesTo}
use Rattle.shape_cells.specs.Held.{HasCell}
use Rattle.shape_dist.specs.Features.{framed_points}
use Rattle.shape_dist.proofs.FeatureLists.{AreFeaturesTo}
use Rattle.shape_dist.proofs.transform.told.Given as goal

abbrev pub invariant-loop-i : goal.invariant-loop-i
invariant-loop-i g l = record {
  features : AreFeaturesTo l.grid l.next (framed_points l.grid.sides l.numbers.items);
  distances : DistancesTo l.grid l.next l.distances.values;
  cells : (i : ℕ) → slice_index_or l.grid.values i false ≡ true → HasCell l.distances i;
  low : l.next ≤ box_count l.grid.sides;
}

abbrev pub decreases-loop-i : goal.decreases-loop-i
decreases-loop-i g l = box_count l.grid.sides - l.next
