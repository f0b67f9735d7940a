use Rattle.std.proofs.Common.{◌≡◌, ◌≤◌, ◌-◌, ℕ, true, false}
use Rattle.std.specs.Prelude.{slice_index_or}
use Rattle.shape_cells.specs.Held.{HasCell}
use Rattle.shape_adj.specs.Rows.{IsRow}
use Rattle.shape_terms.specs.Points.{box_count}
use Rattle.shape_terms.proofs.DistanceLists.{DistancesTo}
use Rattle.shape_check.proofs.distances.distances_of.Given as goal

abbrev pub invariant-loop-i : goal.invariant-loop-i
invariant-loop-i g l = record {
  so_far : DistancesTo l.scans l.next l.distances.values;
  cells : (i : ℕ) → slice_index_or l.scans.values i false ≡ true → HasCell l.distances i;
  low : l.next ≤ box_count l.scans.sides;
  row : IsRow l.scans.sides l.row.first l.row.end l.row.place;
  behind : l.row.first ≤ l.next;
}

abbrev pub decreases-loop-i : goal.decreases-loop-i
decreases-loop-i g l = box_count l.scans.sides - l.next
