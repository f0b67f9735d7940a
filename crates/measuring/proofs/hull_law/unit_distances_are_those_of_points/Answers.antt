use Rattle.measure_terms.proofs.UnitSpacing.{unit_distance}
use Rattle.measuring.proofs.hull_law.unit_distances_are_those_of_points.Goals as goal

pub returns : goal.returns
returns c = unit_distance
