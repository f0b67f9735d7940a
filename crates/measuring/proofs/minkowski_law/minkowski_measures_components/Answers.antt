use Rattle.measure_terms.proofs.OctantComponents.{minkowski_measure}
use Rattle.measuring.proofs.minkowski_law.minkowski_measures_components.Goals as goal

pub returns : goal.returns
returns c = minkowski_measure
