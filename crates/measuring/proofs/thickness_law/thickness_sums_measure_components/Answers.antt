use Rattle.measure_terms.proofs.ThicknessComponents.{sums_measure, one_list}
use Rattle.measuring.proofs.thickness_law.thickness_sums_measure_components.Goals as goal

pub returns-clause-components : goal.returns-clause-components
returns-clause-components c = sums_measure

pub returns-clause-once : goal.returns-clause-once
returns-clause-once c = one_list
