use Rattle.std.proofs.Common.{◌+◌, get_or, Contains}
use Rattle.measure_terms.specs.Components.{component}
use Rattle.measure_terms.proofs.HullComponents.{hulls_measure, hulls_are_one, size_is_least}
use Rattle.measuring.proofs.hull_law.hulls_measure_components.Goals as goal

pub returns-clause-hulls : goal.returns-clause-hulls
returns-clause-hulls c = hulls_measure

pub returns-clause-one : goal.returns-clause-one
returns-clause-one c = hulls_are_one

pub returns-clause-least : goal.returns-clause-least
returns-clause-least c = λ X labels n zs h k d l. size_is_least (Contains (component X labels (k + 1))) (get_or zs k d) (h.each k d l)
