use Rattle.measure_terms.proofs.MomentComponents.{moments_measure, moments_once}
use Rattle.measure_terms.proofs.EllipseOnce.{ellipse_once}
use Rattle.measuring.proofs.moments_law.moments_measure_components.Goals as goal

pub returns-clause-components : goal.returns-clause-components
returns-clause-components c = moments_measure

pub returns-clause-moments_once : goal.returns-clause-moments_once
returns-clause-moments_once c = moments_once

pub returns-clause-ellipse_once : goal.returns-clause-ellipse_once
returns-clause-ellipse_once c = ellipse_once
