use Rattle.measure_terms.proofs.BordersOnce.{facts_once, borders_once, starts_once}
use Rattle.bordering.proofs.law.borders_depend_on_the_picture.Goals as goal

pub returns-clause-facts : goal.returns-clause-facts
returns-clause-facts c = facts_once

pub returns-clause-lengths : goal.returns-clause-lengths
returns-clause-lengths c = borders_once

pub returns-clause-starts : goal.returns-clause-starts
returns-clause-starts c = starts_once
