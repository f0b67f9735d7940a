use Rattle.measure_terms.proofs.QuotientFound.{quotient_holds}
use Rattle.bordering.proofs.law.shares_are_rounded_down.Goals as goal

pub returns-clause-share : goal.returns-clause-share
returns-clause-share c = quotient_holds
