use Rattle.std.proofs.Common.{sym}
use Rattle.measure_terms.proofs.QuotientFound.{zero_over}
use Rattle.bordering.proofs.along.Along.new.Goals as goal

pub invariant_of-result-clause-last_is : goal.invariant_of-result-clause-last_is
invariant_of-result-clause-last_is c = sym (zero_over _)

pub invariant_of-result-clause-other_is : goal.invariant_of-result-clause-other_is
invariant_of-result-clause-other_is c = sym (zero_over _)
