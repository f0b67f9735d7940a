use Rattle.shape_terms.proofs.Exclusion.{excludes}
use Rattle.shape_refute.proofs.refutation.refutation_excludes.Goals as goal

pub returns : goal.returns
returns c = excludes
