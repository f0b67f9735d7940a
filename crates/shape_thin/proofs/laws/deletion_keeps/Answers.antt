use Rattle.std.proofs.Common.{refl}
use Rattle.shape_terms.proofs.SimpleDeletion.{counts_kept}
use Rattle.shape_thin.proofs.laws.deletion_keeps.Goals as goal

pub returns : goal.returns
returns c = λ Y p h s n o b k. counts_kept Y p o b n _ h s k refl
