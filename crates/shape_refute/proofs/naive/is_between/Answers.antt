use Rattle.std.proofs.Common.{arith, sym}
use Rattle.std.proofs.lemmas.Int.{ints}
use Rattle.shape_refute.proofs.naive.is_between.Goals as goal

pub returns-then-low-value : goal.returns-then-low-value
returns-then-low-value c = (λ h. omega (arith, ints), λ h. sym (omega (arith, ints)))
