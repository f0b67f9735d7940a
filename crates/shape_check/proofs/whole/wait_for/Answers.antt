use Rattle.std.proofs.Common.{refl}
use Rattle.shape_check.proofs.whole.wait_for.Goals as goal

pub returns-clause-thinned : goal.returns-clause-thinned
returns-clause-thinned g c = λ by now. record {
  filled = c.is_picture.ensures.picture.filled;
  points = _;
  counts = c.in_ok-parts.ensures;
  followed = (refl, c.in_ok-new.ensures.stands by);
  taken = refl;
}
