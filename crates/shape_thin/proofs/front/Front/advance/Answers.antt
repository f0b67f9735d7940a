use Rattle.std.proofs.Common.{◌∙◌, ap, length, arith}
use Rattle.shape_thin.proofs.ThinnerSteps.{fits_on, fits_passed}
use Rattle.shape_thin.proofs.front.Front.advance.Goals as goal

pub loop-self-smaller : goal.loop-self-smaller
loop-self-smaller g c =
    let p = fits_passed c.loop-self.invariant.fits (omega arith) in
    omega (arith, p, c.pass.ensures.one_more, ap length c.pass.ensures.distances)

pub loop-self-preserved : goal.loop-self-preserved
loop-self-preserved g c =
    let i = c.loop-self.invariant in
    record {
      fits = fits_on c.pass.ensures.front i.fits;
      front = λ X marked state h. c.pass.ensures.front X marked state (i.front X marked state h);
      room = c.pass.ensures.room ∙ i.room;
      few = omega (arith, c.pass.ensures.few, i.few);
    }
