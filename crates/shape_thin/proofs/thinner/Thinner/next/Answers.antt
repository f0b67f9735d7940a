use Rattle.std.proofs.Common.{◌∙◌, ap}
use Rattle.shape_terms.specs.Points.{raster_point}
use Rattle.shape_terms.proofs.FramedBoxes.{box_point_within}
use Rattle.shape_topo.proofs.MaskCount.{ones_are}
use Rattle.shape_thin.proofs.ThinnerSteps.{fits_place, some_fits, none_ahead}
use Rattle.shape_thin.proofs.thinner.Thinner.next.Goals as goal

pub returns-in_err-key : goal.returns-in_err-key
returns-in_err-key g c = rw c.from_residual.ensures (c.in_err-key.ensures.there, none_ahead c.args.self.now.fits c.in_err-key.ensures.there)

pub unraster-point-requires : goal.unraster-point-requires
unraster-point-requires g c = rw c.sides.ensures.value (fits_place (some_fits c.args.self.now.fits) c.in_ok-key.key c.in_ok-key.ensures.there)

pub mask-mask-requires : goal.mask-mask-requires
mask-mask-requires g c = fits_place (some_fits c.args.self.now.fits) c.in_ok-key.key c.in_ok-key.ensures.there

pub returns : goal.returns
returns g c =
    let s = c.sides.result in
    let place = c.unraster-point.ensures.value ∙ ap (λ n. raster_point n c.in_ok-key.key.place) c.sides.ensures.value in
    record {
      there = rw c.from.ensures c.in_ok-key.ensures.there;
      least = rw c.from.ensures c.in_ok-key.ensures.least;
      inside = fits_place (some_fits c.args.self.now.fits) c.in_ok-key.key c.in_ok-key.ensures.there;
      place = place;
      within = box_point_within g.P.Point.MAX_SIDE (g.P.Point.coords s.lengths) (g.P.Point.coords c.unraster-point.result) s.in_range g.met.P.Point.flat_side
          c.unraster-point.ensures.inside;
      near = rw place (ones_are c.args.self.now.left (raster_point c.args.self.now.left.sides c.in_ok-key.key.place) c.mask-mask.result
          c.mask-mask.ensures.mask);
      mask = rw place c.mask-mask.ensures.mask;
    }
