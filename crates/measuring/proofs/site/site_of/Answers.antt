use Rattle.shape_terms.specs.Points.{sides_of}
use Rattle.measuring.proofs.SiteNumbers.{axes_of, site_by_places}
use Rattle.measuring.proofs.site.site_of.Goals as goal

pub returns-clause-site : goal.returns-clause-site
returns-clause-site g c =
    let ns = g.P.Point.coords c.args.sides.lengths in
    site_by_places (sides_of ns) _ (g.P.Point.coords c.unraster-p.result) (axes_of ns (g.met.P.Point.two_or_three) (g.met.P.Point.axes c.args.sides.lengths))
    c.requires c.unraster-p.ensures.value c.place.ensures.value c.place-2.ensures.value c.place-3.ensures.value
