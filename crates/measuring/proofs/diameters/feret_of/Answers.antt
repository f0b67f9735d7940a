use Rattle.std.proofs.Common.{◌≤◌, List, length, ap, sym, subst, arith, rules}
use Rattle.shape_terms.specs.Points.{sides_of}
use Rattle.measuring.specs.Spaced.{spacing_told}
use Rattle.measuring.specs.declared.stretch.Stretch.{Stretch}
use Rattle.measuring.specs.declared.site.Site.{Site}
use Rattle.measuring.specs.Sites.{AreLayered, IsOneOf}
use Rattle.measuring.specs.Farthest.{IsFarthest, IsEnd, IsWithin}
use Rattle.measuring.specs.Layers.{AreVertices}
use Rattle.measuring.proofs.BestPairs.{farthest_of}
use Rattle.measuring.proofs.diameters.feret_of.Goals as goal

pub farthest-requires-clause-some : goal.farthest-requires-clause-some
farthest-requires-clause-some g c =
    let a = c.as_slice.ensures.value in
    let n = ap (λ (t : List Site). length t) a in
    let many : 1 ≤ length c.as_slice-stretches.result.now = search rules in
    let some = c.in_ok-sites.ensures.some many in
    omega (arith, n, some)

pub farthest-requires-clause-layered : goal.farthest-requires-clause-layered
farthest-requires-clause-layered g c = subst AreLayered (sym c.as_slice.ensures.value) c.in_ok-sites.ensures.layered

pub returns : goal.returns
returns g c = λ some.
    let s = spacing_told c.args.spacing in
    let sides = sides_of (g.P.Point.coords c.args.sides.lengths) in
    let ss = c.args.object.now.all.items in
    let sites = c.in_ok-sites.sites.items in
    let found = c.farthest.result in
    let v = subst (λ (t : List Stretch). AreVertices sides t sites) c.as_slice-stretches.ensures.value c.in_ok-sites.ensures in
    let far = subst (λ (t : List Site). IsFarthest s (IsOneOf t) (IsOneOf t) found) c.as_slice.ensures.value c.farthest.ensures in
    farthest_of s sites (IsEnd sides ss) (IsWithin sides ss) found v.of (λ p q h. v.enough s c.requires.spacing p q h) far
