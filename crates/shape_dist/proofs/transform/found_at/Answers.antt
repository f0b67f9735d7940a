use Rattle.std.proofs.Common.{◌≡◌, ◌<◌, ◌∙◌, ap, sym, subst, arith}
use Rattle.std.proofs.lemmas.Option.{get_or_from_slice_get}
use Rattle.shape_terms.specs.Points.{in_box, box_count, raster_point}
use Rattle.std.specs.Prelude.{IsTrue}
use Rattle.shape_terms.specs.Pictures.{Least}
use Rattle.shape_terms.specs.FramedBox.{framed_sides, framed_point}
use Rattle.shape_terms.specs.Places.{framed_number}
use Rattle.shape_terms.proofs.FramedNumbers.{framed_number_below}
use Rattle.shape_terms.proofs.FramedEnds.{in_box_in_frame}
use Rattle.shape_dist.specs.Keepings.{point_keeping}
use Rattle.shape_dist.specs.Spreads.{found, nothing, IsNearestOn}
use Rattle.shape_dist.proofs.AxisEnds.{point_of_all, cell_of}
use Rattle.shape_dist.proofs.transform.found_at.Goals as goal

pub unraster-requires : goal.unraster-requires
unraster-requires g c = subst (λ s. c.args.i < box_count s) (sym c.sides-sides.ensures.value) c.requires.inside

pub framed_number-requires : goal.framed_number-requires
framed_number-requires g c = in_box_in_frame _ (g.P.Point.coords c.unraster.result) c.unraster.ensures.inside

pub get-requires : goal.get-requires
get-requires g c =
    let X = c.args.grid.now in
    let p = g.P.Point.coords c.unraster.result in
    let inside : IsTrue (in_box X.sides p) = rw (← c.sides-sides.ensures.value) c.unraster.ensures.inside in
    let i : c.framed_number.result ≡ framed_number X.sides p = c.framed_number.ensures ∙ ap (λ s. framed_number s p) c.sides-sides.ensures.value in
    omega (arith, i, framed_number_below X.sides p (in_box_in_frame X.sides p inside), c.requires.long)

pub returns : goal.returns
returns g c =
    let X = c.args.grid.now in
    let p = g.P.Point.coords c.unraster.result in
    let f = c.get.result in
    let inside : IsTrue (in_box X.sides p) = rw (← c.sides-sides.ensures.value) c.unraster.ensures.inside in
    let is : p ≡ raster_point X.sides c.args.i = c.unraster.ensures.value ∙ ap (λ s. raster_point s c.args.i) c.sides-sides.ensures.value in
    let i : c.framed_number.result ≡ framed_number X.sides p = c.framed_number.ensures ∙ ap (λ s. framed_number s p) c.sides-sides.ensures.value in
    let here : found point_keeping c.args.cells.now.values c.framed_number.result ≡ f =
    get_or_from_slice_get c.args.cells.now.values c.framed_number.result f (nothing point_keeping) c.get.ensures in
    let near = cell_of point_keeping X p c.args.cells.now.values c.framed_number.result inside i c.requires.near in
    let least = point_of_all X p f inside (subst (IsNearestOn point_keeping X (box_count (framed_sides X.sides)) (framed_number X.sides p)) here near) in
    subst (λ p. Least X p (framed_point X.sides f.q) f.s) is least
