use Rattle.std.proofs.Common.{◌≡◌, ◌<◌, subst, ap, List, length, arith}
use Rattle.std.specs.Prelude.{slice_get, Some}
use Rattle.std.proofs.lemmas.List.{length-map}
use Rattle.shape_plane.specs.Trials.{Refusal, refusal_of}
use Rattle.shape_plane.proofs.Unmarks.{got_mapped}
use Rattle.shape_plane.proofs.refusals.Refusals.get.Goals as goal

pub returns : goal.returns
returns g c =
    let few : c.args.i < length c.self.inside.items.items =
    (let v = ap (λ (l : List Refusal). length l) c.self.view_is in let r = c.requires in let m = length-map {B = Refusal} c.self.inside.items.items
    (refusal_of g.P.Point.coords) in omega (arith, v, r, m)) in
    subst (λ (l : List Refusal). slice_get l c.args.i ≡ Some (refusal_of g.P.Point.coords c.index.result.now)) c.self.view_is
    (got_mapped (refusal_of g.P.Point.coords) c.self.inside.items.items c.args.i c.index.result.now c.index.ensures few)
