use Rattle.std.proofs.Common.{refl, subst}
use Rattle.shape_terms.specs.Points.{raster_number}
use Rattle.shape_terms.specs.Pictures.{Picture}
use Rattle.shape_terms.specs.Parts.{HasParts}
use Rattle.shape_terms.specs.Places.{ObjectPlace, NearPlaces, BackgroundPlace, SidePlaces, framed_number}
use Rattle.shape_terms.proofs.ObjectPlaces.{object_parts}
use Rattle.shape_terms.proofs.BackgroundPlaces.{background_parts}
use Rattle.shape_adj.proofs.picture.parts.Goals as goal

pub returns : goal.returns
returns g c =
    let X = c.args.grid.now in
    let o = subst (λ (X : Picture). HasParts (NearPlaces X) (ObjectPlace X) c.in_ok-object.object) c.of-inside.ensures c.in_ok-object.ensures in
    let b = subst (λ (X : Picture). HasParts (SidePlaces X) (BackgroundPlace X) c.in_ok-background.background) c.of-outside.ensures
    c.in_ok-background.ensures in
    record {
      points = refl;
      object = ((λ p. o.0 (raster_number X.sides p)), object_parts X c.in_ok-object.object o.0 o.1);
      background = ((λ p. b.0 (framed_number X.sides p)), background_parts X c.in_ok-background.background b.0 b.1);
    }
