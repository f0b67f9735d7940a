use Rattle.drawing.proofs.PlaceLaws.{has_place}
use Rattle.drawing.proofs.sheet_law.voxels_have_places.Goals as goal

pub returns : goal.returns
returns c = λ s v k box inside. has_place s v k inside
