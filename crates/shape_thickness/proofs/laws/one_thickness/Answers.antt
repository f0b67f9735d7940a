use Rattle.shape_thickness.proofs.ThicknessLaws.{one_thickness}
use Rattle.shape_thickness.proofs.laws.one_thickness.Goals as goal

pub returns : goal.returns
returns c = one_thickness
