use Rattle.shape_thickness.proofs.ThicknessLaws.{no_thinner}
use Rattle.shape_thickness.proofs.laws.no_thinner.Goals as goal

pub returns : goal.returns
returns c = no_thinner
