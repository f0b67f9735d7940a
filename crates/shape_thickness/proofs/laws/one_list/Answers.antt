use Rattle.shape_thickness.proofs.ThicknessLaws.{one_list}
use Rattle.shape_thickness.proofs.laws.one_list.Goals as goal

pub returns : goal.returns
returns c = one_list
