use Rattle.shape_thickness.proofs.ThicknessLaws.{greatest_are_thicknesses}
use Rattle.shape_thickness.proofs.GreatestSquares.{greatest_squares_are}
use Rattle.shape_thickness.proofs.laws.greatest_are_thicknesses.Goals as goal

pub returns-clause-thicknesses : goal.returns-clause-thicknesses
returns-clause-thicknesses c = greatest_are_thicknesses

pub returns-clause-squares : goal.returns-clause-squares
returns-clause-squares c = greatest_squares_are
