use Rattle.masking.proofs.PbmSpelled.{picture_spelled, volume_spelled}
use Rattle.masking.proofs.LevelLaws.{grey_levels, low_levels}
use Rattle.masking.proofs.SquareLaws.{are_told}
use Rattle.masking.proofs.law.masks_are_pictures.Goals as goal

pub returns-clause-pixels : goal.returns-clause-pixels
returns-clause-pixels c = picture_spelled

pub returns-clause-voxels : goal.returns-clause-voxels
returns-clause-voxels c = λ X stands. volume_spelled X stands.picture.filled

pub returns-clause-greys : goal.returns-clause-greys
returns-clause-greys c = grey_levels

pub returns-clause-depths : goal.returns-clause-depths
returns-clause-depths c = low_levels

pub returns-clause-squares : goal.returns-clause-squares
returns-clause-squares c = are_told
