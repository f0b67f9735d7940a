use Rattle.masking.proofs.Shown.{masks_shown}
use Rattle.masking.proofs.law.masks_of_what_holds.Goals as goal

pub returns : goal.returns
returns c = masks_shown
