-- The program's weights as the terms of refutations.
-- Lists of shares are seen as lists of these terms; a further kind of step is one more clause.
use Rattle.shape_terms.specs.Refutations.{Share as Weighed, Step as Shift, StepShare as WeighedStep}
use Rattle.shape_refute.specs.declared.share.Share.{Share}
use Rattle.shape_refute.specs.declared.share.Step.{Step}
use Rattle.shape_refute.specs.declared.share.StepShare.{StepShare}
use Rattle.shape_refute.specs.declared.share.Step.TheVariants.{Up, Plus, Minus}

abbrev pub share_of : Share → Weighed
share_of s = record { weight = s.weight; place = s.place }

abbrev pub shift_of : Step → Shift
shift_of Up = Shift.Up
shift_of (Plus u) = Shift.Plus u
shift_of (Minus u) = Shift.Minus u

abbrev pub step_share_of : StepShare → WeighedStep
step_share_of s = record { weight = s.weight; step = shift_of s.step }
