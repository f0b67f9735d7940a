use Rattle.measuring.proofs.TextSteps.{three}
use Rattle.measuring.proofs.text.put_size.Goals as goal

pub returns : goal.returns
returns g c = λ sides. three _ _ _ _ _ _ _ c.in_ok-whole.ensures (c.in_ok-put_box.ensures sides) (c.in_ok-put_centre.ensures sides)
