use Rattle.shape_grid.proofs.TruthSteps.{none_true}
use Rattle.shape_grid.proofs.bits.Bits.new.Goals as goal

pub returns : goal.returns
returns c = none_true c.in_ok-words.words.items c.args.len c.in_ok-words.ensures.empty
