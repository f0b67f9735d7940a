use Rattle.measuring.specs.Corners.{corners}
use Rattle.measuring.specs.Narrower.{width_told}
use Rattle.measuring.proofs.Narrowing.{first_side, next_side}
use Rattle.measuring.proofs.width.least_width.Goals as goal

pub loop-i-init : goal.loop-i-init
loop-i-init c = record {
  least = first_side (corners c.args.round.now) (width_told c.width_of-least.result) c.width_of-least.ensures.is c.width_of-least.ensures.side;
  across = c.width_of-least.ensures.across;
  length = c.width_of-least.ensures.length;
}

pub loop-i-preserved : goal.loop-i-preserved
loop-i-preserved c = record {
  least = next_side (corners c.args.round.now) c.loop-i.i (width_told c.loop-i.least) (width_told c.width_of.result) (width_told c.narrower-least.result)
      c.requires.lengths c.loop-i.invariant.least
      c.width_of.ensures.is c.width_of.ensures.side c.narrower-least.ensures.narrower;
  across = c.narrower-least.ensures.across;
  length = c.narrower-least.ensures.length;
}
