use Rattle.std.proofs.Common.{◌≡◌, ◌+◌, ◌/◌, subst, arith}
use Rattle.measuring.specs.Matrices.{IsBelow}
use Rattle.measuring.proofs.Lengths.{below_at_most, below_rises}
use Rattle.measuring.proofs.matrix.Matrix.axis.Goals as goal

pub loop-low-init : goal.loop-low-init
loop-low-init c = record {
  order = omega arith;
  most = omega arith;
  low = λ m l b. omega (arith, l);
  high = below_at_most c.args.axis c.args.self.now c.requires c.args.self.now.small;
}

pub loop-low-preserved-then-is_below : goal.loop-low-preserved-then-is_below
loop-low-preserved-then-is_below c =
    let order = c.loop-low.invariant.order in
    let most = c.loop-low.invariant.most in record {
      order = omega (arith, order, c.loop-low-test.true);
      most = omega (arith, order, most, c.loop-low-test.true);
      low = c.loop-low.invariant.low;
      high = c.is_below.ensures.0 c.if-is_below.true;
    }

pub loop-low-preserved : goal.loop-low-preserved
loop-low-preserved c =
    let middle = (c.loop-low.low + c.loop-low.high) / 2 in
    let order = c.loop-low.invariant.order in
    let most = c.loop-low.invariant.most in record {
      order = omega (arith, order, c.loop-low-test.true);
      most = omega (arith, most);
      low = λ m l b. (let t = c.is_below.ensures.1 (below_rises c.args.axis c.args.self.now m middle (omega (arith, l)) b) in let f = c.if-is_below.false in
          cc);
      high = c.loop-low.invariant.high;
    }

pub returns : goal.returns
returns c =
    let e : c.loop-low.high ≡ c.loop-low.low = omega (arith, c.loop-low.invariant.order, c.loop-low-test.false) in
    record {
      low = c.loop-low.invariant.low;
      high = subst (IsBelow c.args.axis c.args.self.now) e c.loop-low.invariant.high;
    }
