use Rattle.std.proofs.Common.{◌≡◌, ◌+◌, ◌/◌, subst, arith}
use Rattle.measuring.specs.Parts.{IsLess}
use Rattle.measuring.proofs.Parts.{less_at_most, less_rises}
use Rattle.measuring.proofs.matrix.Matrix.part.Goals as goal

pub loop-low-init : goal.loop-low-init
loop-low-init c = record {
  order = omega arith;
  most = omega arith;
  low = λ m l b. omega (arith, l);
  high = less_at_most c.args.part c.args.self.now c.requires;
}

pub loop-low-preserved-then-is_part_below : goal.loop-low-preserved-then-is_part_below
loop-low-preserved-then-is_part_below c =
    let order = c.loop-low.invariant.order in
    let most = c.loop-low.invariant.most in record {
      order = omega (arith, order, c.loop-low-test.true);
      most = omega (arith, order, most, c.loop-low-test.true);
      low = c.loop-low.invariant.low;
      high = c.is_part_below.ensures.0 c.if-is_part_below.true;
    }

pub loop-low-preserved : goal.loop-low-preserved
loop-low-preserved c =
    let middle = (c.loop-low.low + c.loop-low.high) / 2 in
    let order = c.loop-low.invariant.order in
    let most = c.loop-low.invariant.most in record {
      order = omega (arith, order, c.loop-low-test.true);
      most = omega (arith, most);
      low = λ m l b. (let t = c.is_part_below.ensures.1 (less_rises c.args.part c.args.self.now m middle (omega (arith, l)) b) in
          let f = c.if-is_part_below.false in cc);
      high = c.loop-low.invariant.high;
    }

pub returns-clause-rounded : goal.returns-clause-rounded
returns-clause-rounded c =
    let e : c.loop-low.high ≡ c.loop-low.low = omega (arith, c.loop-low.invariant.order, c.loop-low-test.false) in
    record {
      low = c.loop-low.invariant.low;
      high = subst (IsLess c.args.part c.args.self.now) e c.loop-low.invariant.high;
    }
