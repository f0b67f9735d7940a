use Rattle.std.proofs.Common.{arith}
use Rattle.std.proofs.lemmas.Fmt.{length-decimal-le}
use Rattle.itoa.proofs.Decimal.{length_four}
use Rattle.shape_desk.proofs.digits.digit_count.Goals as goal

pub overflow_add-count : goal.overflow_add-count
overflow_add-count c =
    omega (
      arith,
      length_four c.loop-left.left c.loop-left-test.true c.loop-left.auto.left-fits.fits,
      length-decimal-le 20 c.args.n (omega arith) (omega arith)
          (omega arith),
      c.loop-left.invariant,
    )

pub loop-left-preserved : goal.loop-left-preserved
loop-left-preserved c = omega (arith, length_four c.loop-left.left c.loop-left-test.true c.loop-left.auto.left-fits.fits, c.loop-left.invariant)

pub overflow_add-result : goal.overflow_add-result
overflow_add-result c = omega (arith, length-decimal-le 20 c.args.n (omega arith) (omega arith) (omega arith), c.loop-left.invariant, c.short_count.ensures)
