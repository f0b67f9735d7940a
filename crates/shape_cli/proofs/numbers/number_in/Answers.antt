use Rattle.std.proofs.Common.{None, arith, subst}
use Rattle.std.proofs.lemmas.Int.{ints}
use Rattle.shape_cli.specs.Numbers.{IsNoNumber}
use Rattle.report_text.specs.Reading.{ReadsNumberWord}
use Rattle.shape_cli.proofs.NumberWords.{none_spelled, too_small, too_large}
use Rattle.shape_cli.proofs.numbers.number_in.Goals as goal

pub returns-in_err-n : goal.returns-in_err-n
returns-in_err-n c = rw c.from_residual.ensures
    (none_spelled c.args.least c.args.most c.args.word.now.items (omega arith)
    (subst (λ w. ReadsNumberWord w None) c.as_slice.ensures.value c.in_err-n.ensures))

pub returns-then-n-from : goal.returns-then-n-from
returns-then-n-from c =
    let h = c.in_ok-n.ensures in
    subst (IsNoNumber c.args.least c.args.most) c.as_slice.ensures.value
    (too_small c.args.least c.args.most c.as_slice.result.now c.in_ok-n.n (omega arith) h.0 h.1 (omega (arith, ints, c.if-n-from.true, c.from.ensures)))

pub returns-then-n-from-2 : goal.returns-then-n-from-2
returns-then-n-from-2 c =
    let h = c.in_ok-n.ensures in
    subst (IsNoNumber c.args.least c.args.most) c.as_slice.ensures.value
    (too_large c.args.least c.args.most c.as_slice.result.now c.in_ok-n.n (omega arith) h.0 h.1 (omega (arith, ints, c.if-n-from-2.true, c.from-2.ensures)))
