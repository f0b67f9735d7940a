use Rattle.std.proofs.Common.{◌*◌, ◌^◌, ◌<◌, sym, ap, ◌∙◌, arith}
use Rattle.measure_terms.specs.Quotients.{root_quotient}
use Rattle.measure_terms.proofs.QuotientFound.{quotient_is, quotient_from_whole, none_over_zero}
use Rattle.bordering.proofs.quotient.quotient.Goals as goal

pub returns-then-norm-eq0 : goal.returns-then-norm-eq0
returns-then-norm-eq0 c = sym (ap (λ n. root_quotient (c.args.weight * 10 ^ 12) n) c.if-norm-eq0.true ∙ none_over_zero _)

pub returns : goal.returns
returns c =
    let some : 0 < c.args.norm = omega arith in
    quotient_is _ _ _ (quotient_from_whole (c.args.weight * 10 ^ 12) c.args.norm c.isqrt.result some c.isqrt.ensures.square_le c.isqrt.ensures.next_square_gt)
