use Rattle.std.proofs.Common.{◌≡◌, ◌*◌, pos, nat_abs, ap, ◌∙◌, arith}
use Rattle.std.proofs.lemmas.Int.{ints}
use Rattle.measure_terms.specs.Rounding.{root}
use Rattle.measure_terms.proofs.RootFound.{root_by_one}
use Rattle.measuring.proofs.border.side_length.Goals as goal

pub returns-clause-value : goal.returns-clause-value
returns-clause-value c =
    let v = c.unsigned_abs.ensures.value in
    let m : c.unsigned_abs.result ≡ nat_abs c.short_length.result = omega (arith, ints, v) in
    let r = root_by_one (1000000 * c.unsigned_abs.result) c.quotient_root.result c.quotient_root.ensures.nearest in
    ap pos (r ∙ ap (λ n. root (1000000 * n)) m ∙ ap (λ z. root (1000000 * nat_abs z)) c.short_length.ensures.value)
