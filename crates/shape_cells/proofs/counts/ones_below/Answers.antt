use Rattle.std.proofs.Common.{◌≡◌, ◌-◌, ◌*◌, ◌^◌, ◌%◌, ◌≤◌, ap, ◌∙◌, arith, pow_mono}
use Rattle.std.specs.Prelude.{count_ones, bit_and}
use Rattle.std.proofs.lemmas.Nat.{and_mask}
use Rattle.shape_cells.proofs.counts.ones_below.Goals as goal

pub returns : goal.returns
returns c =
    let h : c.args.k ≤ 63 = omega arith in
    let m : 2 ^ c.args.k ≤ 2 ^ 63 = pow_mono h in
    let e : 1 * 2 ^ c.args.k % 2 ^ 64 ≡ 2 ^ c.args.k = omega arith in
    ap count_ones (ap (λ x. bit_and c.args.word (x - 1)) e ∙ and_mask c.args.word c.args.k)
