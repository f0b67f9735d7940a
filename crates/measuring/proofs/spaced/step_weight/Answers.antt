use Rattle.std.proofs.Common.{◌*◌, ◌/◌, ◌^◌, ◌≤◌, ap, sym, ◌∙◌, subst, arith}
use Rattle.std.proofs.Math.Nat.{mul-le-mul}
use Rattle.measure_terms.specs.SpacedSurface as Terms
use Rattle.measuring.specs.Spaced.{spacing_told}
use Rattle.measuring.specs.Fan.{most_weight}
use Rattle.measuring.proofs.Gathered.{weight_is}
use Rattle.measuring.proofs.ShareBounds.{few_weights}
use Rattle.measuring.proofs.spaced.step_weight.Goals as goal

pub returns-clause-value : goal.returns-clause-value
returns-clause-value c =
    let s = spacing_told c.args.spacing in
    let k = c.args.class in
    c.quotient-2.ensures
    ∙ (λ i. c.quotient.ensures i / c.step_size.ensures.value i)
    ∙ (λ i. 40000 * c.voxel_volume.ensures.value i * c.requires.share i / c.requires.variants i / Terms.step_size s k)
    ∙ weight_is s k

pub returns-clause-small : goal.returns-clause-small
returns-clause-small c =
    let v = c.voxel_volume.result in
    let few : 40000 * v * c.args.share ≤ 40000 * 2 ^ 48 * 10 ^ 12 = mul-le-mul {n₁ = 40000 * v} {m₁ = c.args.share} {n₂ = 40000 * 2 ^ 48} {m₂ = 10 ^ 12}
    (let l = c.voxel_volume.ensures.small in omega (arith, l)) c.requires.small in
    subst (λ n. n ≤ most_weight) (sym (c.quotient-2.ensures ∙ ap (λ n. n / c.step_size.result) c.quotient.ensures))
    (few_weights (40000 * v * c.args.share) c.args.variants c.step_size.result (10 ^ 7) (40000 * 2 ^ 48 * 10 ^ 12) most_weight few c.step_size.ensures.long
    (omega arith))
