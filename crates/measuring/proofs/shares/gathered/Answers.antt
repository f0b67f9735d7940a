use Rattle.std.proofs.Common.{◌≡◌, ◌+◌, sym, ap, ◌∙◌, arith}
use Rattle.measure_terms.specs.Shares as Terms
use Rattle.measuring.specs.Spaced.{spacing_told}
use Rattle.measuring.proofs.Gathered.{none_gathered, gathered_more}
use Rattle.measuring.proofs.shares.gathered.Goals as goal

pub loop-i-init : goal.loop-i-init
loop-i-init c = record { value = sym (none_gathered (spacing_told c.args.spacing) c.args.class); small = omega arith }

pub loop-i-preserved : goal.loop-i-preserved
loop-i-preserved c =
    let s = spacing_told c.args.spacing in
    let given = c.given-sum.ensures.small in
    let few = c.loop-i.invariant.small in
    record {
      value = (λ j. c.loop-i.invariant.value j + c.given-sum.ensures.value j) ∙ sym (gathered_more s c.args.class c.loop-i.i);
      small = omega (arith, given, few);
    }

pub returns-clause-value : goal.returns-clause-value
returns-clause-value c =
    let s = spacing_told c.args.spacing in
    let last : c.loop-i.i ≡ Terms.fan_size = omega (arith, c.loop-i-test.false, c.loop-i.auto.i-end) in
    c.loop-i.invariant.value ∙ ap (λ n. Terms.gathered s n c.args.class) last
