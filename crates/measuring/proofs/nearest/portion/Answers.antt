use Rattle.std.proofs.Common.{◌≡◌, ◌-◌, ◌+◌, ◌/◌, false, sym, ap, ◌∙◌, arith}
use Rattle.std.specs.Prelude.{nat_lt, nat_eq, count_by, cond}
use Rattle.std.specs.List.{range_with_len, list_any}
use Rattle.measure_terms.specs.Shares.{crosswise}
use Rattle.measuring.specs.Spaced.{spacing_told}
use Rattle.measuring.specs.Fan.{direction_told}
use Rattle.measuring.proofs.Ranges.{none_more, count_more}
use Rattle.measuring.proofs.Portions.{nearer, as_near, lt_true, lt_false, beaten, unbeaten, small_tie}
use Rattle.measuring.proofs.nearest.portion.Goals as goal

pub returns-then-mine-its-clause-value : goal.returns-then-mine-its-clause-value
returns-then-mine-its-clause-value c =
    let s = spacing_told c.args.spacing in
    let u = direction_told c.args.u in
    let b = c.loop-other_class.other_class in
    let mine = c.crosswise-mine.ensures ∙ (λ i. crosswise u (c.spaced_step-own.ensures i) (c.spaced_step-other.ensures i)) in
    let its = c.crosswise-its.ensures ∙ (λ i. crosswise u (c.spaced_step-other.ensures i) (c.spaced_step-own.ensures i)) in
    sym (beaten s c.args.class b u (omega arith) (omega (arith, c.loop-other_class-test.true))
    ((λ i. nat_lt (sym mine i) (sym its i)) ∙ lt_true c.crosswise-mine.result c.crosswise-its.result c.if-mine-its.true))

pub loop-other_class-preserved : goal.loop-other_class-preserved
loop-other_class-preserved c =
    let s = spacing_told c.args.spacing in
    let u = direction_told c.args.u in
    let b = c.loop-other_class.other_class in
    let n = b - 1 in
    let mine = c.crosswise-mine.ensures ∙ (λ i. crosswise u (c.spaced_step-own.ensures i) (c.spaced_step-other.ensures i)) in
    let its = c.crosswise-its.ensures ∙ (λ i. crosswise u (c.spaced_step-other.ensures i) (c.spaced_step-own.ensures i)) in
    let last : 1 + n ≡ b = omega arith in
    let next : b + 1 - 1 ≡ n + 1 = omega arith in
    let not_nearer : nearer s c.args.class u b ≡ false =
    (λ i. nat_lt (sym mine i) (sym its i)) ∙ lt_false c.crosswise-mine.result c.crosswise-its.result (omega (arith, c.if-mine-its.false)) in
    let tie : c.tie-as_near.result ≡ cond (as_near s c.args.class u b) 1 0 = c.tie-as_near.ensures ∙ (λ i. cond (nat_eq (mine i) (its i)) 1 0) in
    let small = small_tie (as_near s c.args.class u b) in
    let few = c.loop-other_class.invariant.few in
    record {
      none = ap (λ m. list_any (nearer s c.args.class u) (range_with_len 1 m)) next
          ∙ none_more (nearer s c.args.class u) 1 n b last c.loop-other_class.invariant.none not_nearer;
      count = (λ i. c.loop-other_class.invariant.count i + tie i) ∙ sym (count_more (as_near s c.args.class u) 1 n b last)
          ∙ ap (λ m. count_by (as_near s c.args.class u) (range_with_len 1 m)) (sym next);
      few = omega (arith, few, small, tie);
    }

pub returns-clause-value : goal.returns-clause-value
returns-clause-value c =
    let s = spacing_told c.args.spacing in
    let u = direction_told c.args.u in
    let seven : c.loop-other_class.other_class - 1 ≡ 7 = omega (arith, c.loop-other_class-test.false, c.loop-other_class.auto.other_class-end) in
    c.quotient.ensures ∙ ap (λ n. 420 / n) (c.loop-other_class.invariant.count ∙ ap (λ m. count_by (as_near s c.args.class u) (range_with_len 1 m)) seven)
    ∙ sym (unbeaten s c.args.class u (ap (λ m. list_any (nearer s c.args.class u) (range_with_len 1 m)) (sym seven) ∙ c.loop-other_class.invariant.none))
