use Rattle.std.proofs.Common.{◌≤◌, subst}
use Rattle.measuring.specs.Spaced.{spacing_told}
use Rattle.measuring.specs.Farthest.{IsPairOf}
use Rattle.measuring.proofs.Pairs.{new_better, best_better}
use Rattle.measuring.proofs.farthest.better.Goals as goal

pub returns-then-comes_before : goal.returns-then-comes_before
returns-then-comes_before c =
    let s = spacing_told c.args.spacing in
    let new = c.pair-new.result in
    let is = subst (λ n. IsPairOf c.args.p c.args.q n new) c.requires.square c.pair-new.ensures in
    new_better s c.args.p c.args.q c.args.best new (subst (λ n. c.args.best.square ≤ n) c.requires.square c.requires.most) is
    (c.comes_before.ensures.yes c.if-comes_before.true)

pub returns-else-comes_before : goal.returns-else-comes_before
returns-else-comes_before c =
    let s = spacing_told c.args.spacing in
    let new = c.pair-new.result in
    let is = subst (λ n. IsPairOf c.args.p c.args.q n new) c.requires.square c.pair-new.ensures in
    best_better s c.args.p c.args.q c.args.best new is (c.comes_before.ensures.no c.if-comes_before.false)
