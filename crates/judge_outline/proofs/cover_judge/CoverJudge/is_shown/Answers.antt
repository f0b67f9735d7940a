use Rattle.std.proofs.Common.{subst, sym, arith, take}
use Rattle.shape_terms.specs.Points.{coordinate}
use Rattle.shape_terms.specs.Naive.{IsNaiveFor}
use Rattle.shape_refute.specs.Terms.{naive_of}
use Rattle.judge_outline.proofs.cover_judge.CoverJudge.is_shown.Goals as goal

pub arc-requires-clause-begun : goal.arc-requires-clause-begun
arc-requires-clause-begun c = c.requires.begun

pub arc-requires-clause-order : goal.arc-requires-clause-order
arc-requires-clause-order c = c.requires.rises

pub arc-requires-clause-within : goal.arc-requires-clause-within
arc-requires-clause-within c = let a = c.requires.around in omega (arith, a.begins, a.short)

pub is_least-requires-clause-axis : goal.is_least-requires-clause-axis
is_least-requires-clause-axis c = c.requires.axis

pub is_least-requires-clause-naive : goal.is_least-requires-clause-naive
is_least-requires-clause-naive c =
    let line = c.args.segment.now.line in
    subst (λ r. IsNaiveFor line.axis r (naive_of 2 line)) (sym c.arc.ensures.value) c.requires.held

pub returns : goal.returns
returns c =
    let line = c.args.segment.now.line in
    let q = coordinate (take 2 line.a) line.axis in
    rw (← c.arc.ensures.value) c.is_least.ensures
