use Rattle.std.proofs.Common.{◌≡◌, true, false, refl, sym, ◌∙◌, arith}
use Rattle.std.specs.Prelude.{pos}
use Rattle.shape_space.specs.declared.point.P2.{P2}
use Rattle.shape_refute.specs.Terms.{naive_of}
use Rattle.shape_refute.specs.Terms.{flat_point}
use Rattle.shape_refute.proofs.HeldRuns.{held_all, not_held}
use Rattle.shape_refute.proofs.segment.holds_all.Goals as goal

pub returns-then-not-holds : goal.returns-then-not-holds
returns-then-not-holds c =
    let line = c.args.line.now in (
      λ f. cc,
      λ all.
          let t = c.holds.ensures.1 (not_held flat_point c.args.run.now _ line.axis (naive_of 2 line) c.loop-i.i (omega (arith, c.loop-i.auto.i-end)) all) in
          let g : true ≡ false = sym t ∙ c.if-not-holds.true in
          cc,
    )

pub returns : goal.returns
returns c =
    let line = c.args.line.now in
    let d : P2 = record { y = pos 0; x = pos 0 } in (
      λ t. held_all flat_point c.args.run.now d line.axis (naive_of 2 line)
          (λ j l. c.loop-i.invariant j d (omega (arith, c.loop-i.auto.i-end, c.loop-i-test.false))),
      λ all. refl,
    )
