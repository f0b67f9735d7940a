use Rattle.std.proofs.Common.{refl, map, arith}
use Rattle.std.proofs.lemmas.List.{length-map}
use Rattle.shape_refute.specs.Terms.{flat_point}
use Rattle.shape_refute.proofs.HeldRuns.{sense_kept}
use Rattle.shape_refute.proofs.segment.keeps_sense.Goals as goal

pub returns : goal.returns
returns c =
    let run = map flat_point c.args.run.now in (
      λ t. sense_kept c.args.axis run
          (λ j l. c.loop-j.invariant j (omega (arith, l, length-map c.args.run.now flat_point, c.loop-j.auto.j-end, c.loop-j-test.false))),
      λ k. refl,
    )
