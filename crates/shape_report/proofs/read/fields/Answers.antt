use Rattle.std.proofs.Common.{arith}
use Rattle.std.proofs.lemmas.Grind.{common_steps}
use Rattle.report_terms.specs.Kinds.{Kind}
use Rattle.shape_report.proofs.Claims.{of_kind}
use Rattle.shape_report.proofs.read.fields.Goals as goal

pub returns-in-near : goal.returns-in-near
returns-in-near g c = of_kind g.P.Point.DIM g.P.Point.coords Kind.Near c.args.word.now c.args.words.now c.near.result (grind (arith, common_steps))
    c.near.ensures

pub returns-in-del : goal.returns-in-del
returns-in-del g c = of_kind g.P.Point.DIM g.P.Point.coords Kind.Del c.args.word.now c.args.words.now c.del.result (grind (arith, common_steps)) c.del.ensures

pub returns-in-at : goal.returns-in-at
returns-in-at g c = of_kind g.P.Point.DIM g.P.Point.coords Kind.At c.args.word.now c.args.words.now c.at.result (grind (arith, common_steps)) c.at.ensures

pub returns-in-turn : goal.returns-in-turn
returns-in-turn g c = of_kind g.P.Point.DIM g.P.Point.coords Kind.Turn c.args.word.now c.args.words.now c.turn.result (grind (arith, common_steps))
    c.turn.ensures

pub returns-in-seg : goal.returns-in-seg
returns-in-seg g c = of_kind g.P.Point.DIM g.P.Point.coords Kind.Seg c.args.word.now c.args.words.now c.seg.result (grind (arith, common_steps)) c.seg.ensures

pub returns-in-least : goal.returns-in-least
returns-in-least g c = of_kind g.P.Point.DIM g.P.Point.coords Kind.Least c.args.word.now c.args.words.now c.least.result (grind (arith, common_steps))
    c.least.ensures

pub returns-in-cut : goal.returns-in-cut
returns-in-cut g c = of_kind g.P.Point.DIM g.P.Point.coords Kind.Cut c.args.word.now c.args.words.now c.cut.result (grind (arith, common_steps)) c.cut.ensures

pub returns-in-on : goal.returns-in-on
returns-in-on g c = of_kind g.P.Point.DIM g.P.Point.coords Kind.On c.args.word.now c.args.words.now c.on.result (grind (arith, common_steps)) c.on.ensures

pub returns-in-off : goal.returns-in-off
returns-in-off g c = of_kind g.P.Point.DIM g.P.Point.coords Kind.Off c.args.word.now c.args.words.now c.off.result (grind (arith, common_steps)) c.off.ensures

pub returns-in-patch : goal.returns-in-patch
returns-in-patch g c = of_kind g.P.Point.DIM g.P.Point.coords Kind.Patch c.args.word.now c.args.words.now c.patch.result (grind (arith, common_steps))
    c.patch.ensures
