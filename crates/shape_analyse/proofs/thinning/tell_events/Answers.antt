use Rattle.std.proofs.Common.{◌≡◌, length, arith, subst}
use Rattle.report_text.specs.Telling.{Tells}
use Rattle.shape_thin.specs.Runs.{event_of}
use Rattle.shape_analyse.specs.Growing.{IsTextOf, HasEvents, event_line}
use Rattle.shape_analyse.proofs.Growth.{tells_line}
use Rattle.shape_analyse.proofs.ThinningGrowth.{events_more}
use Rattle.shape_analyse.proofs.thinning.tell_events.Goals as goal

pub loop-i-preserved : goal.loop-i-preserved
loop-i-preserved g c = λ X stage begun t start.
    let e = event_of g.P.Point.coords c.event.result in
    let told = c.tell_event.ensures in
    tells_line (event_line e) told.told
    (λ lines so. events_more g.P.Point.DIM X c.args.thinning.now.events stage c.loop-i.i lines e so t c.event.ensures.there told.fields)
    (c.loop-i.invariant X stage begun t start)

pub returns : goal.returns
returns g c =
    let events = c.args.thinning.now.events in
    let all : c.loop-i.i ≡ length events = omega (arith, c.loop-i-test.false, c.loop-i.auto.i-end, c.len-i-end.ensures) in
    λ X stage begun t start. subst (λ k. Tells (IsTextOf (HasEvents g.P.Point.DIM X events k)) begun c.loop-i.page (g.D.Desk.state c.loop-i.desk)) all
    (c.loop-i.invariant X stage begun t start)
