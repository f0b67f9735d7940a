use Rattle.std.proofs.Common.{refl}
use Rattle.report_terms.specs.Lines.{Line, line_text}
use Rattle.report_text.proofs.Telling.{tells_more, tells_as}
use Rattle.shape_analyse.proofs.Growth.{text_as}
use Rattle.shape_analyse.proofs.ThinningGrowth.{events_none, kept_done}
use Rattle.shape_analyse.proofs.thinning.tell_thinning.Goals as goal

pub returns : goal.returns
returns g c = λ X stage begun t left counts h.
    let events = c.args.thinning.now.events in
    let none = tells_as (λ text s. text_as (events_none g.P.Point.DIM X events) s) h in
    let all = c.tell_events.ensures X stage begun t none in
    let kept = c.tell_kept.ensures X stage begun t left counts all in
    tells_more (line_text Line.End) c.line.ensures (λ text k. kept_done X k.lines text _ k.is refl k.so) kept
