use Rattle.shape_terms.specs.Thinning.{Stage, IsThinning}
use Rattle.shape_desk.specs.Desk.{DeskState}
use Rattle.report_text.specs.Telling.{Tells}
use Rattle.shape_analyse.specs.Growing.{Aim, IsTextOf, HasEvents}
use Rattle.shape_analyse.proofs.thinning.tell_events.Given as goal

abbrev pub invariant-loop-i : goal.invariant-loop-i
invariant-loop-i g l = (X : Aim) (stage : Stage) (begun : DeskState) → IsThinning X.rule X.subject.picture l.thinning.events stage
    → Tells (IsTextOf (HasEvents g.P.Point.DIM X l.thinning.events 0)) begun l.fn.page (g.D.Desk.state l.fn.desk)
    → Tells (IsTextOf (HasEvents g.P.Point.DIM X l.thinning.events l.i)) begun l.page (g.D.Desk.state l.desk)
