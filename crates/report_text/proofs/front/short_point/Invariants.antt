use Rattle.std.proofs.Common.{take}
use Rattle.report_text.proofs.Standing.{AreRead}
use Rattle.report_text.proofs.front.short_point.Given as goal

abbrev pub invariant-loop-axis : goal.invariant-loop-axis
invariant-loop-axis g l = AreRead l.bytes l.initial.end l.end l.axis (take l.axis (g.P.Point.coords l.value))
