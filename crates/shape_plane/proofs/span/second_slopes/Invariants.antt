use Rattle.shape_plane.specs.Spans.{IsTight}
use Rattle.shape_plane.proofs.span.second_slopes.Given as goal

abbrev pub invariant-loop-j : goal.invariant-loop-j
invariant-loop-j l = IsTight l.rows l.f l.j l.best
