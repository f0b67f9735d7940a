use Rattle.std.proofs.Common.{◌≡◌, ◌++◌, take}
use Rattle.std.specs.List.{flat_map}
use Rattle.draw_report.specs.Circles.{circle_text}
use Rattle.draw_report.specs.Seen.{all_balls}
use Rattle.draw_report.proofs.balls.put_circles.Given as goal

abbrev pub invariant-loop-b : goal.invariant-loop-b
invariant-loop-b l = l.svg ≡ l.initial.svg ++ flat_map circle_text (all_balls (take l.b-index l.balls))
