use Rattle.std.proofs.Common.{◌≡◌, ◌++◌, take}
use Rattle.std.specs.List.{flat_map}
use Rattle.draw_report.specs.Circles.{dot_text}
use Rattle.draw_report.specs.Seen.{all_balls}
use Rattle.draw_report.proofs.balls.put_centres.Given as goal

abbrev pub invariant-loop-b : goal.invariant-loop-b
invariant-loop-b l = l.svg ≡ l.initial.svg ++ flat_map dot_text (all_balls (take l.b-index l.balls))
