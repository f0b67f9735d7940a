use Rattle.std.proofs.Common.{◌≡◌, take}
use Rattle.draw_report.specs.Corners.{paths_of}
use Rattle.draw_report.specs.Seen.{all_paths}
use Rattle.draw_report.proofs.edges.paths_of.Given as goal

abbrev pub invariant-loop-k : goal.invariant-loop-k
invariant-loop-k l = all_paths l.paths.items ≡ paths_of (take l.k l.cycles)
