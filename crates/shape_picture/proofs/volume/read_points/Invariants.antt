use Rattle.std.proofs.Common.{◌-◌, ◌≤◌}
use Rattle.shape_desk.specs.declared.desk.Place.TheVariants.{Picture}
use Rattle.shape_desk.specs.Desk.{OnlyReadsAt}
use Rattle.shape_picture.specs.Parts.{VolumeSoFar}
use Rattle.shape_picture.proofs.volume.read_points.Given as goal

abbrev pub invariant-loop-i : goal.invariant-loop-i
invariant-loop-i g l =
    VolumeSoFar l.fn.grid.sides l.i l.grid ((g.D.Desk.state l.initial.desk).left Picture) ((g.D.Desk.state l.desk).left Picture) l.bytes
    × (l.i ≤ l.total)
    × OnlyReadsAt Picture (g.D.Desk.state l.initial.desk) (g.D.Desk.state l.desk)

abbrev pub decreases-loop-i : goal.decreases-loop-i
decreases-loop-i g l = l.total - l.i
