use Rattle.std.proofs.Common.{◌≡◌, ◌-◌, ◌<◌, ℕ, List, Option, false}
use Rattle.shape_terms.specs.Points.{box_count}
use Rattle.shape_desk.specs.declared.desk.Place.TheVariants.{Picture}
use Rattle.shape_desk.specs.Desk.{OnlyReadsAt}
use Rattle.shape_terms.specs.Limits.{most_flat, most_bytes}
use Rattle.shape_picture.specs.Raster.{PictureSoFar}
use Rattle.shape_picture.specs.Parts.{FrontTaken}
use Rattle.shape_picture.proofs.pbm.read_raster.Given as goal

abbrev pub invariant-loop-at : goal.invariant-loop-at
invariant-loop-at g l =
    ((all : Option (List ℕ)) → FrontTaken (PictureSoFar most_flat l.fn.grid false 0) most_bytes l.fn.from all ((g.D.Desk.state l.initial.desk).left Picture)
    l.initial.bytes
    → FrontTaken (PictureSoFar most_flat l.grid l.comment l.count) most_bytes l.at all ((g.D.Desk.state l.desk).left Picture) l.bytes)
    × (l.grid.sides ≡ l.fn.grid.sides)
    × (l.total ≡ box_count l.fn.grid.sides)
    × (l.count < l.total)
    × OnlyReadsAt Picture (g.D.Desk.state l.initial.desk) (g.D.Desk.state l.desk)

abbrev pub decreases-loop-at : goal.decreases-loop-at
decreases-loop-at g l = most_bytes - l.at
