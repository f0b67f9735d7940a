-- The coordinates of a site in a table are those of the point that it tells.
-- Lists of bytes alone.
use Rattle.std.proofs.Common.{◌≡◌, Bool, true, false, refl}
use Rattle.measuring.specs.declared.site.Site.{Site}
use Rattle.measuring.specs.FeretsTold.{point_of}
use Rattle.measure_report.specs.FeretColumns.{axes, coordinate_cells, point_cells}

pub told_cells : (solid : Bool) (p : Site) → coordinate_cells solid p.x p.y p.z ≡ point_cells solid (point_of (axes solid) p)
told_cells true p = refl
told_cells false p = refl
