-- The borders of a report that holds begin where the contours of the picture do.
-- Of their lengths nothing is used.
use Rattle.std.specs.Prelude.{ℕ, List}
use Rattle.shape_terms.specs.Pictures.{Picture}
use Rattle.measure_terms.specs.Borders.{Border}
use Rattle.measure_terms.specs.Shown.{BordersShow}
use Rattle.measure_terms.specs.Begins.{BeginAsContours}

pub borders_begin : (number : ℕ) (X : Picture) (bs : List Border) → BordersShow number X bs → BeginAsContours X bs
borders_begin number X bs s = s.begin
