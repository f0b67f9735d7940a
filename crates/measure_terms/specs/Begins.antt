-- Where borders begin, and nothing of how long they are: at the first cracks of the contours of a picture.
-- No line stands here.
use Rattle.std.specs.Prelude.{◌≡◌, List, map}
use Rattle.shape_terms.specs.Pictures.{Picture}
use Rattle.shape_terms.specs.Traces.{Contour, AreContours}
use Rattle.measure_terms.specs.Borders.{Border}

-- the borders begin where the contours of the picture do, in their order
pub record BeginAsContours (X : Picture) (bs : List Border) : Type 0 where
  pub contours : List Contour
  pub are : AreContours X contours
  pub starts : map (λ (b : Border). b.start) bs ≡ map (λ (c : Contour). c.start) contours
