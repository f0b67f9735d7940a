-- Each voxel of the box has its place on the sheet, in each part.
-- Laws of numbers alone.
use Rattle.std.proofs.Common.{◌<◌, ◌+◌, ℕ, [], ◌∷◌, refl, pos, true, arith}
use Rattle.std.specs.Prelude.{IsTrue, nat_lt, ◌&&◌}
use Rattle.std.proofs.lemmas.Bool.{lt-ltb, and_from}
use Rattle.shape_terms.specs.Points.{in_box}
use Rattle.drawing.specs.declared.layout.Triple.{Triple}
use Rattle.drawing.specs.declared.layout.Panel.{Panel}
use Rattle.drawing.specs.declared.layout.Panel.TheVariants.{Left, Right, Top, Bottom, Front, Back, AlongX, AlongY, AlongZ}
use Rattle.drawing.specs.Layout.{IsIn, left, top, across, down, place, sheet_width, sheet_height, sheet_sides}

in_sheet : (w h a b : ℕ) → a < w → b < h → IsTrue (in_box (w ∷ h ∷ []) (pos a ∷ pos b ∷ []))
in_sheet w h a b l m = and_from (nat_lt a w) (nat_lt b h && true) (lt-ltb a w l) (and_from (nat_lt b h) true (lt-ltb b h m) refl)

pub in_width : (s v : Triple) (k : Panel) → IsIn s v → left s k + across s k v < sheet_width s
in_width s v Left h = omega (arith, h.in_z)
in_width s v Right h = omega (arith, h.in_z)
in_width s v Top h = omega (arith, h.in_x)
in_width s v Bottom h = omega (arith, h.in_x)
in_width s v Front h = omega (arith, h.in_x)
in_width s v Back h = omega (arith, h.in_x)
in_width s v AlongX h = omega (arith, h.in_z)
in_width s v AlongY h = omega (arith, h.in_x)
in_width s v AlongZ h = omega (arith, h.in_x)

pub in_height : (s v : Triple) (k : Panel) → IsIn s v → top s k + down s k v < sheet_height s
in_height s v Left h = omega (arith, h.in_y)
in_height s v Right h = omega (arith, h.in_y)
in_height s v Top h = omega (arith, h.in_z)
in_height s v Bottom h = omega (arith, h.in_z)
in_height s v Front h = omega (arith, h.in_y)
in_height s v Back h = omega (arith, h.in_y)
in_height s v AlongX h = omega (arith, h.in_y)
in_height s v AlongY h = omega (arith, h.in_z)
in_height s v AlongZ h = omega (arith, h.in_y)

pub has_place : (s v : Triple) (k : Panel) → IsIn s v → IsTrue (in_box (sheet_sides s) (place s k v))
has_place s v k h = in_sheet (sheet_width s) (sheet_height s) (left s k + across s k v) (top s k + down s k v) (in_width s v k h) (in_height s v k h)
