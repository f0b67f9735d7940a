-- The object of a report: its points, and how deep each lies.
-- What lies outside the box of the heading is not drawn. Other bounds of the depths are a change of `depth` alone.
use Rattle.std.specs.Prelude.{ℕ, ◌*◌, ◌==◌, nat_le, List, [], ◌∷◌, map, filter, filter_map, count_by, Option, Some, None}
use Rattle.shape_terms.specs.Points.{Point, in_box}
use Rattle.report_terms.specs.Lines.{Line}

-- an object point with its depth
pub record Pixel : Type 0 where
  pub point : Point
  pub depth : ℕ

-- how many of the distances 2, 4, 8, 16 and 32 a point reaches, where its squared distance to the background is given
abbrev pub depth : ℕ → ℕ
depth square = count_by (λ r. nat_le (r * r) square) (2 ∷ 4 ∷ 8 ∷ 16 ∷ 32 ∷ [])

-- the pixel that a `near` line gives
abbrev pub pixel_of : Line → Option Pixel
pixel_of (Line.Near p q s) = Some (record { point = p; depth = depth s })
pixel_of _ = None

-- the pixels in the box, in the order of their lines
abbrev pub pixels : List ℕ → List Line → List Pixel
pixels sides lines = filter (λ x. in_box sides x.point) (filter_map pixel_of lines)

-- the points of a depth
abbrev pub points_at : ℕ → List Pixel → List Point
points_at d xs = map (λ (x : Pixel). x.point) (filter (λ x. x.depth == d) xs)
