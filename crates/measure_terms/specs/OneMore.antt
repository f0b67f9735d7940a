-- The measures of an object with one point more, whose fact comes last.
-- A further measure is one more field here.
use Rattle.std.specs.Prelude.{ℕ, ◌+◌, ◌&&◌, nat_eq, nat_le, min, max, Bool, Option, Some, cond, nat_abs, ◌||◌}
use Rattle.std.specs.Option.{is_some}
use Rattle.shape_terms.specs.Points.{Point, coordinate}
use Rattle.measure_terms.specs.Facts.{Fact}
use Rattle.measure_terms.specs.Measures.{Span, Measures, is_left, is_end, is_junction}

-- the span of so many points, with one more point at x
abbrev pub span_with : (count : ℕ) → Span → (x : ℕ) → Span
span_with count s x = record {
  least = cond (nat_eq count 0) x (min s.least x);
  greatest = max s.greatest x;
  sum = s.sum + x;
}

-- the first deepest point, with one more point p
abbrev pub deepest_with : (old : Option Point) (depth square : ℕ) (p : Point) → Option Point
deepest_with old depth square p = cond (is_some old && nat_le square depth) old (Some p)

-- one more, where it counts
abbrev pub counted : Bool → ℕ → ℕ
counted b n = n + cond b 1 0

abbrev pub measures_with : Measures → Fact → Measures
measures_with m f = record {
  area = m.area + 1;
  x = span_with m.area m.x (nat_abs (coordinate f.point 0));
  y = span_with m.area m.y (nat_abs (coordinate f.point 1));
  z = span_with m.area m.z (nat_abs (coordinate f.point 2));
  depth = max m.depth f.square;
  deepest = deepest_with m.deepest m.depth f.square f.point;
  skeleton = counted (is_left f) m.skeleton;
  ends = counted (is_end f.left) m.ends;
  junctions = counted (is_junction f.left) m.junctions;
  exposed = m.exposed + f.exposed;
  touches = m.touches || f.rim;
}
