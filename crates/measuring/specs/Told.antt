-- What the program's spans, facts and measures tell: those of the definitions.
-- A further field is one more line here.
use Rattle.std.specs.Prelude.{◌≡◌, ℕ, List, [], map, slice_index}
use Rattle.std.specs.Option.{option_map}
use Rattle.shape_terms.specs.Points.{Point, raster_point}
use Rattle.shape_terms.specs.Pictures.{Picture}
use Rattle.measure_terms.specs.Facts as Facts
use Rattle.measure_terms.specs.Tables.{rows}
use Rattle.measure_terms.specs.Measures as Terms
use Rattle.measuring.specs.declared.span.Span.{Span}
use Rattle.measuring.specs.declared.fact.Fact.{Fact}
use Rattle.measuring.specs.declared.row.Measures.{Measures}

abbrev pub span_told : Span → Terms.Span
span_told s = record { least = s.least; greatest = s.greatest; sum = s.sum }

abbrev pub fact_told : {P : Type 0} → (P → Point) → Fact P → Facts.Fact
fact_told coords f = record { part = f.part; point = coords f.point; square = f.square; left = f.left; exposed = f.exposed; rim = f.rim }

-- the fact is that of the point with number i, where labels and squares give it this part and this square
abbrev pub TellsFact : {P : Type 0} (coords : P → Point) (object left : Picture) (part square i : ℕ) → Fact P → Type 0
TellsFact coords object left part square i f = (squares labels : List ℕ) → part ≡ slice_index labels i → square ≡ slice_index squares i
    → fact_told coords f ≡ Facts.fact_at object squares left labels i

-- of an object in a box with these sides
abbrev pub measures_told : (sides : List ℕ) → Measures → Terms.Measures
measures_told sides m = record {
  area = m.area;
  x = span_told m.x;
  y = span_told m.y;
  z = span_told m.z;
  depth = m.depth;
  deepest = option_map (raster_point sides) m.deepest;
  skeleton = m.skeleton;
  ends = m.ends;
  junctions = m.junctions;
  exposed = m.exposed;
  touches = m.touches;
}

-- so many rows of no point
abbrev pub AreEmptyRows : ℕ → List Measures → Type 0
AreEmptyRows count all = (sides : List ℕ) → map (measures_told sides) all ≡ rows count []
