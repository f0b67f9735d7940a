-- The sums of an object with one point more.
-- A further sum is one more field here.
use Rattle.std.specs.Prelude.{ℕ, ◌+◌, max}
use Rattle.measure_terms.specs.ThicknessColumns.{ThicknessSum, diameter, squared_diameter}

-- the sums with a point more, of which the squared radius is given
abbrev pub sum_with : ThicknessSum → ℕ → ThicknessSum
sum_with s t = record {
  count = s.count + 1;
  diameters = s.diameters + diameter t;
  squares = s.squares + squared_diameter t;
  greatest = max s.greatest t;
}
