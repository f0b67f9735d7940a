-- What the columns that the program keeps tell: those of the definitions.
-- A further kind is one more line of each.
use Rattle.std.specs.Prelude.{[], map}
use Rattle.measuring.specs.FeretsTold.{ferets_told}
use Rattle.measuring.specs.Sizes.{hulls_told}
use Rattle.measuring.specs.MinkowskiTold as Octants
use Rattle.measuring.specs.MomentsTold as Moments
use Rattle.measure_report.specs.RatioColumns as Ratios
use Rattle.measure_report.specs.Further.{Further}
use Rattle.measure_report.specs.declared.ratios.Sizes.{Sizes}
use Rattle.measure_report.specs.declared.further.FlatColumns.{FlatColumns}
use Rattle.measure_report.specs.declared.further.SolidColumns.{SolidColumns}

-- what the ratios of an object go by
abbrev pub sizes_told : Sizes → Ratios.Sizes
sizes_told s = record { area = s.area; double_area = s.double_area; border = s.border }

-- those of flat objects
abbrev pub flat_told : FlatColumns → Further
flat_told c = record {
  ferets = ferets_told 2 c.ferets.ferets.items;
  minkowski = Octants.all_told c.numbers.numbers.items;
  hulls = hulls_told c.hulls.hulls.items;
  moments = Moments.all_told c.moments.moments.items;
  ellipses = map Moments.ellipse_told c.moments.ellipses.items;
  thicknesses = c.thickness.sums.items;
}

-- those of objects of space
abbrev pub solid_told : SolidColumns → Further
solid_told c = record {
  ferets = ferets_told 3 c.ferets.ferets.items;
  minkowski = Octants.all_told c.numbers.numbers.items;
  hulls = [];
  moments = Moments.all_told c.moments.moments.items;
  ellipses = [];
  thicknesses = c.thickness.sums.items;
}
