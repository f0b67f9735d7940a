-- What the columns behind those of the measures tell of the objects of a picture, besides their borders.
-- A further kind is one more field of each record; which of them a table spells, and how, stands in `FurtherColumns`.
use Rattle.std.specs.Prelude.{◌≡◌, ℕ, List, IsTrue, map}
use Rattle.shape_terms.specs.Pictures.{Picture}
use Rattle.measure_terms.specs.Feret.{Feret, AreFerets}
use Rattle.measure_terms.specs.Spacing.{spaced_distance}
use Rattle.measuring.specs.Spaced.{told_or_unit}
use Rattle.measure_terms.specs.Minkowski.{Minkowski, AreMinkowski, MinkowskiComponents}
use Rattle.measure_terms.specs.HullSizes.{HullSize, AreHulls, HullsComponents}
use Rattle.measure_terms.specs.Moments.{Moments, AreMoments, MomentsComponents}
use Rattle.measure_terms.specs.Ellipse.{Ellipse}
use Rattle.measure_terms.specs.Thickness.{AreThicknesses}
use Rattle.measure_terms.specs.ThicknessColumns.{ThicknessSum, AreThicknessSums, ThicknessSumsComponents}
use Rattle.measure_terms.specs.Components.{FeretsComponents}
use Rattle.shape_thickness.specs.Greatest.{greatest_squares}
use Rattle.masking.specs.Pictures.{told_square}
use Rattle.measure_report.specs.MomentColumns.{AreEllipses}
use Rattle.measure_report.specs.declared.groups.Groups.{Groups}

-- of each kind a list, with an entry for each object
pub record Further : Type 0 where
  pub ferets : List Feret
  pub minkowski : List Minkowski
  pub hulls : List HullSize
  pub moments : List Moments
  pub ellipses : List Ellipse
  pub thicknesses : List ThicknessSum

-- ---- by labels

-- the sums of the objects 1 to n, where the balls are those that the squares tell; a square of 2 ^ 32 and more counts as one of 2 ^ 32 - 1
abbrev pub AreThick : (object : Picture) (squares labels : List ℕ) (n : ℕ) → List ThicknessSum → Type 0
AreThick object squares labels n ss = AreThicknessSums object.sides labels n (greatest_squares object (map told_square squares)) ss

-- those of the objects 1 to n of a picture with d axes, each the points with its label, as far as a table with these groups spells them
pub record AreFurther (g : Groups) (d : ℕ) (object : Picture) (squares labels : List ℕ) (n : ℕ) (f : Further) : Type 0 where
  pub ferets : AreFerets (spaced_distance (told_or_unit g.spacing)) object.sides labels n f.ferets
  pub minkowski : AreMinkowski object.sides labels n f.minkowski
  pub hulls : d ≡ 2 → AreHulls object.sides labels n f.hulls
  pub moments : IsTrue g.moments → AreMoments object.sides labels n f.moments
  pub ellipses : IsTrue g.moments → d ≡ 2 → AreEllipses n f.moments f.ellipses
  pub thicknesses : IsTrue g.thickness → AreThick object squares labels n f.thicknesses

-- ---- by components

-- the sums of the first n components, by the local thickness of their points
pub record ThickComponents (X : Picture) (labels : List ℕ) (n : ℕ) (ss : List ThicknessSum) : Type 0 where
  pub local : List ℕ
  pub are : AreThicknesses X local
  pub sums : ThicknessSumsComponents X labels n local ss

-- those of the first n components of a picture with d axes, by their labels
pub record FurtherComponents (g : Groups) (d : ℕ) (X : Picture) (labels : List ℕ) (n : ℕ) (f : Further) : Type 0 where
  pub ferets : FeretsComponents (spaced_distance (told_or_unit g.spacing)) X labels n f.ferets
  pub minkowski : MinkowskiComponents X labels n f.minkowski
  pub hulls : d ≡ 2 → HullsComponents X labels n f.hulls
  pub moments : IsTrue g.moments → MomentsComponents X labels n f.moments
  pub ellipses : IsTrue g.moments → d ≡ 2 → AreEllipses n f.moments f.ellipses
  pub thicknesses : IsTrue g.thickness → ThickComponents X labels n f.thicknesses
