-- What the bytes of a mask show of the picture that a report holds of.
-- Geometry, and the formats in which the program itself reads pictures.
use Rattle.std.specs.Prelude.{◌≡◌, ◌++◌, ℕ, zero, suc, List, codes}
use Rattle.shape_terms.specs.Limits.{most_flat, most_bytes}
use Rattle.shape_terms.specs.Pictures.{Picture}
use Rattle.shape_terms.specs.Thinning.{Rule, Event, Stage, IsThinning}
use Rattle.shape_desk.specs.Desk.{DeskState, Puts}
use Rattle.shape_picture.specs.Answers.{Format, pbm, raw}
use Rattle.report_terms.specs.Subjects.{Subject, IsOnShelf}
use Rattle.report_terms.specs.Holds.{GivesRule}
use Rattle.masking.specs.Pictures.{side, header}
use Rattle.masking.specs.Levels.{high_number, low_number, AreDepths, AreSquaredDepths, AreDiameters}
use Rattle.masking.specs.declared.mask.Mask.{Mask}
use Rattle.masking.specs.declared.mask.Mask.TheVariants.{Skeleton, Object, Distances, Squares, Thickness}

-- the format in which the program reads pictures with so many axes and these sides: PBM, or a raw volume of the sides
abbrev pub picture_format : ℕ → List ℕ → Format
picture_format (suc (suc zero)) sides = pbm most_flat most_bytes
picture_format _ sides = raw sides

-- the bytes are a file that the program reads as just this picture
abbrev pub Spell : ℕ → Picture → List ℕ → Type 0
Spell d X bytes = (picture_format d X.sides).spells X bytes

-- the front of a raw PGM with sides like these and numbers of two bytes
abbrev pub grey_front : List ℕ → List ℕ
grey_front sides = header (codes "P5") (side sides 0) (side sides 1) ++ codes "65535\n"

-- the bytes are a raw PGM of the depths of a flat picture, or those of a volume alone
abbrev pub ShowDepths : ℕ → Picture → List ℕ → Type 0
ShowDepths (suc (suc zero)) X bytes = (rest : List ℕ) × (bytes ≡ grey_front X.sides ++ rest) × AreDepths high_number X rest
ShowDepths _ X bytes = AreDepths low_number X bytes

-- the bytes are a raw PGM of the thicknesses of a flat picture, or those of a volume alone
abbrev pub ShowDiameters : ℕ → Picture → List ℕ → Type 0
ShowDiameters (suc (suc zero)) X bytes = (rest : List ℕ) × (bytes ≡ grey_front X.sides ++ rest) × AreDiameters high_number X rest
ShowDiameters _ X bytes = AreDiameters low_number X bytes

-- the bytes spell what the thinning of the picture leaves, by the rule on the shelf that the text names
pub record ShowLeft (d : ℕ) (X : Subject) (text bytes : List ℕ) : Type 0 where
  pub name : List ℕ
  pub named : GivesRule text name
  pub rule : Rule
  pub on_shelf : IsOnShelf X.shelf name rule
  pub events : List Event
  pub stage : Stage
  pub thinning : IsThinning rule X.picture events stage
  pub spelled : Spell d stage.left bytes

-- the bytes show what the mask is of, of a picture with so many axes of which the text holds
abbrev pub Show : Mask → ℕ → Subject → (text bytes : List ℕ) → Type 0
Show Skeleton d X text bytes = ShowLeft d X text bytes
Show Object d X text bytes = Spell d X.picture bytes
Show Distances d X text bytes = ShowDepths d X.picture bytes
Show Squares d X text bytes = AreSquaredDepths X.picture bytes
Show Thickness d X text bytes = ShowDiameters d X.picture bytes

-- bytes were written that show it
pub record WritesShown (mask : Mask) (d : ℕ) (X : Subject) (text : List ℕ) (old new : DeskState) : Type 0 where
  pub bytes : List ℕ
  pub shown : Show mask d X text bytes
  pub puts : Puts old.written new.written bytes
