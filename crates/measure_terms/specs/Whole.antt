-- The whole object of a picture as one set of points: its numbers, its tunnels, and the text that tells them.
-- What the numbers of a set are stands in `Minkowski`.
use Rattle.std.specs.Prelude.{◌≡◌, ℕ, ◌+◌, ◌-◌, ◌==◌, List, ◌++◌, codes, ℤ, pos, ◌-ℤ◌, if◌then◌else◌}
use Rattle.std.specs.Fmt.{decimal}
use Rattle.shape_terms.specs.Pictures.{Picture}
use Rattle.shape_terms.specs.Parts.{Object, Counts}
use Rattle.measure_terms.specs.Minkowski.{Minkowski, IsMinkowski}
use Rattle.measure_terms.specs.Surface.{surface}
use Rattle.measure_terms.specs.Texts.{whole, signed, thousandths}

-- the numbers of the whole object
abbrev pub IsWhole : Picture → Minkowski → Type 0
IsWhole X m = IsMinkowski (Object X) m

-- the tunnels of an object of space with so many components, so many pores and this Euler number, by the formula of Euler and Poincare:
-- the Euler number is pieces - tunnels + pores
abbrev pub tunnels : (pieces pores : ℕ) (euler : ℤ) → ℤ
tunnels pieces pores euler = pos (pieces + pores) -ℤ euler

-- ---- the text: a header and a line, of so many object points, components of the object and components of the background in the framed box

-- of a flat picture; each component of the background but the one outside is a hole
abbrev pub flat_whole : (points pieces background : ℕ) → Minkowski → List ℕ
flat_whole points pieces background m =
    codes "pixels,pieces,holes,euler\n" ++ (decimal points ++ (whole pieces ++ (whole (background - 1) ++ (signed m.euler ++ codes "\n"))))

-- the numbers of a volume behind its points; each component of the background but the one outside is a pore
abbrev pub solid_numbers : (pieces background : ℕ) → Minkowski → List ℕ
solid_numbers pieces background m =
    whole pieces ++ (whole (background - 1) ++ (signed (tunnels pieces (background - 1) m.euler) ++ (signed m.euler ++ thousandths (surface m))))

-- of a volume
abbrev pub solid_whole : (points pieces background : ℕ) → Minkowski → List ℕ
solid_whole points pieces background m = codes "voxels,pieces,pores,tunnels,euler,surface\n"
    ++ (decimal points ++ (solid_numbers pieces background m ++ codes "\n"))

abbrev pub whole_text : (d points pieces background : ℕ) → Minkowski → List ℕ
whole_text d points pieces background m = if d == 2 then flat_whole points pieces background m else solid_whole points pieces background m

-- the text of a picture of d axes
pub record IsWholeText (d : ℕ) (X : Picture) (text : List ℕ) : Type 0 where
  pub points : ℕ
  pub pieces : ℕ
  pub background : ℕ
  pub counts : Counts X points pieces background
  pub numbers : Minkowski
  pub of_whole : IsWhole X numbers
  pub spelled : text ≡ whole_text d points pieces background numbers
