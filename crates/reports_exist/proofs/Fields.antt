-- The fields of lines about a flat picture are in range: its sides, and the pixels of its cracks.
-- Which lines have them, the kinds of reports say.
use Rattle.std.proofs.Common.{◌≡◌, ℕ, zero, suc, ◌<◌, ◌≤◌, List, [], ◌∷◌, length, map, refl, sym, subst, arith}
use Rattle.std.specs.Prelude.{ℤ, pos, negsuc, ◌≤ℤ◌, nat_abs, IsTrue, FitsSigned, All}
use Rattle.std.specs.Int.{w32}
use Rattle.std.proofs.lemmas.Int.{ints}
use Rattle.shape_terms.specs.Limits.{most_flat}
use Rattle.shape_terms.specs.Points.{Point, in_box, AreSides}
use Rattle.shape_terms.specs.Pictures.{Picture}
use Rattle.shape_terms.specs.Contours.{Crack, IsCrack}
use Rattle.shape_terms.proofs.Boxes.{in_box_first, in_box_length}
use Rattle.shape_terms.proofs.Numbered.{object_in_box}
use Rattle.text_terms.specs.Forms.{AreSoMany}

-- ---- the sides of a flat picture

pub record AreFlatSides (greatest : ℕ) (sides : List ℕ) : Type 0 where
  pub width : ℕ
  pub height : ℕ
  pub are : width ∷ height ∷ [] ≡ sides
  pub width_some : 1 ≤ width
  pub width_low : width ≤ greatest
  pub height_some : 1 ≤ height
  pub height_low : height ≤ greatest

pub flat_sides : (greatest : ℕ) (sides : List ℕ) → length sides ≡ 2 → AreSides (pos greatest) (map pos sides) → AreFlatSides greatest sides
flat_sides greatest [] e a = absurd (omega arith)
flat_sides greatest (w ∷ []) e a = absurd (omega arith)
flat_sides greatest (w ∷ h ∷ []) e a =
    let x = a 0 (omega arith) in
    let y = a 1 (omega arith) in
    let xl : pos 1 ≤ℤ pos w = x.0 in
    let xh : pos w ≤ℤ pos greatest = x.1 in
    let yl : pos 1 ≤ℤ pos h = y.0 in
    let yh : pos h ≤ℤ pos greatest = y.1 in
    record {
      width = w;
      height = h;
      are = refl;
      width_some = omega (arith, ints);
      width_low = omega (arith, ints);
      height_some = omega (arith, ints);
      height_low = omega (arith, ints);
    }
flat_sides greatest (w ∷ h ∷ d ∷ sides) e a = absurd (omega arith)

-- ---- points of 32 bits

fits : (z : ℤ) → nat_abs z < 2147483648 → FitsSigned w32 z
fits (pos n) h = record { sfits = omega arith }
fits (negsuc n) h = record { sfits = omega arith }

two_fit : (x y : ℤ) → nat_abs x < 2147483648 → nat_abs y < 2147483648 → AreSoMany 2 (FitsSigned w32) (x ∷ y ∷ [])
two_fit x y h k = record { axes = refl; fits = each }
  where
    each : All (FitsSigned w32) (x ∷ y ∷ [])
    each zero d l = fits x h
    each (suc zero) d l = fits y k
    each (suc (suc i)) d l = absurd (omega arith)

pub sides_fit : (greatest : ℕ) (sides : List ℕ) → greatest ≤ most_flat → AreFlatSides greatest sides → AreSoMany 2 (FitsSigned w32) (map pos sides)
sides_fit greatest sides low f =
    let w = f.width_low in
    let h = f.height_low in
    subst (λ (l : List ℕ). AreSoMany 2 (FitsSigned w32) (map pos l)) f.are (two_fit (pos f.width) (pos f.height) (omega arith) (omega arith))

point_fits : (w h : ℕ) → w ≤ most_flat → h ≤ most_flat → (p : Point) → IsTrue (in_box (w ∷ h ∷ []) p) → AreSoMany 2 (FitsSigned w32) p
point_fits w h wl hl [] i = absurd (let e = in_box_length (w ∷ h ∷ []) [] i in omega arith)
point_fits w h wl hl (x ∷ []) i = absurd (let e = in_box_length (w ∷ h ∷ []) (x ∷ []) i in omega arith)
point_fits w h wl hl (x ∷ y ∷ []) i =
    let a = in_box_first w (h ∷ []) x (y ∷ []) i in
    let b = in_box_first h [] y [] a.2 in
    let u = a.1 in
    let v = b.1 in
    two_fit x y (omega arith) (omega arith)
point_fits w h wl hl (x ∷ y ∷ z ∷ p) i = absurd (let e = in_box_length (w ∷ h ∷ []) (x ∷ y ∷ z ∷ p) i in omega arith)

pub pixel_fits : (X : Picture) (greatest : ℕ) → greatest ≤ most_flat → AreFlatSides greatest X.sides → (c : Crack) → IsCrack X c
    → AreSoMany 2 (FitsSigned w32) c.pixel
pixel_fits X greatest low f c k =
    let w = f.width_low in
    let h = f.height_low in
    point_fits f.width f.height (omega arith) (omega arith) c.pixel
    (subst (λ (l : List ℕ). IsTrue (in_box l c.pixel)) (sym f.are) (object_in_box X c.pixel k.pixel))
