-- The thicknesses that a mask tells: at each object point the level of the squared diameter of the greatest ball of the object that holds it.
-- Pictures and lists alone; how levels are put into bytes stands in `LevelLaws`.
use Rattle.std.proofs.Common.{◌≡◌, inl, inr, ℕ, ◌+◌, ◌*◌, ◌<◌, ◌≤◌, ◌^◌, Bool, true, false, min, List, length, get_or, map, refl, sym, ap, subst, ◌∙◌, arith}
use Rattle.std.specs.Prelude.{slice_get, Some}
use Rattle.std.proofs.lemmas.Bool.{cases_lt, cases_Bool}
use Rattle.std.proofs.lemmas.Nat.{mul-le}
use Rattle.std.proofs.lemmas.List.{ext_get_or, length-map, get_or-map}
use Rattle.std.proofs.lemmas.Option.{slice_get-get_or}
use Rattle.shape_terms.specs.Points.{Point, box_count, raster_number, raster_point}
use Rattle.shape_terms.specs.Pictures.{Picture, at}
use Rattle.shape_terms.specs.Thinning.{HasDistance}
use Rattle.shape_terms.specs.Distances.{AreDistances}
use Rattle.shape_terms.proofs.Boxes.{raster_below, raster_number-raster_point, raster_point-raster_number, raster_point_in}
use Rattle.shape_terms.proofs.ObjectPlaces.{object_in_box}
use Rattle.measure_terms.specs.Thickness.{IsThickness, AreThicknesses}
use Rattle.shape_thickness.specs.Greatest.{greatest_squares}
use Rattle.shape_thickness.proofs.GreatestSquares.{are_greatest}
use Rattle.shape_thickness.proofs.ThicknessLaws.{greatest_are_thicknesses}
use Rattle.report_lines.specs.Reports.{Space}
use Rattle.report_lines.specs.Tells.{StandsIn, AreSquares}
use Rattle.report_lines.specs.Made.{IsSpace}
use Rattle.masking.specs.Roots.{IsRoot}
use Rattle.masking.specs.Pictures.{told_square, told_diameter, squared_diameters}
use Rattle.masking.specs.Levels.{IsLevel, AreLevels, AreDiameters, number_at}
use Rattle.masking.specs.Masks.{distances_mask}
use Rattle.masking.specs.Shown.{ShowDiameters}
use Rattle.masking.proofs.LevelLaws.{low_levels, grey_levels, no_level}
use Rattle.masking.proofs.SquareLaws.{few}

-- ---- numbers

-- the level of a square is that of the number of 32 bits that stands for it
level_told : (s v : ℕ) → IsLevel (told_square s) v → IsLevel s v
level_told s v h = elim (cases_lt s 4294967296) [
  | inl l ↦ (let e : told_square s ≡ s = omega arith in subst (λ n. IsLevel n v) e h)
  | inr m ↦ (
      let e : told_square s ≡ 4294967295 = omega arith in
      let k : IsLevel 4294967295 v = subst (λ n. IsLevel n v) e h in
      record {
        most = h.most;
        less = λ l. (
            let high = (k.less l).high in
            let q : (v + 1) * (v + 1) ≤ 65535 * 65535 = mul-le (v + 1) (v + 1) 65535 65535 (omega arith) (omega arith) in
            absurd (omega (arith, high, q)));
        great = λ _. omega (arith, m);
      })
]

-- numbers that are few stand for themselves
pub told_same : (squares : List ℕ) → ((i : ℕ) → i < length squares → get_or squares i 0 < 2 ^ 32) → map told_square squares ≡ squares
told_same squares small = ext_get_or 0 (map told_square squares) squares (length-map squares told_square) (λ i l.
    let m : i < length squares = omega (arith, l, length-map squares told_square) in
    let e = get_or-map told_square squares i 0 0 m in
    let s = small i m in
    omega (arith, e, s))

-- ---- pictures

module _ (s : Space) (known : IsSpace s) (X : Picture) (stands : StandsIn s X) (squares : List ℕ) (are : AreSquares X squares) where
  square_at : (i : ℕ) → i < box_count X.sides → slice_get squares i ≡ Some (get_or squares i 0)
  square_at i l = slice_get-get_or squares i 0 (omega (arith, l, are.all))

  pub small : (i : ℕ) → i < length squares → get_or squares i 0 < 2 ^ 32
  small i m =
      let l : i < box_count X.sides = omega (arith, m, are.all) in
      let p = raster_point X.sides i in
      elim (cases_Bool (at X p)) [
        | inl t ↦ few s known X stands p (get_or squares i 0) (raster_point_in X.sides i l) (are.object i (get_or squares i 0) (square_at i l) t)
        | inr f ↦ (let z = are.background i (get_or squares i 0) (square_at i l) f in omega (arith, z))
      ]

  distances : AreDistances X squares
  distances = record {
    filled = are.all;
    least = λ q o.
        let inside = object_in_box X q o in
        let i = raster_number X.sides q in
        let l = raster_below X.sides q inside in
        let back : raster_point X.sides i ≡ q = raster_point-raster_number X.sides q inside in
        subst (λ (p : Point). HasDistance X p (get_or squares i 0)) back (are.object i (get_or squares i 0) (square_at i l) (ap (at X) back ∙ o));
  }

  unfoldable pub thicknesses : List ℕ
  thicknesses = greatest_squares X squares

  diameters_are : squared_diameters X squares ≡ map told_diameter thicknesses
  unfolding squared_diameters thicknesses
  diameters_are = ap (λ ns. map told_diameter (greatest_squares X ns)) (told_same squares small)

  pub thick : AreThicknesses X thicknesses
  unfolding thicknesses
  thick = greatest_are_thicknesses X squares (greatest_squares X squares) distances (are_greatest X squares)

  many : length (squared_diameters X squares) ≡ box_count X.sides
  many = ap length diameters_are ∙ length-map thicknesses told_diameter ∙ thick.filled

  diameter_at : (i : ℕ) → i < box_count X.sides → slice_get (squared_diameters X squares) i ≡ Some (told_diameter (get_or thicknesses i 0))
  diameter_at i l =
      let e = ap (λ ns. get_or ns i 0) diameters_are ∙ get_or-map told_diameter thicknesses i 0 0 (let m = thick.filled in omega (arith, l, m)) in
      slice_get-get_or (squared_diameters X squares) i 0 (omega (arith, l, many)) ∙ ap (λ n. Some n) e

  diameters_of : (number : ℕ → ℕ → ℕ) (bytes : List ℕ) → AreLevels number (squared_diameters X squares) bytes → AreDiameters number X bytes
  diameters_of number bytes levels = record {
    as_many = levels.as_many ∙ ap (λ n. 2 * n) many;
    object = λ i l t.
        let n = get_or thicknesses i 0 in
        let p = raster_point X.sides i in
        let is = subst (λ k. IsThickness X p (get_or thicknesses k 0)) (raster_number-raster_point X.sides i l) (thick.object p t) in
        (n, is, level_told (4 * n) (number_at number bytes i) (levels.each i (told_diameter n) (diameter_at i l)));
    background = λ i l f.
        let none : told_diameter (get_or thicknesses i 0) ≡ 0 = (let z = thick.background i l f in omega (arith, z)) in
        no_level (number_at number bytes i)
        (subst (λ k. IsLevel k (number_at number bytes i)) none (levels.each i (told_diameter (get_or thicknesses i 0)) (diameter_at i l)));
  }

  pub diameters_shown : ShowDiameters s.axes X (distances_mask s.axes X.sides (squared_diameters X squares))
  diameters_shown = elim known [
    | inl e ↦ (
        let g = grey_levels X.sides (squared_diameters X squares) in
        subst (λ (u : Space). ShowDiameters u.axes X (distances_mask u.axes X.sides (squared_diameters X squares))) (sym e) (g.0, g.1, diameters_of _ g.0 g.2))
    | inr e ↦
        subst (λ (u : Space). ShowDiameters u.axes X (distances_mask u.axes X.sides (squared_diameters X squares))) (sym e)
        (diameters_of _ _ (low_levels (squared_diameters X squares)))
  ]
