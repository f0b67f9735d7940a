-- The numbers that a mask of squares tells: each is its square, or 4294967295 where that is greater, and stands at its place.
-- The squares of a report that holds are all less, since two points of a framed box are never so far apart.
use Rattle.std.proofs.Common.{◌≡◌, ◌⊎◌, inl, inr, ℕ, zero, suc, ◌+◌, ◌*◌, ◌<◌, ◌≤◌, ◌^◌, List, [], ◌∷◌, ◌++◌, length, get_or, map, refl, sym, ap, subst, ◌∙◌}
use Rattle.std.proofs.Common.{arith, ℤ, pos}
use Rattle.std.specs.Prelude.{◌≤ℤ◌, slice_get, Some, IsTrue}
use Rattle.std.proofs.lemmas.Int.{ints}
use Rattle.std.proofs.lemmas.List.{length-map}
use Rattle.std.proofs.lemmas.Nat.{from_le_bytes-to_le_bytes_4}
use Rattle.std.proofs.lemmas.Option.{slice_get-get_or}
use Rattle.shape_terms.specs.Limits.{most_flat, most_solid, far}
use Rattle.shape_terms.specs.Points.{Point, AreSides, box_count, in_box, raster_point, squared_distance}
use Rattle.shape_terms.specs.Pictures.{Picture}
use Rattle.shape_terms.specs.Thinning.{HasDistance}
use Rattle.shape_terms.specs.AxisLines.{apart}
use Rattle.shape_terms.specs.FramedBox.{framed_point}
use Rattle.shape_terms.specs.Places.{framed_number}
use Rattle.shape_terms.proofs.AxisCounts.{apart_small}
use Rattle.shape_terms.proofs.Boxes.{raster_point_in}
use Rattle.shape_terms.proofs.FramedEnds.{in_box_in_frame}
use Rattle.shape_terms.proofs.FramedNumbers.{framed_point-framed_number}
use Rattle.shape_terms.proofs.NearestFound.{corner_background}
use Rattle.shape_grid.proofs.SideLists.{naturals_kept}
use Rattle.report_lines.specs.Reports.{Space}
use Rattle.report_lines.specs.Tells.{StandsIn, AreSquares}
use Rattle.report_lines.specs.Made.{IsSpace}
use Rattle.masking.specs.Pictures.{told_square, low_first32, square_bytes}
use Rattle.masking.specs.Levels.{IsTold, AreTold, AreSquaredDepths, number32_at}

-- ---- numbers

number_back : (n : ℕ) → n < 2 ^ 32 → number32_at (low_first32 n) 0 ≡ n
number_back n l = omega (arith, from_le_bytes-to_le_bytes_4 n l)

is_told : (n : ℕ) → IsTold n (told_square n)
is_told n = record { exact = λ l. omega arith; great = λ l. omega arith }

-- ---- bytes

bytes_of : List ℕ → List ℕ
bytes_of squares = square_bytes squares

one_more : (s : ℕ) (squares : List ℕ) → bytes_of (s ∷ squares) ≡ low_first32 (told_square s) ++ bytes_of squares
unfolding bytes_of
one_more s squares = refl

as_many : (squares : List ℕ) → length (bytes_of squares) ≡ 4 * length squares
unfolding bytes_of
as_many [] = refl
as_many (s ∷ squares) = omega (arith, ap length (one_more s squares), as_many squares)

number_is : (squares : List ℕ) (i n : ℕ) → slice_get squares i ≡ Some n → number32_at (bytes_of squares) i ≡ told_square n
number_is [] i n e = absurd (let f = e in cc)
number_is (s ∷ squares) zero n e =
    let same : s ≡ n = cc in
    ap (λ l. number32_at l 0) (one_more s squares) ∙ number_back (told_square s) (omega arith) ∙ ap told_square same
number_is (s ∷ squares) (suc i) n e =
    let first : 4 * suc i ≡ suc (suc (suc (suc (4 * i)))) = omega arith in
    let second : 4 * suc i + 1 ≡ suc (suc (suc (suc (4 * i + 1)))) = omega arith in
    let third : 4 * suc i + 2 ≡ suc (suc (suc (suc (4 * i + 2)))) = omega arith in
    let fourth : 4 * suc i + 3 ≡ suc (suc (suc (suc (4 * i + 3)))) = omega arith in
    ap (λ l. number32_at l (suc i)) (one_more s squares) ∙ rw (second, third, fourth, first) (number_is squares i n e)

pub are_told : (squares : List ℕ) → AreTold squares (square_bytes squares)
unfolding bytes_of
are_told squares = record { as_many = as_many squares; each = λ i n e. subst (IsTold n) (sym (number_is squares i n e)) (is_told n) }

-- ---- pictures

module _ (s : Space) (known : IsSpace s) (X : Picture) (stands : StandsIn s X) where
  some : 0 < length X.sides
  some = elim known [
    | inl e ↦ omega (arith, stands.picture.axes ∙ ap (λ u. u.axes) e)
    | inr e ↦ omega (arith, stands.picture.axes ∙ ap (λ u. u.axes) e)
  ]

  no_farther : (i : ℕ) → apart X.sides i 0 < far
  no_farther i = elim known [
    | inl e ↦ by_space (pos most_flat) (subst (λ u. AreSides u.greatest (map pos X.sides)) e stands.box) (omega (arith, ints))
        (inl (stands.picture.axes ∙ ap (λ u. u.axes) e))
    | inr e ↦ by_space (pos most_solid) (subst (λ u. AreSides u.greatest (map pos X.sides)) e stands.box) (omega (arith, ints))
        (inr (stands.picture.axes ∙ ap (λ u. u.axes) e))
  ]
    where
      by_space : (greatest : ℤ) → AreSides greatest (map pos X.sides) → greatest ≤ℤ pos most_flat → (length X.sides ≡ 2) ⊎ (length X.sides ≡ 3)
          → apart X.sides i 0 < far
      by_space greatest box most few = apart_small X.sides (map pos X.sides) greatest i 0 (sym (naturals_kept X.sides)) box most (simp length-map few)

  -- no squared distance of a point of the box is too great for 32 bits
  pub few : (p : Point) (n : ℕ) → IsTrue (in_box X.sides p) → HasDistance X p n → n < 2 ^ 32
  few p n inside has =
      let h : n ≤ squared_distance p (framed_point X.sides 0) = has.1.least (framed_point X.sides 0) (corner_background X some) in
      let e : apart X.sides (framed_number X.sides p) 0 ≡ squared_distance p (framed_point X.sides 0) = ap (λ q. squared_distance q (framed_point X.sides 0))
      (framed_point-framed_number X.sides p (in_box_in_frame X.sides p inside)) in
      omega (arith, h, e, no_farther (framed_number X.sides p))

  pub squares_shown : (squares : List ℕ) → AreSquares X squares → AreSquaredDepths X (square_bytes squares)
  squares_shown squares are = record {
    as_many = told.as_many ∙ ap (λ n. 4 * n) are.all;
    object = λ i l t.
        let n = get_or squares i 0 in
        let has = are.object i n (square_at i l) t in
        subst (HasDistance X (raster_point X.sides i))
        (sym ((told.each i n (square_at i l)).exact (few (raster_point X.sides i) n (raster_point_in X.sides i l) has))) has;
    background = λ i l f.
        let n = get_or squares i 0 in
        let none : n ≡ 0 = are.background i n (square_at i l) f in
        (told.each i n (square_at i l)).exact (omega arith) ∙ none;
  }
    where
      told : AreTold squares (square_bytes squares)
      told = are_told squares

      square_at : (i : ℕ) → i < box_count X.sides → slice_get squares i ≡ Some (get_or squares i 0)
      square_at i l = slice_get-get_or squares i 0 (omega (arith, l, are.all))
