-- The raw PBM of a picture spells it, and so do the bytes of a volume.
-- Laws of bytes and pictures; no report stands here.
use Rattle.std.proofs.Common.{◌≡◌, ℕ, ◌+◌, ◌-◌, ◌*◌, ◌/◌, ◌^◌, ◌<◌, ◌≤◌, Bool, true, false, pos, List, [], ◌∷◌, ◌++◌, length, get_or, map, All, refl, sym, ap}
use Rattle.std.proofs.Common.{subst, ◌∙◌, arith, length-append, append_assoc}
use Rattle.std.specs.Prelude.{fold}
use Rattle.std.specs.List.{concat, flat_map, range_with_len, AllByRecursion}
use Rattle.std.specs.Int.{div_ceil}
use Rattle.std.specs.Fmt.{decimal}
use Rattle.std.proofs.lemmas.List.{append-nil, map-append, length-map, take_all}
use Rattle.std.proofs.lemmas.List.Folds.{flat_map-map}
use Rattle.std.proofs.lemmas.List.FromFn.{length-map-range_with_len, get_or-map-range_with_len}
use Rattle.std.proofs.lemmas.List.Elements.{All-from_recursion}
use Rattle.std.proofs.lemmas.Option.{slice_get-get_or}
use Rattle.std.proofs.lemmas.Nat.{mul-le}
use Rattle.std.proofs.lemmas.Int.{ints}
use Rattle.std.proofs.lemmas.Fmt.{decimal_is_IsNumeral, digits_decimal, digits_value-decimal, length-decimal-le}
use Rattle.std.proofs.lemmas.Str.Parse.{IsNumeralModel, IsDigitsTest, numerals_by_fold}
use Rattle.shape_terms.specs.Limits.{most_flat, most_bytes}
use Rattle.shape_terms.specs.Points.{AreSides, box_points, box_count}
use Rattle.shape_terms.specs.Pictures.{Picture, at}
use Rattle.shape_terms.proofs.BoxLists.{values_are}
use Rattle.shape_picture.specs.Pbm.{Pbm, IsDigit, IsSide, IsGap, IsGapPiece, IsOneWhite, IsInWidth, IsInHeight, IsInRaster, AreRows, number_value, magic}
use Rattle.shape_picture.specs.Pbm.{row_bytes, row_pixels}
use Rattle.shape_picture.specs.declared.header.Form.TheVariants.{Packed}
use Rattle.shape_picture.specs.Raw.{Raw, is_object}
use Rattle.shape_picture.specs.Answers.{SpellsPicture}
use Rattle.shape_picture.proofs.RowBytes.{length-concat}
use Rattle.report_lines.specs.Reports.{flat}
use Rattle.report_lines.specs.Tells.{StandsIn}
use Rattle.masking.specs.Pictures.{side, header, row, pbm, shade, voxels}
use Rattle.masking.proofs.ByteBits.{row_values}

-- ---- volumes

shade_back : (b : Bool) → is_object (shade b) ≡ b
shade_back true = refl
shade_back false = refl

shades_back : (bs : List Bool) → bs ≡ map is_object (map shade bs)
shades_back [] = refl
shades_back (b ∷ bs) = let e = sym (shade_back b) in let r = shades_back bs in λ i. e i ∷ r i

pub volume_spelled : (X : Picture) → length X.values ≡ box_count X.sides → Raw X.sides (voxels X) X
volume_spelled X filled = record { as_many = length-map X.values shade ∙ filled; sides_are = refl; values = shades_back X.values }

-- ---- the sides

is_digits : IsDigitsTest (AllByRecursion IsDigit)
is_digits = record { empty = tt; parts = λ c cs d. d; more = λ c cs k d. (k, d) }

value_after : ℕ → List ℕ → ℕ
value_after n digits = fold (λ m c. m * 10 + (c - 48)) n digits

model : IsNumeralModel (AllByRecursion IsDigit) (value_after 0)
unfolding value_after
model = numerals_by_fold (AllByRecursion IsDigit) is_digits value_after (record { empty = λ n. refl; more = λ n c cs k. refl })

value_back : (n : ℕ) → n < 2 ^ 64 → number_value (decimal n) ≡ n
unfolding value_after
value_back n l = digits_value-decimal model n l

is_side : (n : ℕ) → 1 ≤ n → n ≤ most_flat → IsSide most_flat (decimal n)
is_side n some most =
    let e = value_back n (omega arith) in
    record {
      some = (decimal_is_IsNumeral n (omega arith)).0.0;
      digits_only = All-from_recursion IsDigit (decimal n) (digits_decimal model n (omega arith));
      value = (omega (arith, e), omega (arith, e));
    }

-- ---- the rows

flat_map_same : {X A : Type 0} (f g : X → List A) → ((x : X) → f x ≡ g x) → (xs : List X) → flat_map f xs ≡ flat_map g xs
flat_map_same f g e xs = λ i. flat_map (λ x. e x i) xs

map_flat_map : {X A B : Type 0} (f : A → B) (g : X → List A) (xs : List X) → map f (flat_map g xs) ≡ flat_map (λ x. map f (g x)) xs
map_flat_map f g [] = refl
map_flat_map f g (x ∷ xs) = map-append f (g x) (flat_map g xs) ∙ ap (λ l. map f (g x) ++ l) (map_flat_map f g xs)

concat_map : (f : ℕ → List ℕ) (xs : List ℕ) → flat_map f xs ≡ concat (map f xs)
concat_map f [] = refl
concat_map f (x ∷ xs) = ap (λ l. f x ++ l) (concat_map f xs)

-- the values of a flat picture, row by row
row_by_row : (X : Picture) (w h : ℕ) → X.sides ≡ w ∷ h ∷ [] → length X.values ≡ box_count X.sides
    → X.values ≡ flat_map (λ y. map (λ x. at X (pos x ∷ pos y ∷ [])) (range_with_len 0 w)) (range_with_len 0 h)
row_by_row X w h e filled =
    let columns = map (λ y. pos y ∷ []) (range_with_len 0 h) in
    sym (values_are X filled) ∙ ap (λ s. map (at X) (box_points s)) e ∙ ap (λ l. map (at X) (flat_map (λ p. map (λ x. pos x ∷ p) (range_with_len 0 w)) l))
    (append-nil columns)
    ∙ map_flat_map (at X) (λ p. map (λ x. pos x ∷ p) (range_with_len 0 w)) columns
    ∙ flat_map-map (λ p. map (at X) (map (λ x. pos x ∷ p) (range_with_len 0 w))) (λ y. pos y ∷ []) (range_with_len 0 h)
    ∙ flat_map_same _ _ (λ y. map_map (at X) (λ x. pos x ∷ pos y ∷ []) (range_with_len 0 w)) (range_with_len 0 h)
  where
    map_map : {A B C : Type 0} (f : B → C) (g : A → B) (xs : List A) → map f (map g xs) ≡ map (λ x. f (g x)) xs
    map_map f g [] = refl
    map_map f g (x ∷ xs) = ap (λ l. f (g x) ∷ l) (map_map f g xs)

eighths : (w : ℕ) → (w + 7) / 8 ≡ div_ceil w 8
eighths w = omega arith

enough : (w : ℕ) → w ≤ 8 * ((w + 7) / 8)
enough w = omega arith

module _ (X : Picture) (w h : ℕ) (e : X.sides ≡ w ∷ h ∷ []) (filled : length X.values ≡ box_count X.sides) where
  width : side X.sides 0 ≡ w
  width = ap (λ s. side s 0) e

  height : side X.sides 1 ≡ h
  height = ap (λ s. side s 1) e

  rows : List (List ℕ)
  rows = map (row X) (range_with_len 0 h)

  row_long : (y : ℕ) → length (row X y) ≡ row_bytes w
  row_long y = length-map-range_with_len _ 0 ((side X.sides 0 + 7) / 8) ∙ ap (λ n. (n + 7) / 8) width ∙ eighths w

  pixels_back : (y : ℕ) → row_pixels w (row X y) ≡ map (λ x. at X (pos x ∷ pos y ∷ [])) (range_with_len 0 w)
  pixels_back y = row_values (λ x. at X (pos x ∷ pos y ∷ [])) ((side X.sides 0 + 7) / 8) w (subst (λ n. w ≤ 8 * ((n + 7) / 8)) (sym width) (enough w))

  rows_long : All (λ r. length r ≡ row_bytes w) rows
  unfolding rows
  rows_long k d l =
      let n : k < h = omega (arith, l, length-map-range_with_len (row X) 0 h) in
      ap length (get_or-map-range_with_len (row X) 0 h k k d n (omega arith)) ∙ row_long k

  are_rows : AreRows w h (flat_map (row X) (range_with_len 0 h)) X.values
  unfolding rows
  are_rows = record {
    rows = rows;
    as_many = length-map-range_with_len (row X) 0 h;
    row_length = rows_long;
    bytes_are = concat_map (row X) (range_with_len 0 h);
    values_are = row_by_row X w h e filled
        ∙ sym (flat_map-map (row_pixels w) (row X) (range_with_len 0 h) ∙ flat_map_same _ _ pixels_back (range_with_len 0 h));
  }

  -- how many bytes the rows have
  few_bytes : w ≤ most_flat → h ≤ most_flat → length (flat_map (row X) (range_with_len 0 h)) ≤ most_flat * (most_flat / 8)
  unfolding rows
  few_bytes a b =
      let n = length-concat (row_bytes w) rows rows_long in
      let m = length-map-range_with_len (row X) 0 h in
      let few : row_bytes w ≤ most_flat / 8 = omega arith in
      let most = mul-le h (row_bytes w) most_flat (most_flat / 8) b few in
      let same = ap length (concat_map (row X) (range_with_len 0 h)) in
      let times = ap (λ k. k * row_bytes w) m in
      omega (arith, n, most, same, times)

-- ---- the file

-- the bytes of a picture of these sides: its front in pieces, and its rows
bytes_of : (w h : ℕ) (raster : List ℕ) → List ℕ
bytes_of w h raster = ((magic Packed ++ 10 ∷ []) ++ decimal w ++ 32 ∷ [] ++ decimal h) ++ 10 ∷ [] ++ raster

module _ (X : Picture) (w h : ℕ) (raster : List ℕ) (e : X.sides ≡ w ∷ h ∷ []) (filled : length X.values ≡ box_count X.sides)
    (rows : AreRows w h raster X.values) (a : 1 ≤ w) (b : w ≤ most_flat) (c : 1 ≤ h) (d : h ≤ most_flat) where
  in_width : IsInWidth Packed most_flat ((magic Packed ++ 10 ∷ []) ++ decimal w) (decimal w)
  in_width = record {
    gap = 10 ∷ [];
    is_gap = IsGap.one (IsGapPiece.white 10 refl);
    digits_only = (is_side w a b).digits_only;
    within = (is_side w a b).value.1;
    front_is = refl;
  }

  in_height : IsInHeight Packed most_flat ((magic Packed ++ 10 ∷ []) ++ decimal w ++ 32 ∷ [] ++ decimal h) (decimal w) (decimal h)
  in_height = record {
    before = (magic Packed ++ 10 ∷ []) ++ decimal w;
    gap = 32 ∷ [];
    in_width = in_width;
    width_done = is_side w a b;
    is_gap = IsGap.one (IsGapPiece.white 32 refl);
    digits_only = (is_side h c d).digits_only;
    within = (is_side h c d).value.1;
    front_is = refl;
  }

  in_raster : IsInRaster Packed most_flat (bytes_of w h raster) (decimal w) (decimal h) raster
  unfolding bytes_of
  in_raster = record {
    before = (magic Packed ++ 10 ∷ []) ++ decimal w ++ 32 ∷ [] ++ decimal h;
    ending = 10 ∷ [];
    in_height = in_height;
    height_done = is_side h c d;
    ends_header = IsOneWhite.alone 10 refl;
    begins = λ x s. refl;
    bytes = λ k x l. refl;
    front_is = refl;
  }

  some_bytes : 1 ≤ length (bytes_of w h raster)
  unfolding bytes_of
  some_bytes = simp (length-append {A = ℕ}) (omega arith)

  spelled_so : (n : ℕ) → length (bytes_of w h raster) ≡ n → n ≤ most_bytes → Pbm most_flat most_bytes (bytes_of w h raster) X n
  spelled_so n size short =
      let some = some_bytes in
      let u = value_back w (omega arith) in
      let v = value_back h (omega arith) in
      record {
        form = Packed;
        width = decimal w;
        height = decimal h;
        raster = raster;
        front = subst (λ t. IsInRaster Packed most_flat t (decimal w) (decimal h) raster) (sym (take_all n (bytes_of w h raster) (omega (arith, size))))
            in_raster;
        sides = e ∙ sym (ap (λ k. k ∷ number_value (decimal h) ∷ []) u ∙ ap (λ k. w ∷ k ∷ []) v);
        values = subst (λ k. AreRows k (number_value (decimal h)) raster X.values) (sym u) (subst (λ k. AreRows w k raster X.values) (sym v) rows);
        filled = filled;
        last = (
          n - 1,
          omega (arith, some, size),
          (get_or (bytes_of w h raster) (n - 1) 0, slice_get-get_or (bytes_of w h raster) (n - 1) 0 (omega (arith, some, size)), refl),
        );
        short = short;
      }

header_is : (w h : ℕ) (raster : List ℕ) → header (magic Packed) w h ++ raster ≡ bytes_of w h raster
unfolding bytes_of
header_is w h raster = simp append_assoc

header_few : (w h : ℕ) (raster : List ℕ) → w ≤ most_flat → h ≤ most_flat → length raster ≤ most_flat * (most_flat / 8)
    → length (header (magic Packed) w h ++ raster) ≤ most_bytes
header_few w h raster a b c =
    let u = length-decimal-le 5 w (omega arith) (omega arith) (omega arith) in
    let v = length-decimal-le 5 h (omega arith) (omega arith) (omega arith) in
    simp (length-append {A = ℕ}) (omega (arith, u, v, c))

two_sides : (sides : List ℕ) → length sides ≡ 2 → sides ≡ side sides 0 ∷ side sides 1 ∷ []
two_sides [] l = absurd (omega arith)
two_sides (w ∷ []) l = absurd (omega arith)
two_sides (w ∷ h ∷ []) l = refl
two_sides (w ∷ h ∷ n ∷ sides) l = absurd (omega (arith, l))

pub picture_spelled : (X : Picture) → StandsIn flat X → SpellsPicture most_flat most_bytes X (pbm X)
picture_spelled X stands =
    let w = side X.sides 0 in
    let h = side X.sides 1 in
    let e = two_sides X.sides stands.picture.axes in
    let filled = stands.picture.filled in
    let raster = flat_map (row X) (range_with_len 0 h) in
    let box = subst (λ s. AreSides flat.greatest (map pos s)) e stands.box in
    let x = box 0 (omega arith) in
    let y = box 1 (omega arith) in
    let a : 1 ≤ w = omega (arith, ints, x.0) in
    let b : w ≤ most_flat = omega (arith, ints, x.1) in
    let c : 1 ≤ h = omega (arith, ints, y.0) in
    let d : h ≤ most_flat = omega (arith, ints, y.1) in
    let whole = header_is w h raster in
    let few = header_few w h raster b d (few_bytes X w h e filled b d) in
    let n = length (bytes_of w h raster) in
    subst (SpellsPicture most_flat most_bytes X) (sym whole)
    (n, spelled_so X w h raster e filled (are_rows X w h e filled) a b c d n refl (omega (arith, few, ap length whole)))
