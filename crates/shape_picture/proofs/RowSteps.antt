-- What a byte more of the rows of the form `P4` means for the picture.
-- The steps are those of the code; the meanings are those of `Pbm`.
use Rattle.std.proofs.Common.{◌≡◌, ℕ, ◌+◌, ◌-◌, ◌*◌, ◌%◌, ◌<◌, ◌≤◌, min, Bool, false, List, [], ◌∷◌, ◌++◌, length, take, replicate, flat_map, refl, sym, ap}
use Rattle.std.proofs.Common.{◌∙◌, arith}
use Rattle.std.specs.List.{concat}
use Rattle.std.proofs.Math.Nat.{min-le_right}
use Rattle.std.proofs.lemmas.Nat.{mul-le, mod-mul-add}
use Rattle.std.proofs.lemmas.List.{append-nil, length-append, length-take-le, nil_from_length}
use Rattle.std.proofs.lemmas.List.Elements.{All-nil}
use Rattle.shape_terms.specs.Pictures.{Picture, blank}
use Rattle.shape_picture.specs.declared.header.Form.TheVariants.{Packed}
use Rattle.shape_picture.specs.declared.header.Coming.TheVariants as coming
use Rattle.shape_picture.specs.Pbm.{bits_of, row_bytes, row_pixels, number_value, IsInRaster, IsUnfinished, IsUnfinishedBy, Pbm}
use Rattle.shape_picture.specs.Header.{IsInGap}
use Rattle.shape_picture.specs.Raster.{byte_pixels, RowsSoFar}
use Rattle.shape_picture.proofs.Grammar.{some_pixels, raster_byte}
use Rattle.shape_picture.proofs.ValueSteps.{first_start, first_next, first_whole}
use Rattle.shape_picture.proofs.ByteSteps.{spelled}
use Rattle.shape_picture.proofs.RowBytes.{less_rows, whole_rows, length-concat, row_longer, RowGoesOn, row_goes_on}

-- no byte of a row yet
pub rows_start : (limit w h : ℕ) (X : Picture) (n : List ℕ) (front : List ℕ) → IsInGap Packed limit (coming.Raster w h) front → X ≡ blank n → n ≡ w ∷ h ∷ []
    → RowsSoFar limit X 0 front
rows_start limit w h X n front (width, height, a, b, r) e s =
    let l = some_pixels (number_value width) (number_value height) r.in_height.width_done.value.0 r.height_done.value.0 in
    let k : 1 ≤ number_value width = r.in_height.width_done.value.0 in
    record {
      width = width;
      height = height;
      rows = [];
      row = [];
      at = r;
      row_length = All-nil (λ row. length row ≡ row_bytes (number_value width));
      begun = omega (arith, k);
      place = omega arith;
      first = first_start X n (number_value width) (number_value height) e (s ∙ rw (a, b) refl) l;
    }

-- the sides that the digits give are those of the picture
pub same_sides : {limit n w h : ℕ} {X : Picture} {front : List ℕ} → (r : RowsSoFar limit X n front) → X.sides ≡ w ∷ h ∷ []
    → (number_value r.width ≡ w) × (number_value r.width * number_value r.height ≡ w * h)
same_sides {w} {h} r e =
    let s : number_value r.width ∷ number_value r.height ∷ [] ≡ w ∷ h ∷ [] = sym r.first.sides ∙ e in
    let a : number_value r.width ≡ w = cc in
    let b : number_value r.height ≡ h = cc in
    (a, rw (a, b) refl)

-- rows with too few bytes are no whole picture and no fault
pub rows_unfinished : {X : Picture} {n : ℕ} {front : List ℕ} (limit : ℕ) → RowsSoFar limit X n front → IsUnfinished limit front
rows_unfinished limit h =
    let w = number_value h.width in
    let b = row_bytes w in
    let few = less_rows (length h.rows) w (length h.row * 8) (number_value h.height) _ h.place h.first.fewer in
    let m = mul-le (length h.rows + 1) b (number_value h.height) b (omega (arith, few)) (omega arith) in
    let c : length (concat h.rows) ≡ length h.rows * b = length-concat b h.rows h.row_length in
    let r : length h.row < b = row_longer w (length h.row) h.begun in (
      Packed,
      IsUnfinishedBy.in_picture (concat h.rows ++ h.row) (
        h.width,
        h.height,
        h.at,
        by_numbers (length h.rows) b (number_value h.height * b) _ _
            (length-append (concat h.rows) h.row ∙ ap (λ (n : ℕ). n + length h.row) c) r m,
      ),
    )
  where
    by_numbers : (a b t n k : ℕ) → n ≡ a * b + k → k < b → (a + 1) * b ≤ t → n < t
    by_numbers a b t n k e l m = let s : (a + 1) * b ≡ a * b + b = grind arith in omega (arith, s)

module _ (limit : ℕ) (X Y : Picture) (n p : ℕ) (front : List ℕ) (c : ℕ) (h : RowsSoFar limit X n front) (count : p ≡ byte_pixels (number_value h.width) n) where
  goes_on : RowGoesOn (number_value h.width) h.rows h.row c p
  goes_on =
      let w = number_value h.width in
      let r : n % w ≡ length h.row * 8 = ap (λ (i : ℕ). i % w) h.place ∙ mod-mul-add (length h.rows) w (length h.row * 8) h.begun in
      row_goes_on w h.rows h.row c p h.row_length h.begun (count ∙ ap (λ (i : ℕ). min (w - i) 8) r)

  more_bits : n + p ≡ n + length (take p (bits_of c))
  more_bits = ap (λ (i : ℕ). n + i) (sym (length-take-le p (bits_of c) (rw count (min-le_right (number_value h.width - n % number_value h.width) 8))))

  -- the raster goes on by the byte
  goes_in : IsInRaster Packed limit (front ++ c ∷ []) h.width h.height ((concat h.rows ++ h.row) ++ c ∷ [])
  goes_in = raster_byte Packed limit front h.width h.height (concat h.rows ++ h.row) c h.at refl (λ _. refl)

  -- the values that are known so far
  abbrev known : List Bool
  known = flat_map (row_pixels (number_value h.width)) h.rows ++ flat_map bits_of h.row

  -- a byte whose pixels are not the last
  pub rows_next : Y.sides ≡ X.sides → Y.values ≡ (known ++ take p (bits_of c)) ++ replicate (number_value h.width * number_value h.height - (n + p)) false
      → n + p < number_value h.width * number_value h.height → RowsSoFar limit Y (n + p) (front ++ c ∷ [])
  rows_next s e l =
      let g = goes_on in
      record {
        width = h.width;
        height = h.height;
        rows = g.next_rows;
        row = g.next_row;
        at = rw g.bytes goes_in;
        row_length = g.row_length;
        begun = g.begun;
        place = ap (λ (i : ℕ). i + p) h.place ∙ sym g.place;
        first = rw g.pixels (first_next X Y (number_value h.width) (number_value h.height) n (n + p) known (take p (bits_of c)) h.first s e more_bits l);
      }

  -- the last byte was read
  pub rows_spelled : (longest : ℕ) (rest : List ℕ) → Y.sides ≡ X.sides
      → Y.values ≡ (known ++ take p (bits_of c)) ++ replicate (number_value h.width * number_value h.height - (n + p)) false
      → n + p ≡ number_value h.width * number_value h.height → length front < longest → Pbm limit longest ((front ++ c ∷ []) ++ rest) Y (length front + 1)
  rows_spelled longest rest s e l m =
      let w = number_value h.width in
      let g = goes_on in
      let z = whole_rows (length g.next_rows) w (length g.next_row * 8) (number_value h.height) g.begun (g.place ∙ ap (λ (i : ℕ). i + p) (sym h.place) ∙ l) in
      let none : g.next_row ≡ [] = nil_from_length g.next_row (omega (arith, z.1)) in
      let v = first_whole X Y w (number_value h.height) n (n + p) known (take p (bits_of c)) h.first s e more_bits l in
      spelled limit longest Packed front rest c Y h.width h.height ((concat h.rows ++ h.row) ++ c ∷ []) goes_in (s ∙ h.first.sides)
      (record {
        rows = g.next_rows;
        as_many = z.0;
        row_length = g.row_length;
        bytes_are = sym g.bytes ∙ ap (λ (l : List ℕ). concat g.next_rows ++ l) none ∙ append-nil (concat g.next_rows);
        values_are = v.0 ∙ sym g.pixels ∙ ap (λ (l : List ℕ). flat_map (row_pixels w) g.next_rows ++ flat_map bits_of l) none
            ∙ append-nil (flat_map (row_pixels w) g.next_rows);
      })
      v.1 refl m
