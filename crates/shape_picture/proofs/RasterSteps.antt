-- Each step of the raster's machine keeps what is known of the pixels, or finds the fault that the byte decides.
-- The steps are those of the code for the form `P1`; the meanings are those of `Pbm`.
use Rattle.std.proofs.Common.{◌≡◌, ◌≢◌, ℕ, ◌+◌, ◌*◌, ◌<◌, Bool, true, false, List, [], ◌∷◌, ◌++◌, length, map, Ok, Err, refl, sym, ap, ◌∙◌, ⊎_elim, arith}
use Rattle.std.specs.Prelude.{◌&&◌, ◌==◌}
use Rattle.std.proofs.lemmas.Bool.{cases_Bool, eqb-true, eqb-false, and_parts, and_cases, or_from, or_left, or_right, or_cases, cond_both}
use Rattle.std.proofs.lemmas.List.{length-map, map_push}
use Rattle.shape_terms.specs.Pictures.{Picture, blank}
use Rattle.shape_picture.specs.declared.fault.PictureFault.TheVariants as fault
use Rattle.shape_picture.specs.declared.header.Form.TheVariants.{Plain}
use Rattle.shape_picture.specs.declared.raster.Piece.TheVariants as piece
use Rattle.shape_picture.specs.Pbm.{is_white, is_line_end, is_pixel, pixel_code, pixels_of, number_value, IsInRaster, IsUnfinished, IsUnfinishedBy}
use Rattle.shape_picture.specs.Pbm.{DecidesFault, Pbm}
use Rattle.shape_picture.specs.declared.header.Coming.TheVariants as coming
use Rattle.shape_picture.specs.Header.{IsInGap}
use Rattle.shape_picture.specs.Raster.{piece_of, RasterGoesOn, PieceAnswer, PictureSoFar}
use Rattle.shape_picture.proofs.Grammar.{some_pixels, behind_opens, open_comment, comment_more, comment_done, raster_byte, pixels_of-white, pixels_of-pixel}
use Rattle.shape_picture.proofs.ValueSteps.{put_value, values_next, first_start, first_next, first_whole}
use Rattle.shape_picture.proofs.ByteSteps.{spelled}

pixel_is : (c : ℕ) → is_pixel c ≡ true → c ≡ pixel_code (c == 49)
pixel_is c e =
    ⊎_elim (λ a. let f : c ≡ 48 = eqb-true c 48 a in rw f refl) (λ a. let f : c ≡ 49 = eqb-true c 49 a in rw f refl) (or_cases (c == 48) (c == 49) e)

code_is : (b : Bool) → (is_white (pixel_code b) ≡ false) × (is_pixel (pixel_code b) ≡ true)
code_is true = (refl, refl)
code_is false = (refl, refl)

module _ (limit : ℕ) where
  white_goes : (front : List ℕ) (c : ℕ) (width height raster : List ℕ) → IsInRaster Plain limit front width height raster → is_white c ≡ true
      → RasterGoesOn limit front c width height raster (piece.Gap false)
  white_goes front c width height [] h w = ([], (behind_opens limit Plain front width height h).by_white c w, refl, λ _. refl)
  white_goes front c width height (x ∷ raster) h w = (
    x ∷ raster ++ c ∷ [],
    raster_byte Plain limit front width height (x ∷ raster) c h (or_right (is_pixel c) (is_white c) w) (λ e. absurd (cc)),
    pixels_of-white (x ∷ raster) c w,
    λ e. absurd (cc),
  )

  comment_goes : (front : List ℕ) (c : ℕ) (width height raster : List ℕ) → IsInRaster Plain limit front width height raster → raster ≡ [] → c ≡ 35
      → RasterGoesOn limit front c width height raster (piece.Gap true)
  comment_goes front c width height [] h e k = (
    [],
    (
      refl,
      open_comment Plain limit (λ f. IsInRaster Plain limit f width height []) front c (behind_opens limit Plain front width height h).by_comment
          k,
    ),
    refl,
    λ _. refl,
  )
  comment_goes front c width height (x ∷ raster) h e k = absurd (cc)

  -- how many pixels there are so far, fewer than in the picture
  pixels_so_far : {X : Picture} {comment : Bool} {n : ℕ} {front : List ℕ} → (h : PictureSoFar limit X comment n front)
      → (length (pixels_of h.raster) ≡ n) × (length (pixels_of h.raster) < number_value h.width * number_value h.height)
  pixels_so_far h = let e = ap length h.pixels ∙ length-map h.known pixel_code ∙ h.first.count in (e, omega (arith, h.first.fewer))

  bad_byte : {X : Picture} {n : ℕ} {front : List ℕ} → (h : PictureSoFar limit X false n front) (at c : ℕ) → at ≡ length front → is_white c ≡ false
      → ((n == 0) && (c == 35)) ≡ false → is_pixel c ≡ false → DecidesFault limit front c (fault.BadByte at)
  bad_byte {n} h at c e w k p =
      let m = pixels_so_far h in
      let hash : h.raster ≡ [] → c ≢ 35 = λ r. ⊎_elim (λ z. absurd (eqb-false n 0 z (sym m.0 ∙ ap (λ (l : List ℕ). length (pixels_of l)) r)))
      (λ z. eqb-false c 35 z) (and_cases (n == 0) (c == 35) k) in
      (e, (h.raster, (h.width, h.height, h.at, m.1), hash), or_from (is_pixel c) (is_white c) p w)

  -- a byte more, within a comment or not
  pub piece_answer : {X : Picture} {comment : Bool} {n : ℕ} {front : List ℕ} → (h : PictureSoFar limit X comment n front) (at c : ℕ) → at ≡ length front
      → PieceAnswer limit front c h.width h.height h.raster (piece_of comment n at c)
  piece_answer {comment = true} {front} h at c e =
      ⊎_elim (λ l. rw l ([], comment_done Plain limit (λ f. IsInRaster Plain limit f h.width h.height []) front c h.at.1 l, rw h.at.0 refl, λ _. refl))
      (λ l. rw l (h.raster, (h.at.0, comment_more Plain limit (λ f. IsInRaster Plain limit f h.width h.height []) front c h.at.1 l), refl, λ e. e))
      (cases_Bool (is_line_end c))
  piece_answer {comment = false} {n} {front} h at c e =
      let P = PieceAnswer limit front c h.width h.height h.raster in
      cond_both (is_white c) (Ok (piece.Gap false)) _ P
      (λ w. white_goes front c h.width h.height h.raster h.at w)
      (λ w. cond_both ((n == 0) && (c == 35)) (Ok (piece.Gap true)) _ P
      (λ k. let q = and_parts (n == 0) (c == 35) k in comment_goes front c h.width h.height h.raster h.at (h.none (eqb-true n 0 q.0)) (eqb-true c 35 q.1))
      (λ k. cond_both (is_pixel c) (Ok (piece.Pixel (c == 49))) (Err (fault.BadByte at)) P
      (λ p. (raster_byte Plain limit front h.width h.height h.raster c h.at (or_left (is_pixel c) (is_white c) p) (λ _. p), pixel_is c p))
      (λ p. bad_byte h at c e w k p)))

  -- a raster with too few pixels is no whole picture and no fault
  pub raster_unfinished : {X : Picture} {comment : Bool} {n : ℕ} {front : List ℕ} → PictureSoFar limit X comment n front → IsUnfinished limit front
  raster_unfinished {comment = true} h =
      let k = h.at.1 in (
        Plain,
        IsUnfinishedBy.in_comment (record { before = k.before; text = k.text; may = k.opens.may; no_end = k.no_end; front_is = k.front_is }),
      )
  raster_unfinished {comment = false} h = (Plain, IsUnfinishedBy.in_picture h.raster (h.width, h.height, h.at, (pixels_so_far h).1))

-- ---- the picture

pub pixels_next : (raster : List ℕ) (values : List Bool) (c : ℕ) (b : Bool) → pixels_of raster ≡ map pixel_code values → c ≡ pixel_code b
    → pixels_of (raster ++ c ∷ []) ≡ map pixel_code (values ++ b ∷ [])
pixels_next raster values c b e k =
    pixels_of-pixel raster c (rw k (code_is b).0) ∙ rw (e, k) (sym (map_push pixel_code values b))

module _ (limit : ℕ) (X Y : Picture) (comment : Bool) (n : ℕ) (front : List ℕ) (b : Bool) (h : PictureSoFar limit X comment n front) (c : ℕ)
    (g : RasterGoesOn limit front c h.width h.height h.raster (piece.Pixel b)) (s : Y.sides ≡ X.sides) (e : Y.values ≡ put_value X.values n b) where
  -- a pixel that is not the last
  pub pixel_next : n + 1 < number_value h.width * number_value h.height → PictureSoFar limit Y false (n + 1) (front ++ c ∷ [])
  pixel_next l =
      let w = number_value h.width in
      let k = number_value h.height in
      let v = e ∙ values_next h.known X.values n (w * k) b h.first.values h.first.count h.first.fewer in
      record {
        width = h.width;
        height = h.height;
        raster = h.raster ++ c ∷ [];
        known = h.known ++ b ∷ [];
        at = g.0;
        none = λ z. absurd (omega arith);
        pixels = pixels_next h.raster h.known c b h.pixels g.1;
        first = first_next X Y w k n (n + 1) h.known (b ∷ []) h.first s v refl l;
      }

  -- the last pixel was read
  pub pixel_spelled : (longest : ℕ) (rest : List ℕ) → n + 1 ≡ number_value h.width * number_value h.height → length front < longest
      → Pbm limit longest ((front ++ c ∷ []) ++ rest) Y (length front + 1)
  pixel_spelled longest rest l m =
      let w = number_value h.width in
      let k = number_value h.height in
      let v = first_whole X Y w k n (n + 1) h.known (b ∷ []) h.first s (e ∙ values_next h.known X.values n (w * k) b h.first.values h.first.count h.first.fewer)
      refl l in
      let p = pixels_next h.raster h.known c b h.pixels g.1 in
      spelled limit longest Plain front rest c Y h.width h.height (h.raster ++ c ∷ []) g.0 (s ∙ h.first.sides) (rw v.0 p) v.1 (rw g.1 (code_is b).1) m

-- a byte that adds no pixel
pub gap_next : (limit : ℕ) (X : Picture) (comment next : Bool) (n : ℕ) (front : List ℕ) (h : PictureSoFar limit X comment n front) (c : ℕ)
    → RasterGoesOn limit front c h.width h.height h.raster (piece.Gap next) → PictureSoFar limit X next n (front ++ c ∷ [])
gap_next limit X comment next n front h c g = record {
  width = h.width;
  height = h.height;
  raster = g.0;
  known = h.known;
  at = g.1;
  none = λ z. g.3 (h.none z);
  pixels = g.2 ∙ h.pixels;
  first = h.first;
}

-- no pixel yet, right after the header
pub pixels_start : (limit w h : ℕ) (X : Picture) (n : List ℕ) (front : List ℕ) → IsInGap Plain limit (coming.Raster w h) front → X ≡ blank n → n ≡ w ∷ h ∷ []
    → PictureSoFar limit X false 0 front
pixels_start limit w h X n front (width, height, a, b, r) e s =
    let l = some_pixels (number_value width) (number_value height) r.in_height.width_done.value.0 r.height_done.value.0 in
    record {
      width = width;
      height = height;
      raster = [];
      known = [];
      at = r;
      none = λ _. refl;
      pixels = refl;
      first = first_start X n (number_value width) (number_value height) e (s ∙ rw (a, b) refl) l;
    }
