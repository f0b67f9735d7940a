-- A file spells a picture or has a fault: the machines are run over it, and each state's meaning is kept.
-- The law's first half; the second is `AtMostOne`.
use Rattle.std.proofs.Common.{◌≡◌, ℕ, ◌+◌, ◌-◌, ◌*◌, ◌<◌, ◌≤◌, Bool, false, List, [], ◌∷◌, ◌++◌, length, take, replicate, flat_map, Some, Ok, Err, Result, refl}
use Rattle.std.proofs.Common.{sym, ap, ◌∙◌, subst, inl, inr, ⊎_elim, arith}
use Rattle.std.specs.Prelude.{◌⊎◌}
use Rattle.std.proofs.lemmas.Bool.{cases_lt}
use Rattle.std.proofs.lemmas.List.{append_assoc, length_push}
use Rattle.shape_terms.specs.Pictures.{Picture, blank}
use Rattle.shape_picture.specs.declared.fault.PictureFault.{PictureFault}
use Rattle.shape_picture.specs.declared.fault.PictureFault.TheVariants as fault
use Rattle.shape_picture.specs.declared.header.Form.TheVariants.{Plain, Packed}
use Rattle.shape_picture.specs.declared.header.Header.{Header}
use Rattle.shape_picture.specs.declared.header.Header.TheVariants as header
use Rattle.shape_picture.specs.declared.header.Progress.{Progress}
use Rattle.shape_picture.specs.declared.header.Progress.TheVariants as progress
use Rattle.shape_picture.specs.declared.raster.Piece.{Piece}
use Rattle.shape_picture.specs.declared.raster.Piece.TheVariants as piece
use Rattle.shape_picture.specs.Pbm.{number_value, bits_of, row_pixels, Pbm, IsUnfinished}
use Rattle.shape_picture.specs.Header.{HeaderReached, StepAnswer, header_step}
use Rattle.shape_picture.specs.Raster.{PictureSoFar, PieceAnswer, piece_of, byte_pixels, RowsSoFar}
use Rattle.shape_picture.specs.Answers.{pbm, SpellsSome, HasFault}
use Rattle.shape_picture.proofs.HeaderSteps.{step_answer, unfinished}
use Rattle.shape_picture.proofs.ByteSteps.{short_fault, long_fault, byte_fault}
use Rattle.shape_picture.proofs.ValueSteps.{put_value}
use Rattle.shape_picture.proofs.RasterSteps.{piece_answer, raster_unfinished, gap_next, pixel_next, pixel_spelled, pixels_start}
use Rattle.shape_picture.proofs.RowBytes.{room_left}
use Rattle.shape_picture.proofs.RowSteps.{rows_start, rows_unfinished, rows_next, rows_spelled}

module _ (limit longest : ℕ) (bytes : List ℕ) where
  -- the bytes have an answer
  abbrev HasAnswer : Type 0
  HasAnswer = SpellsSome (pbm limit longest) bytes ⊎ HasFault (pbm limit longest) bytes

  one_more : (front rest : List ℕ) (c : ℕ) → bytes ≡ front ++ c ∷ rest → bytes ≡ (front ++ c ∷ []) ++ rest
  one_more front rest c e = e ∙ sym (append_assoc front (c ∷ []) rest)

  -- the bytes that are looked at end behind the front, or go on
  or_long : (front rest : List ℕ) → bytes ≡ front ++ rest → length front ≤ longest → IsUnfinished limit front → (length front < longest → HasAnswer) → HasAnswer
  or_long front rest e l u go =
      ⊎_elim go (λ m. inr (fault.TooLong, long_fault limit longest (Some bytes) (Some rest) front (ap Some e) (omega arith) u))
      (cases_lt (length front) longest)

  ended : (front : List ℕ) → bytes ≡ front ++ [] → length front ≤ longest → IsUnfinished limit front → HasAnswer
  ended front e l u =
      or_long front [] e l u
      (λ m. inr (fault.Short (length front), short_fault limit longest (Some bytes) (Some []) front (length front) (ap Some e) refl refl m u))

  -- what the rest of the raster gives
  abbrev FromRaster : List ℕ → Type 0
  FromRaster rest = (X : Picture) (comment : Bool) (n : ℕ) (front : List ℕ) → PictureSoFar limit X comment n front → length front ≤ longest
      → bytes ≡ front ++ rest → HasAnswer

  by_piece : (rest : List ℕ) → FromRaster rest → (X : Picture) (comment : Bool) (n : ℕ) (front : List ℕ) (c : ℕ) (h : PictureSoFar limit X comment n front)
      → length front < longest → bytes ≡ (front ++ c ∷ []) ++ rest
      → (r : Result Piece PictureFault) → PieceAnswer limit front c h.width h.height h.raster r → HasAnswer
  by_piece rest go X comment n front c h l e (Err f) d = inr (f, byte_fault limit longest (Some bytes) (Some rest) front c f (ap Some e) l d)
  by_piece rest go X comment n front c h l e (Ok (piece.Gap k)) g = go X k n (front ++ c ∷ []) (gap_next limit X comment k n front h c g)
      (omega (arith, length_push front c)) e
  by_piece rest go X comment n front c h l e (Ok (piece.Pixel b)) g =
      let Y : Picture = record { sides = X.sides; values = put_value X.values n b } in
      ⊎_elim (λ m. go Y false (n + 1) (front ++ c ∷ []) (pixel_next limit X Y comment n front b h c g refl refl m) (omega (arith, length_push front c)) e)
      (λ m.
      let k : n + 1 ≡ number_value h.width * number_value h.height = omega (arith, h.first.fewer, m) in
      inl (
        Y,
        (
          length front + 1,
          subst (λ (x : List ℕ). Pbm limit longest x Y (length front + 1)) (sym e)
              (pixel_spelled limit X Y comment n front b h c g refl refl longest rest k l),
        ),
      ))
      (cases_lt (n + 1) (number_value h.width * number_value h.height))

  from_raster : (rest : List ℕ) → FromRaster rest
  from_raster [] X comment n front h l e = ended front e l (raster_unfinished limit h)
  from_raster (c ∷ rest) X comment n front h l e =
      let go = from_raster rest in
      or_long front (c ∷ rest) e l (raster_unfinished limit h)
      (λ m. by_piece rest go X comment n front c h m (one_more front rest c e) (piece_of comment n (length front) c)
      (piece_answer limit h (length front) c refl))

  -- what the rest of the rows gives
  abbrev FromRows : List ℕ → Type 0
  FromRows rest = (X : Picture) (n : ℕ) (front : List ℕ) → RowsSoFar limit X n front → length front ≤ longest → bytes ≡ front ++ rest → HasAnswer

  by_byte : (rest : List ℕ) → FromRows rest → (X : Picture) (n : ℕ) (front : List ℕ) (c : ℕ) → RowsSoFar limit X n front → length front < longest
      → bytes ≡ (front ++ c ∷ []) ++ rest → HasAnswer
  by_byte rest go X n front c h l e =
      let w = number_value h.width in
      let t = w * number_value h.height in
      let p = byte_pixels w n in
      let known = flat_map (row_pixels w) h.rows ++ flat_map bits_of h.row in
      let Y : Picture = record { sides = X.sides; values = (known ++ take p (bits_of c)) ++ replicate (t - (n + p)) false } in
      let k : n + p ≤ t = room_left w (number_value h.height) n (omega (arith, h.begun)) h.first.fewer in
      ⊎_elim (λ m. go Y (n + p) (front ++ c ∷ []) (rows_next limit X Y n p front c h refl refl refl m) (omega (arith, length_push front c, l)) e)
      (λ m. inl (
        Y,
        (
          length front + 1,
          subst (λ (x : List ℕ). Pbm limit longest x Y (length front + 1)) (sym e)
              (rows_spelled limit X Y n p front c h refl longest rest refl refl (omega (arith, k, m)) l),
        ),
      ))
      (cases_lt (n + p) t)

  from_rows : (rest : List ℕ) → FromRows rest
  from_rows [] X n front h l e = ended front e l (rows_unfinished limit h)
  from_rows (c ∷ rest) X n front h l e =
      let go = from_rows rest in
      or_long front (c ∷ rest) e l (rows_unfinished limit h) (λ m. by_byte rest go X n front c h m (one_more front rest c e))

  -- what the rest of the file gives from within the header
  abbrev FromHeader : List ℕ → Type 0
  FromHeader rest = (s : Header) (front : List ℕ) → HeaderReached limit s front → length front ≤ longest → bytes ≡ front ++ rest → HasAnswer

  by_step : (rest : List ℕ) → FromHeader rest → (front : List ℕ) (c : ℕ) → length front < longest → bytes ≡ (front ++ c ∷ []) ++ rest
      → (r : Result Progress PictureFault) → StepAnswer limit front c r → HasAnswer
  by_step rest go front c l e (Err f) d = inr (f, byte_fault limit longest (Some bytes) (Some rest) front c f (ap Some e) l d)
  by_step rest go front c l e (Ok (progress.More s)) h = go s (front ++ c ∷ []) h (omega (arith, length_push front c)) e
  by_step rest go front c l e (Ok (progress.Done Packed w h)) k =
      let n = w ∷ h ∷ [] in
      from_rows rest (blank n) 0 (front ++ c ∷ []) (rows_start limit w h (blank n) n (front ++ c ∷ []) k refl refl) (omega (arith, length_push front c)) e
  by_step rest go front c l e (Ok (progress.Done Plain w h)) k =
      let n = w ∷ h ∷ [] in
      from_raster rest (blank n) false 0 (front ++ c ∷ []) (pixels_start limit w h (blank n) n (front ++ c ∷ []) k refl refl)
      (omega (arith, length_push front c)) e

  from_header : (rest : List ℕ) → FromHeader rest
  from_header [] s front h l e = ended front e l (unfinished limit s front h)
  from_header (c ∷ rest) s front h l e =
      let go = from_header rest in
      or_long front (c ∷ rest) e l (unfinished limit s front h)
      (λ m. by_step rest go front c m (one_more front rest c e) (header_step limit (length front) s c) (step_answer limit (length front) s front c refl h))

  pub some_answer : HasAnswer
  some_answer = from_header bytes header.Start [] refl (omega arith) refl
