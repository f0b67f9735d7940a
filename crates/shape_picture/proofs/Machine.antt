-- A file read by the header's machine and the raster's as one, whose states say all that is known of a front of it.
-- Used by the law alone: each part of the grammar is run, so that a front leads to one state and two answers never fit.
use Rattle.std.proofs.Common.{◌≡◌, ℕ, ◌+◌, ◌-◌, ◌*◌, ◌<◌, ◌≤◌, Bool, true, false, eqb, leb, fold, List, [], ◌∷◌, ◌++◌, length, Ok, Err, Result, All, refl, sym}
use Rattle.std.proofs.Common.{ap, subst, ◌∙◌, ⊎_elim, arith}
use Rattle.std.specs.Prelude.{◌||◌, ◌==◌, nat_lt, if◌then◌else◌}
use Rattle.std.proofs.lemmas.Bool.{eqb-true, ne_eqb, or_cases, lt-ltb, le-ltb, le-leb, and_from}
use Rattle.std.proofs.lemmas.List.Elements.{All-head, All-tail}
use Rattle.shape_picture.specs.declared.fault.PictureFault.{PictureFault}
use Rattle.shape_picture.specs.declared.header.Form.{Form}
use Rattle.shape_picture.specs.declared.header.Form.TheVariants.{Plain, Packed}
use Rattle.shape_picture.specs.declared.header.Side.{Side}
use Rattle.shape_picture.specs.declared.header.Side.TheVariants as side
use Rattle.shape_picture.specs.declared.header.Coming.{Coming}
use Rattle.shape_picture.specs.declared.header.Coming.TheVariants as coming
use Rattle.shape_picture.specs.declared.header.Header.{Header}
use Rattle.shape_picture.specs.declared.header.Header.TheVariants as header
use Rattle.shape_picture.specs.declared.header.Progress.{Progress}
use Rattle.shape_picture.specs.declared.header.Progress.TheVariants as progress
use Rattle.shape_picture.specs.declared.raster.Piece.{Piece}
use Rattle.shape_picture.specs.declared.raster.Piece.TheVariants as piece
use Rattle.shape_picture.specs.Pbm.{is_white, is_line_end, magic, holder_count, IsDigit, IsComment, IsGap, IsGapPiece, AreComments, IsOneWhite, EndsHeader}
use Rattle.shape_picture.specs.Pbm.{IsSide, IsInWidth, IsInHeight, number_value}
use Rattle.shape_picture.specs.Header.{is_digit, before_side, after_side, gap_of, comment_end, digit_step, header_step}
use Rattle.shape_picture.specs.Raster.{piece_of}

-- in the header; in the raster of this form, within a comment or not, of these sides with these bytes that hold pixels; or
-- at a fault
pub data State : Type 0 where
  AtHeader : Header → State
  AtRaster : Form → Bool → ℕ → ℕ → List ℕ → State
  AtFault : PictureFault → State

abbrev pub after_progress : Result Progress PictureFault → State
after_progress (Ok (progress.More h)) = State.AtHeader h
after_progress (Ok (progress.Done form w h)) = State.AtRaster form false w h []
after_progress (Err f) = State.AtFault f

abbrev pub after_piece : ℕ → ℕ → List ℕ → ℕ → Result Piece PictureFault → State
after_piece w h px c (Ok (piece.Gap k)) = State.AtRaster Plain k w h px
after_piece w h px c (Ok (piece.Pixel b)) = State.AtRaster Plain false w h (px ++ c ∷ [])
after_piece w h px c (Err f) = State.AtFault f

-- one byte more of a raster that is not complete
abbrev pub raster_step : ℕ → Form → Bool → ℕ → ℕ → List ℕ → ℕ → State
raster_step at Plain k w h px c = after_piece w h px c (piece_of k (length px) at c)
raster_step at Packed k w h px c = State.AtRaster Packed k w h (px ++ c ∷ [])

-- one byte more; a whole picture and a fault stay
abbrev pub state_step : ℕ → ℕ → State → ℕ → State
state_step limit at (State.AtHeader s) c = after_progress (header_step limit at s c)
state_step limit at (State.AtRaster form k w h px) c = if nat_lt (length px) (holder_count form w h) then raster_step at form k w h px c else State.AtRaster
    form k w h px
state_step limit at (State.AtFault f) c = State.AtFault f

-- some bytes more, the first of them at this place
abbrev pub run : ℕ → ℕ → State → List ℕ → State
run limit at s [] = s
run limit at s (c ∷ cs) = run limit (at + 1) (state_step limit at s c) cs

-- behind white space, and behind a comment, before what comes
abbrev pub gap_state : Form → Coming → State
gap_state form t = after_progress (Ok (gap_of form t))

abbrev pub comment_state : Form → Coming → State
comment_state form t = after_progress (Ok (comment_end form t))

pub white_not_digit : (c : ℕ) → is_white c ≡ true → is_digit c ≡ false
white_not_digit c e =
    ⊎_elim (λ a. ⊎_elim (λ b. ⊎_elim (λ d. at 32 c (eqb-true c 32 d) refl) (λ d. at 9 c (eqb-true c 9 d) refl) (or_cases (c == 32) (c == 9) b))
    (λ b. at 13 c (eqb-true c 13 b) refl) (or_cases ((c == 32) || (c == 9)) (c == 13) a))
    (λ a. at 10 c (eqb-true c 10 a) refl) (or_cases (((c == 32) || (c == 9)) || (c == 13)) (c == 10) e)
  where
    at : (n c : ℕ) → c ≡ n → is_digit n ≡ false → is_digit c ≡ false
    at n c e d = rw e d

pub digit_yes : (c : ℕ) → IsDigit c → is_digit c ≡ true
digit_yes c d = and_from (leb 48 c) (leb c 57) (le-leb 48 c d.0) (le-leb c 57 d.1)

module _ (limit : ℕ) where
  pub run-append : (xs ys : List ℕ) (at n : ℕ) (s : State) → n ≡ at + length xs → run limit at s (xs ++ ys) ≡ run limit n (run limit at s xs) ys
  run-append [] ys at n s e = let f : at ≡ n = omega arith in ap (λ (i : ℕ). run limit i s ys) f
  run-append (x ∷ xs) ys at n s e = run-append xs ys (at + 1) n (state_step limit at s x) (omega arith)

  pub run_stop : (xs : List ℕ) (at : ℕ) (f : PictureFault) → run limit at (State.AtFault f) xs ≡ State.AtFault f
  run_stop [] at f = refl
  run_stop (x ∷ xs) at f = run_stop xs (at + 1) f

  pub full_step : (form : Form) (at c w h : ℕ) (k : Bool) (px : List ℕ) → holder_count form w h ≤ length px
      → state_step limit at (State.AtRaster form k w h px) c ≡ State.AtRaster form k w h px
  full_step form at c w h k px l = rw (le-ltb (length px) (holder_count form w h) l) refl

  pub run_full : (form : Form) (xs : List ℕ) (at w h : ℕ) (k : Bool) (px : List ℕ) → holder_count form w h ≤ length px
      → run limit at (State.AtRaster form k w h px) xs ≡ State.AtRaster form k w h px
  run_full form [] at w h k px l = refl
  run_full form (x ∷ xs) at w h k px l = rw (full_step form at x w h k px l) (run_full form xs (at + 1) w h k px l)

  -- ---- gaps

  -- neither a whole picture nor a fault
  abbrev pub IsOpenState : State → Type 0
  IsOpenState (State.AtHeader s) = Unit {0}
  IsOpenState (State.AtRaster form k w h px) = length px < holder_count form w h
  IsOpenState (State.AtFault f) = ⊥

  -- a comment before what comes
  pub record IsCommentState (form : Form) (t : Coming) (s : State) : Type 0 where
    pub stays : (at c : ℕ) → is_line_end c ≡ false → state_step limit at s c ≡ s
    pub ends : (at c : ℕ) → is_line_end c ≡ true → state_step limit at s c ≡ comment_state form t

  -- white space or a comment may follow, before what comes
  pub record OpensGap (form : Form) (t : Coming) (s : State) : Type 0 where
    pub white : (at c : ℕ) → is_white c ≡ true → state_step limit at s c ≡ gap_state form t
    pub hash : (at : ℕ) → IsCommentState form t (state_step limit at s 35) × IsOpenState (state_step limit at s 35)

  module _ (form : Form) where
    head_comment : (t : Coming) → IsCommentState form t (State.AtHeader (header.Comment form t))
    head_comment t = record { stays = λ at c e. rw e refl; ends = λ at c e. rw e refl }

    comment_at : (t : Coming) (s k : State) (at : ℕ) → state_step limit at s 35 ≡ k → IsCommentState form t k → IsOpenState k
        → IsCommentState form t (state_step limit at s 35) × IsOpenState (state_step limit at s 35)
    comment_at t s k at e c o = (subst (IsCommentState form t) (sym e) c, subst IsOpenState (sym e) o)

    pub magic_to : OpensGap form coming.Width (State.AtHeader (header.Magic form))
    magic_to = record {
      white = λ at c e. rw e refl;
      hash = λ at. comment_at coming.Width (State.AtHeader (header.Magic form))
          (State.AtHeader (header.Comment form coming.Width)) at refl (head_comment coming.Width) tt;
    }

    pub gap_to : (s : Side) → OpensGap form (before_side s) (State.AtHeader (header.Gap form s))
    gap_to s = record {
      white = λ at c e. rw (white_not_digit c e, e) refl;
      hash = λ at. comment_at (before_side s) (State.AtHeader (header.Gap form s))
          (State.AtHeader (header.Comment form (before_side s))) at refl (head_comment (before_side s)) tt;
    }

    pub digits_to : (s : Side) (v : ℕ) → 1 ≤ v → OpensGap form (after_side s v) (State.AtHeader (header.Digits form s v))
    digits_to s v l =
        let n : eqb v 0 ≡ false = ne_eqb v 0 (λ e. omega arith) in
        record {
          white = λ at c e. rw (white_not_digit c e, n, e) refl;
          hash = λ at. comment_at (after_side s v) (State.AtHeader (header.Digits form s v))
              (State.AtHeader (header.Comment form (after_side s v))) at (rw n refl) (head_comment (after_side s v)) tt;
        }

    pub text_run : (t : Coming) (s : State) (text : List ℕ) (at : ℕ) → IsCommentState form t s → All (λ b. is_line_end b ≡ false) text → run limit at s text ≡ s
    text_run t s [] at k a = refl
    text_run t s (x ∷ text) at k a =
        rw (k.stays at x (All-head (λ b. is_line_end b ≡ false) x text a)) (text_run t s text (at + 1) k (All-tail (λ b. is_line_end b ≡ false) x text a))

    comment_run : (t : Coming) (s : State) (p : List ℕ) (at : ℕ) → OpensGap form t s → IsComment p → run limit at s p ≡ comment_state form t
    comment_run t s _ at o (IsComment.hash text c a e) =
        let k = (o.hash at).0 in
        run-append text (c ∷ []) (at + 1) (at + 1 + length text) (state_step limit at s 35) refl
        ∙ rw (text_run t (state_step limit at s 35) text (at + 1) k a) (k.ends (at + 1 + length text) c e)

    -- where a comment leads where white space does
    piece_run : (t : Coming) (s : State) (p : List ℕ) (at : ℕ) → comment_state form t ≡ gap_state form t → OpensGap form t s → IsGapPiece p
        → run limit at s p ≡ gap_state form t
    piece_run t s _ at same o (IsGapPiece.white c w) = o.white at c w
    piece_run t s _ at same o (IsGapPiece.comment {piece = p} h) = comment_run t s p at o h ∙ same

    pub gap_run : (t : Coming) (s : State) (gap : List ℕ) (at : ℕ) → comment_state form t ≡ gap_state form t → OpensGap form t (gap_state form t)
        → OpensGap form t s → IsGap gap → run limit at s gap ≡ gap_state form t
    gap_run t s _ at same again o (IsGap.one {piece = p} h) = piece_run t s p at same o h
    gap_run t s _ at same again o (IsGap.more p gap h g) =
        run-append p gap at (at + length p) s refl ∙ rw (piece_run t s p at same o h) (gap_run t (gap_state form t) gap (at + length p) same again again g)

    pub comments_run : (t : Coming) (s : State) (comments : List ℕ) (at : ℕ) → OpensGap form t (comment_state form t) → OpensGap form t s → AreComments comments
        → run limit at s comments ≡ comment_state form t
    comments_run t s _ at again o (AreComments.one {comment = p} h) = comment_run t s p at o h
    comments_run t s _ at again o (AreComments.more comments p a h) =
        run-append comments p at (at + length comments) s refl
        ∙ rw (comments_run t s comments at again o a) (comment_run t (comment_state form t) p (at + length comments) again h)

    one_white_run : (t : Coming) (s : State) (ending : List ℕ) (at : ℕ) → OpensGap form t (comment_state form t) → OpensGap form t s → IsOneWhite ending
        → run limit at s ending ≡ gap_state form t
    one_white_run t s _ at again o (IsOneWhite.alone c w) = o.white at c w
    one_white_run t s _ at again o (IsOneWhite.behind comments c a w) =
        run-append comments (c ∷ []) at (at + length comments) s refl ∙ rw (comments_run t s comments at again o a) (again.white (at + length comments) c w)

  -- ---- behind the height

  pix_comment : (w h : ℕ) → 0 < w * h → IsCommentState Plain (coming.Raster w h) (State.AtRaster Plain true w h [])
  pix_comment w h l = let n = lt-ltb 0 (w * h) l in record { stays = λ at c e. rw (n, e) refl; ends = λ at c e. rw (n, e) refl }

  -- comments go on behind a comment
  pub behind_to : (form : Form) (w h : ℕ) → 0 < w * h → OpensGap form (coming.Raster w h) (comment_state form (coming.Raster w h))
  behind_to Plain w h l =
      let n = lt-ltb 0 (w * h) l in
      record {
        white = λ at c e. rw (n, e) refl;
        hash = λ at. comment_at Plain (coming.Raster w h) (State.AtRaster Plain false w h [])
            (State.AtRaster Plain true w h []) at (rw n refl) (pix_comment w h l) l;
      }
  behind_to Packed w h l = record {
    white = λ at c e. rw e refl;
    hash = λ at. comment_at Packed (coming.Raster w h) (State.AtHeader (header.Closing w h)) (State.AtHeader (header.Comment Packed (coming.Raster w h))) at
        refl (head_comment Packed (coming.Raster w h)) tt;
  }

  -- what ends the header
  pub ending_run : (form : Form) (w h : ℕ) (s : State) (ending : List ℕ) (at : ℕ) → 0 < w * h → OpensGap form (coming.Raster w h) s → EndsHeader form ending
      → run limit at s ending ≡ State.AtRaster form false w h []
  ending_run Plain w h s ending at l o e = gap_run Plain (coming.Raster w h) s ending at refl (behind_to Plain w h l) o e
  ending_run Packed w h s ending at l o e = one_white_run Packed (coming.Raster w h) s ending at (behind_to Packed w h l) o e

  -- ---- sides

  abbrev value_from : ℕ → List ℕ → ℕ
  value_from v ds = fold (λ n c. n * 10 + (c - 48)) v ds

  value_above : (ds : List ℕ) (v : ℕ) → v ≤ value_from v ds
  value_above [] v = omega arith
  value_above (d ∷ ds) v = let k = value_above ds (v * 10 + (d - 48)) in omega arith

  pub digit_goes : (form : Form) (s : Side) (v c : ℕ) → v * 10 + (c - 48) ≤ limit
      → digit_step form limit s v c ≡ Ok (progress.More (header.Digits form s (v * 10 + (c - 48))))
  digit_goes form s v c l = rw (le-ltb limit (v * 10 + (c - 48)) l) refl

  digits_run : (form : Form) (s : Side) (ds : List ℕ) (v at : ℕ) → All IsDigit ds → value_from v ds ≤ limit
      → run limit at (State.AtHeader (header.Digits form s v)) ds ≡ State.AtHeader (header.Digits form s (value_from v ds))
  digits_run form s [] v at a l = refl
  digits_run form s (d ∷ ds) v at a l =
      let m : v * 10 + (d - 48) ≤ limit = omega (arith, value_above ds (v * 10 + (d - 48))) in
      rw (digit_yes d (All-head IsDigit d ds a), digit_goes form s v d m) (digits_run form s ds (v * 10 + (d - 48)) (at + 1) (All-tail IsDigit d ds a) l)

  -- in these digits of a side
  abbrev pub side_state : Form → Side → List ℕ → State
  side_state form s [] = State.AtHeader (header.Gap form s)
  side_state form s (d ∷ ds) = State.AtHeader (header.Digits form s (number_value (d ∷ ds)))

  pub side_run : (form : Form) (s : Side) (ds : List ℕ) (at : ℕ) → All IsDigit ds → number_value ds ≤ limit
      → run limit at (State.AtHeader (header.Gap form s)) ds ≡ side_state form s ds
  side_run form s [] at a l = refl
  side_run form s (d ∷ ds) at a l =
      let m : 0 * 10 + (d - 48) ≤ limit = omega (arith, value_above ds (0 * 10 + (d - 48))) in
      rw (digit_yes d (All-head IsDigit d ds a), digit_goes form s 0 d m) (digits_run form s ds (0 * 10 + (d - 48)) (at + 1) (All-tail IsDigit d ds a) l)

  pub side_to : (form : Form) (s : Side) (ds : List ℕ) → IsSide limit ds → OpensGap form (after_side s (number_value ds)) (side_state form s ds)
  side_to form s [] h = absurd (omega (arith, h.some))
  side_to form s (d ∷ ds) h = digits_to form s (number_value (d ∷ ds)) h.value.0

  -- the state after a front from the beginning
  abbrev pub state_of : List ℕ → State
  state_of front = run limit 0 (State.AtHeader header.Start) front

  pub onward : (xs ys : List ℕ) → state_of (xs ++ ys) ≡ run limit (length xs) (state_of xs) ys
  onward xs ys = run-append xs ys 0 (length xs) (State.AtHeader header.Start) (omega arith)

  pub magic_run : (form : Form) → state_of (magic form) ≡ State.AtHeader (header.Magic form)
  magic_run Plain = refl
  magic_run Packed = refl

  pub width_run : (form : Form) (front digits : List ℕ) → IsInWidth form limit front digits → state_of front ≡ side_state form side.Width digits
  width_run form front digits h =
      rw h.front_is
      (onward (magic form ++ h.gap) digits
      ∙ ap (λ (s : State). run limit (length (magic form ++ h.gap)) s digits)
      (onward (magic form) h.gap ∙ ap (λ (s : State). run limit 2 s h.gap) (magic_run form) ∙ gap_run form coming.Width (State.AtHeader (header.Magic form))
      h.gap 2 refl (gap_to form side.Width) (magic_to form) h.is_gap)
      ∙ side_run form side.Width digits (length (magic form ++ h.gap)) h.digits_only h.within)

  pub height_run : (form : Form) (front width digits : List ℕ) → IsInHeight form limit front width digits
      → state_of front ≡ side_state form (side.Height (number_value width)) digits
  height_run form front width digits h =
      let w = number_value width in
      rw h.front_is
      (onward (h.before ++ h.gap) digits
      ∙ ap (λ (s : State). run limit (length (h.before ++ h.gap)) s digits)
      (onward h.before h.gap ∙ ap (λ (s : State). run limit (length h.before) s h.gap) (width_run form h.before width h.in_width)
      ∙ gap_run form (coming.Height w) (side_state form side.Width width) h.gap (length h.before) refl (gap_to form (side.Height w))
      (side_to form side.Width width h.width_done) h.is_gap)
      ∙ side_run form (side.Height w) digits (length (h.before ++ h.gap)) h.digits_only h.within)
