-- How a front of a PBM goes on by one byte.
-- Facts of the grammar alone: no machine occurs here.
use Rattle.std.proofs.Common.{◌≡◌, ℕ, ◌+◌, ◌-◌, ◌*◌, ◌<◌, ◌≤◌, true, false, List, [], ◌∷◌, ◌++◌, refl, sym, ap, ◌∙◌, inl, inr, arith, Some}
use Rattle.std.specs.Prelude.{◌||◌, IsTrue, slice_get, not}
use Rattle.std.proofs.lemmas.List.{append_assoc, append-nil}
use Rattle.std.proofs.lemmas.List.Elements.{All-nil, All-push, filter-append}
use Rattle.std.proofs.lemmas.Grind.{fold-append}
use Rattle.shape_picture.specs.declared.header.Form.{Form}
use Rattle.shape_picture.specs.declared.header.Form.TheVariants.{Plain, Packed}
use Rattle.shape_picture.specs.Pbm.{is_white, is_line_end, magic, holds_pixels, IsDigit, IsComment, IsGap, IsGapPiece, AreComments, IsOneWhite, EndsHeader}
use Rattle.shape_picture.specs.Pbm.{IsSide, IsInWidth, IsInHeight, IsInRaster, IsBehindHeight, MayComment, number_value, pixels_of}
use Rattle.shape_picture.specs.Header.{CommentOpens, GapLeadsTo, CommentLeadsTo}

-- ---- lists

glue_gap : (front a b p : List ℕ) → front ≡ a ++ b ++ [] → front ++ p ≡ a ++ (b ++ p) ++ []
glue_gap front a b p e = rw (e, append-nil, append-nil, append_assoc) refl

glue_open : (front p : List ℕ) → front ++ p ≡ front ++ p ++ []
glue_open front p = sym (append-nil (front ++ p))

glue_byte : (front a b d : List ℕ) (c : ℕ) → front ≡ a ++ b ++ d → front ++ c ∷ [] ≡ a ++ b ++ (d ++ c ∷ [])
glue_byte front a b d c e = rw (e, append_assoc) refl

glue_text : (front a d : List ℕ) (c : ℕ) → front ≡ a ++ 35 ∷ d → front ++ c ∷ [] ≡ a ++ 35 ∷ (d ++ c ∷ [])
glue_text front a d c e = rw (e, append_assoc) refl

glue_piece : (front a b p : List ℕ) → front ≡ a ++ b → front ++ p ≡ a ++ (b ++ p)
glue_piece front a b p e = rw (e, append_assoc) refl

-- ---- numbers

-- a picture has pixels
pub some_pixels : (w h : ℕ) → 1 ≤ w → 1 ≤ h → 0 < w * h
some_pixels w h a b = grind arith

pub times_one : (a b : ℕ) → a * (b * 1) ≡ a * b
times_one a b = grind arith

-- one digit more
pub number_value-push : (digits : List ℕ) (c : ℕ) → number_value (digits ++ c ∷ []) ≡ number_value digits * 10 + (c - 48)
number_value-push digits c = fold-append (λ n c. n * 10 + (c - 48)) 0 digits (c ∷ [])

-- ---- gaps

-- a gap goes on by a piece
pub gap_push : {gap piece : List ℕ} → IsGap gap → IsGapPiece piece → IsGap (gap ++ piece)
gap_push {piece} (IsGap.one {piece = p} h) q = IsGap.more p piece h (IsGap.one q)
gap_push {piece} (IsGap.more p gap h g) q = rw append_assoc (IsGap.more p (gap ++ piece) h (gap_push g q))

module _ (form : Form) (limit : ℕ) where
  -- what a gap leads to, in other words
  pub leads_to : {front : List ℕ} (T U V W : List ℕ → Type 0) → ((f : List ℕ) → T f → V f) → ((f : List ℕ) → U f → W f) → GapLeadsTo form limit T U front
      → GapLeadsTo form limit V W front
  leads_to {front} T U V W t u h = record {
    by_white = λ c w. t (front ++ c ∷ []) (h.by_white c w);
    by_comment = record { may = h.by_comment.may; onward = λ comment p. u (front ++ comment) (h.by_comment.onward comment p) };
  }

  -- a gap that goes on by pieces of either kind
  by_pieces : {front : List ℕ} (T : List ℕ → Type 0) → MayComment form limit front → ((piece : List ℕ) → IsGapPiece piece → T (front ++ piece))
      → GapLeadsTo form limit T T front
  by_pieces T m go = record {
    by_white = λ c w. go (c ∷ []) (IsGapPiece.white c w);
    by_comment = record { may = m; onward = λ comment p. go comment (IsGapPiece.comment p) };
  }

  -- a gap and nothing after it
  in_width : {front : List ℕ} (gap : List ℕ) → IsGap gap → front ≡ magic form ++ gap ++ [] → IsInWidth form limit front []
  in_width gap g e = record { gap = gap; is_gap = g; digits_only = All-nil IsDigit; within = omega arith; front_is = e }

  in_height : {front width : List ℕ} (before gap : List ℕ) → IsInWidth form limit before width → IsSide limit width → IsGap gap → front ≡ before ++ gap ++ []
      → IsInHeight form limit front width []
  in_height before gap i d g e =
      record { before = before; gap = gap; in_width = i; width_done = d; is_gap = g; digits_only = All-nil IsDigit; within = omega arith; front_is = e }

  in_raster : {front width height : List ℕ} (before ending : List ℕ) → IsInHeight form limit before width height → IsSide limit height → EndsHeader form ending
      → front ≡ before ++ ending ++ [] → IsInRaster form limit front width height []
  in_raster before ending i d g e = record {
    before = before;
    ending = ending;
    in_height = i;
    height_done = d;
    ends_header = g;
    begins = λ c e. absurd (cc);
    bytes = All-nil (λ c. IsTrue (holds_pixels form c || is_white c));
    front_is = e;
  }

  -- the places before the height's end where a gap may begin or go on, and what it leads to
  pub magic_opens : (front : List ℕ) → front ≡ magic form → GapLeadsTo form limit (λ f. IsInWidth form limit f []) (λ f. IsInWidth form limit f []) front
  magic_opens front e =
      by_pieces (λ f. IsInWidth form limit f []) (MayComment.behind_magic e) (λ piece p. in_width piece (IsGap.one p) (rw e (glue_open (magic form) piece)))

  pub width_opens : (front : List ℕ) → IsInWidth form limit front []
      → GapLeadsTo form limit (λ f. IsInWidth form limit f []) (λ f. IsInWidth form limit f []) front
  width_opens front h =
      by_pieces (λ f. IsInWidth form limit f []) (MayComment.in_gap (inl h))
      (λ piece p. in_width (h.gap ++ piece) (gap_push h.is_gap p) (glue_gap front (magic form) h.gap piece h.front_is))

  pub width_done_opens : (front digits : List ℕ) → IsInWidth form limit front digits → IsSide limit digits
      → GapLeadsTo form limit (λ f. IsInHeight form limit f digits []) (λ f. IsInHeight form limit f digits []) front
  width_done_opens front digits h s =
      by_pieces (λ f. IsInHeight form limit f digits []) (MayComment.behind_side digits (inl h) s)
      (λ piece p. in_height front piece h s (IsGap.one p) (glue_open front piece))

  pub height_opens : (front width : List ℕ) → IsInHeight form limit front width []
      → GapLeadsTo form limit (λ f. IsInHeight form limit f width []) (λ f. IsInHeight form limit f width []) front
  height_opens front width h =
      by_pieces (λ f. IsInHeight form limit f width []) (MayComment.in_gap (inr (width, h)))
      (λ piece p. in_height h.before (h.gap ++ piece) h.in_width h.width_done (gap_push h.is_gap p) (glue_gap front h.before h.gap piece h.front_is))

  -- ---- a byte more in a comment

  module _ (T : List ℕ → Type 0) where
    pub open_comment : (front : List ℕ) (c : ℕ) → CommentOpens form limit T front → c ≡ 35 → CommentLeadsTo form limit T (front ++ c ∷ [])
    open_comment front c h e = record {
      before = front;
      text = [];
      opens = h;
      no_end = All-nil (λ b. is_line_end b ≡ false);
      front_is = ap (λ (n : ℕ). front ++ n ∷ []) e;
    }

    pub comment_more : (front : List ℕ) (c : ℕ) → CommentLeadsTo form limit T front → is_line_end c ≡ false → CommentLeadsTo form limit T (front ++ c ∷ [])
    comment_more front c h e = record {
      before = h.before;
      text = h.text ++ c ∷ [];
      opens = h.opens;
      no_end = All-push (λ b. is_line_end b ≡ false) h.text c h.no_end e;
      front_is = glue_text front h.before h.text c h.front_is;
    }

    pub comment_done : (front : List ℕ) (c : ℕ) → CommentLeadsTo form limit T front → is_line_end c ≡ true → T (front ++ c ∷ [])
    comment_done front c h e =
        rw (glue_text front h.before h.text c h.front_is) (h.opens.onward (35 ∷ (h.text ++ c ∷ [])) (IsComment.hash h.text c h.no_end e))

  -- ---- a digit more, in the width and in the height

  pub width_digit : (front digits : List ℕ) (c : ℕ) → IsInWidth form limit front digits → IsDigit c → number_value digits * 10 + (c - 48) ≤ limit
      → IsInWidth form limit (front ++ c ∷ []) (digits ++ c ∷ [])
  width_digit front digits c h d l = record {
    gap = h.gap;
    is_gap = h.is_gap;
    digits_only = All-push IsDigit digits c h.digits_only d;
    within = rw (number_value-push digits c) l;
    front_is = glue_byte front (magic form) h.gap digits c h.front_is;
  }

  pub height_digit : (front width digits : List ℕ) (c : ℕ) → IsInHeight form limit front width digits → IsDigit c → number_value digits * 10 + (c - 48) ≤ limit
      → IsInHeight form limit (front ++ c ∷ []) width (digits ++ c ∷ [])
  height_digit front width digits c h d l = record {
    before = h.before;
    gap = h.gap;
    in_width = h.in_width;
    width_done = h.width_done;
    is_gap = h.is_gap;
    digits_only = All-push IsDigit digits c h.digits_only d;
    within = rw (number_value-push digits c) l;
    front_is = glue_byte front h.before h.gap digits c h.front_is;
  }

  -- ---- a byte more of the raster

  first_of_push : (raster : List ℕ) (c : ℕ) → ((d : ℕ) → slice_get raster 0 ≡ Some d → IsTrue (holds_pixels form d))
      → (raster ≡ [] → holds_pixels form c ≡ true) → (d : ℕ) → slice_get (raster ++ c ∷ []) 0 ≡ Some d → IsTrue (holds_pixels form d)
  first_of_push [] c h p d e = let same : c ≡ d = cc in rw same at (p refl)
  first_of_push (x ∷ raster) c h p d e = h d e

  -- a byte that holds pixels, or white space, more
  pub raster_byte : (front width height raster : List ℕ) (c : ℕ) → IsInRaster form limit front width height raster → (holds_pixels form c || is_white c) ≡ true
      → (raster ≡ [] → holds_pixels form c ≡ true) → IsInRaster form limit (front ++ c ∷ []) width height (raster ++ c ∷ [])
  raster_byte front width height raster c h b p = record {
    before = h.before;
    ending = h.ending;
    in_height = h.in_height;
    height_done = h.height_done;
    ends_header = h.ends_header;
    begins = first_of_push raster c h.begins p;
    bytes = All-push (λ c. IsTrue (holds_pixels form c || is_white c)) raster c h.bytes b;
    front_is = glue_byte front h.before h.ending raster c h.front_is;
  }

-- ---- behind the height

module _ (limit : ℕ) where
  -- behind its digits
  pub height_done_opens : (form : Form) (front width digits : List ℕ) → IsInHeight form limit front width digits → IsSide limit digits
      → GapLeadsTo form limit (λ f. IsInRaster form limit f width digits []) (λ f. IsBehindHeight form limit f width digits) front
  height_done_opens Plain front width digits h s =
      by_pieces Plain limit (λ f. IsInRaster Plain limit f width digits []) (MayComment.behind_side digits (inr (width, h)) s)
      (λ piece p. in_raster Plain limit front piece h s (IsGap.one p) (glue_open front piece))
  height_done_opens Packed front width digits h s = record {
    by_white = λ c w. in_raster Packed limit front (c ∷ []) h s (IsOneWhite.alone c w) (glue_open front (c ∷ []));
    by_comment = record {
      may = MayComment.behind_side digits (inr (width, h)) s;
      onward = λ comment p. record { before = front; comments = comment; in_height = h; height_done = s; are_comments = AreComments.one p; front_is = refl };
    };
  }

  -- behind white space or a comment there
  pub behind_opens : (form : Form) (front width height : List ℕ) → IsBehindHeight form limit front width height
      → GapLeadsTo form limit (λ f. IsInRaster form limit f width height []) (λ f. IsBehindHeight form limit f width height) front
  behind_opens Plain front width height h =
      by_pieces Plain limit (λ f. IsInRaster Plain limit f width height []) (MayComment.behind_height width height h)
      (λ piece p. in_raster Plain limit h.before (h.ending ++ piece) h.in_height h.height_done (gap_push h.ends_header p)
      (glue_gap front h.before h.ending piece h.front_is))
  behind_opens Packed front width height h = record {
    by_white = λ c w. in_raster Packed limit h.before (h.comments ++ c ∷ []) h.in_height h.height_done (IsOneWhite.behind h.comments c h.are_comments w)
        (glue_piece front h.before h.comments (c ∷ []) h.front_is ∙ sym (append-nil (h.before ++ (h.comments ++ c ∷ []))));
    by_comment = record {
      may = MayComment.behind_height width height h;
      onward = λ comment p. record {
        before = h.before;
        comments = h.comments ++ comment;
        in_height = h.in_height;
        height_done = h.height_done;
        are_comments = AreComments.more h.comments comment h.are_comments p;
        front_is = glue_piece front h.before h.comments comment h.front_is;
      };
    };
  }

-- ---- the bytes that hold pixels

-- white space adds no pixel
pub pixels_of-white : (raster : List ℕ) (c : ℕ) → is_white c ≡ true → pixels_of (raster ++ c ∷ []) ≡ pixels_of raster
pixels_of-white raster c e = rw (filter-append (λ c. not (is_white c)) raster (c ∷ []), e, append-nil) refl

-- another byte adds itself
pub pixels_of-pixel : (raster : List ℕ) (c : ℕ) → is_white c ≡ false → pixels_of (raster ++ c ∷ []) ≡ pixels_of raster ++ c ∷ []
pixels_of-pixel raster c e = rw (filter-append (λ c. not (is_white c)) raster (c ∷ []), e) refl
