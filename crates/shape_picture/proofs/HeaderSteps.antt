-- Each step of the header's machine keeps what its states say of the grammar, or finds the fault that the byte decides.
-- The steps are those of the code; the meanings are those of `Pbm`.
use Rattle.std.proofs.Common.{◌≡◌, ℕ, ◌+◌, ◌-◌, ◌*◌, ◌≤◌, true, false, List, [], ◌∷◌, ◌++◌, length, refl, sym, ap, ◌∙◌, inl, inr, arith, Ok, Err, All, Bool}
use Rattle.std.proofs.Common.{ltb, leb, ⊎_elim}
use Rattle.std.specs.Prelude.{◌&&◌, ◌==◌, ◌≢◌}
use Rattle.std.proofs.lemmas.Bool.{ltb-true, ltb-false, leb-true, eqb-true, eqb-false, and_parts, and_cases, or_from, or_parts, cond_both, cases_Bool, and_from}
use Rattle.std.proofs.lemmas.Bool.{false≢true, le-leb}
use Rattle.std.proofs.lemmas.List.{length_push}
use Rattle.shape_picture.specs.declared.fault.PictureFault.{PictureFault}
use Rattle.shape_picture.specs.declared.fault.PictureFault.TheVariants as fault
use Rattle.shape_picture.specs.declared.header.Form.{Form}
use Rattle.shape_picture.specs.declared.header.Form.TheVariants.{Plain, Packed}
use Rattle.shape_picture.specs.declared.header.Side.{Side}
use Rattle.shape_picture.specs.declared.header.Side.TheVariants as side
use Rattle.shape_picture.specs.declared.header.Coming.{Coming}
use Rattle.shape_picture.specs.declared.header.Coming.TheVariants as coming
use Rattle.shape_picture.specs.declared.header.Header.{Header}
use Rattle.shape_picture.specs.declared.header.Header.TheVariants as header
use Rattle.shape_picture.specs.declared.header.Progress.TheVariants as progress
use Rattle.shape_picture.specs.Pbm.{is_white, is_line_end, is_stop, form_digit, IsDigit, IsSide, IsInHeight, IsInRaster, IsBehindHeight, IsInSide, IsUnfinished}
use Rattle.shape_picture.specs.Pbm.{IsUnfinishedBy, IsMisplaced, number_value, DecidesFault}
use Rattle.shape_picture.specs.Header.{is_digit, before_side, after_side, gap_of, comment_end, opened, digit_step, header_step, IsSmall, IsInGap}
use Rattle.shape_picture.specs.Header.{IsAfterComment, IsInDigits, GapLeadsTo, HasDigits, HeaderReached, ProgressReached, StepAnswer}
use Rattle.shape_picture.proofs.Grammar.{leads_to, magic_opens, width_opens, width_done_opens, height_opens, height_done_opens, behind_opens, open_comment}
use Rattle.shape_picture.proofs.Grammar.{comment_more, comment_done, number_value-push, width_digit, height_digit}

pub digit_is : (c : ℕ) → is_digit c ≡ true → IsDigit c
digit_is c e = let p = and_parts (leb 48 c) (leb c 57) e in (leb-true 48 c p.0, leb-true c 57 p.1)

pub not_digit : (c : ℕ) → is_digit c ≡ false → IsDigit c → ⊥
not_digit c e d = false≢true (sym e ∙ and_from (leb 48 c) (leb c 57) (le-leb 48 c d.0) (le-leb c 57 d.1))

no_form : (c : ℕ) → (c == 49) ≡ false → (c == 52) ≡ false → (form : Form) → c ≢ form_digit form
no_form c e f Plain = eqb-false c 49 e
no_form c e f Packed = eqb-false c 52 f

module _ (form : Form) (limit : ℕ) where
  gap_comes : (t : Coming) (front : List ℕ) → IsInGap form limit t front → ProgressReached limit (gap_of form t) front
  gap_comes coming.Width front h = h
  gap_comes (coming.Height w) front h = h
  gap_comes (coming.Raster w h) front i = i

  -- a byte where white space or a comment may follow
  opened_answer : (t : Coming) (front : List ℕ) (c : ℕ) (other : PictureFault)
      → GapLeadsTo form limit (IsInGap form limit t) (IsAfterComment form limit t) front → (is_stop c ≡ false → DecidesFault limit front c other)
      → StepAnswer limit front c (opened form t c other)
  opened_answer t front c other h d =
      cond_both (is_white c) (Ok (gap_of form t)) _ (StepAnswer limit front c)
      (λ w. gap_comes t (front ++ c ∷ []) (h.by_white c w))
      (λ w. cond_both (c == 35) (Ok (progress.More (header.Comment form t))) (Err other) (StepAnswer limit front c)
      (λ e. open_comment form limit (IsAfterComment form limit t) front c h.by_comment (eqb-true c 35 e))
      (λ e. d (or_from (is_white c) (c == 35) w e)))

  -- the gap before a side goes on
  before_opens : (s : Side) (front : List ℕ) → IsInGap form limit (before_side s) front
      → GapLeadsTo form limit (IsInGap form limit (before_side s)) (IsAfterComment form limit (before_side s)) front
  before_opens side.Width front h = width_opens form limit front h
  before_opens (side.Height w) front h =
      let T = λ (f : List ℕ). IsInHeight form limit f h.0 [] in
      let V = IsInGap form limit (coming.Height w) in
      leads_to form limit T T V V (λ f i. (h.0, h.1, i)) (λ f i. (h.0, h.1, i)) (height_opens form limit front h.0 h.2)

  -- a side that is done ends
  after_opens : (s : Side) (v : ℕ) (front : List ℕ) → (h : HasDigits form limit s v front) → IsSide limit h.digits
      → GapLeadsTo form limit (IsInGap form limit (after_side s v)) (IsAfterComment form limit (after_side s v)) front
  after_opens side.Width v front h d =
      let T = λ (f : List ℕ). IsInHeight form limit f h.digits [] in
      let V = IsInGap form limit (coming.Height v) in
      leads_to form limit T T V V (λ f i. (h.digits, h.value, i)) (λ f i. (h.digits, h.value, i)) (width_done_opens form limit front h.digits h.within d)
  after_opens (side.Height w) v front h d =
      let i = h.within in
      leads_to form limit (λ f. IsInRaster form limit f i.0 h.digits []) (λ f. IsBehindHeight form limit f i.0 h.digits)
      (IsInGap form limit (coming.Raster w v)) (IsAfterComment form limit (coming.Raster w v))
      (λ f r. (i.0, h.digits, i.1, h.value, r)) (λ f r. (i.0, h.digits, i.1, h.value, r)) (height_done_opens limit form front i.0 h.digits i.2 d)

  -- a comment behind the height ends
  closing_opens : (w h : ℕ) (front : List ℕ) → IsAfterComment form limit (coming.Raster w h) front
      → GapLeadsTo form limit (IsInGap form limit (coming.Raster w h)) (IsAfterComment form limit (coming.Raster w h)) front
  closing_opens w h front i =
      leads_to form limit (λ f. IsInRaster form limit f i.0 i.1 []) (λ f. IsBehindHeight form limit f i.0 i.1) (IsInGap form limit (coming.Raster w h))
      (IsAfterComment form limit (coming.Raster w h))
      (λ f r. (i.0, i.1, i.2, i.3, r)) (λ f r. (i.0, i.1, i.2, i.3, r)) (behind_opens limit form front i.0 i.1 i.4)

  -- the digits of a side, as the faults speak of them
  in_side : (s : Side) (front digits : List ℕ) → IsInDigits form limit s front digits → IsInSide form limit front digits
  in_side side.Width front digits h = inl h
  in_side (side.Height w) front digits h = inr (h.0, h.2)

  gap_digits : (s : Side) (front : List ℕ) → IsInGap form limit (before_side s) front → IsInDigits form limit s front []
  gap_digits side.Width front h = h
  gap_digits (side.Height w) front h = h

  all_digits : (s : Side) (front digits : List ℕ) → IsInDigits form limit s front digits → All IsDigit digits
  all_digits side.Width front digits h = h.digits_only
  all_digits (side.Height w) front digits h = h.2.digits_only

  small_digits : (s : Side) (front digits : List ℕ) → IsInDigits form limit s front digits → number_value digits ≤ limit
  small_digits side.Width front digits h = h.within
  small_digits (side.Height w) front digits h = h.2.within

  more_digits : (s : Side) (front digits : List ℕ) (c : ℕ) → IsInDigits form limit s front digits → IsDigit c → number_value digits * 10 + (c - 48) ≤ limit
      → IsInDigits form limit s (front ++ c ∷ []) (digits ++ c ∷ [])
  more_digits side.Width front digits c h d l = width_digit form limit front digits c h d l
  more_digits (side.Height w) front digits c h d l = (h.0, h.1, height_digit form limit front h.0 digits c h.2 d l)

  -- a digit more
  digit_answer : (s : Side) (v : ℕ) (front digits : List ℕ) (c : ℕ) → IsInDigits form limit s front digits → number_value digits ≡ v → is_digit c ≡ true
      → StepAnswer limit front c (digit_step form limit s v c)
  digit_answer s v front digits c h e d =
      let k : number_value (digits ++ c ∷ []) ≡ v * 10 + (c - 48) = number_value-push digits c ∙ ap (λ (n : ℕ). n * 10 + (c - 48)) e in
      cond_both (ltb limit (v * 10 + (c - 48))) (Err (fault.SideTooLarge (v * 10 + (c - 48)))) (Ok (progress.More (header.Digits form s (v * 10 + (c - 48)))))
      (StepAnswer limit front c)
      (λ l. (form, digits, in_side s front digits h, digit_is c d, sym k, ltb-true limit (v * 10 + (c - 48)) l))
      (λ l. record {
        digits = digits ++ c ∷ [];
        some = omega (arith, length_push digits c);
        value = k;
        within = more_digits s front digits c h (digit_is c d) (let m : v * 10 + (c - 48) ≤ limit = ltb-false limit (v * 10 + (c - 48)) l in rw e m);
      })

  -- a byte behind digits that is none
  digits_end : (at : ℕ) (s : Side) (v : ℕ) (front : List ℕ) (c : ℕ) → at ≡ length front → HasDigits form limit s v front → is_digit c ≡ false
      → StepAnswer limit front c (header_step limit at (header.Digits form s v) c)
  digits_end at s v front c e h d =
      rw d (cond_both ((v == 0) && is_stop c) (Err fault.ZeroSide) (opened form (after_side s v) c (fault.BadNumber at)) (StepAnswer limit front c)
      (λ z. let p = and_parts (v == 0) (is_stop c) z in (form, h.digits, in_side s front h.digits h.within, h.some, h.value ∙ eqb-true v 0 p.0, p.1))
      (λ z. ends (is_stop c) refl z))
    where
      bad : is_stop c ≡ false → DecidesFault limit front c (fault.BadNumber at)
      bad t = (e, IsMisplaced.in_side form h.digits (in_side s front h.digits h.within) t (not_digit c d))

      done : is_stop c ≡ true → ((v == 0) && is_stop c) ≡ false → IsSide limit h.digits
      done t z =
          let n : v ≡ 0 → ⊥ = ⊎_elim (λ f. eqb-false v 0 f) (λ f. absurd (false≢true (sym f ∙ t))) (and_cases (v == 0) (is_stop c) z) in
          let l = small_digits s front h.digits h.within in
          record { some = h.some; digits_only = all_digits s front h.digits h.within; value = (omega (arith, h.value), l) }

      ends : (b : Bool) → is_stop c ≡ b → ((v == 0) && is_stop c) ≡ false → StepAnswer limit front c (opened form (after_side s v) c (fault.BadNumber at))
      ends true t z = opened_answer (after_side s v) front c (fault.BadNumber at) (after_opens s v front h (done t z)) (λ f. bad f)
      ends false t z =
          let p = or_parts (is_white c) (c == 35) t in
          rw (p.0, p.1) (bad t)

module _ (limit : ℕ) where
  comment_comes : (form : Form) (t : Coming) (front : List ℕ) → IsAfterComment form limit t front → ProgressReached limit (comment_end form t) front
  comment_comes form coming.Width front h = h
  comment_comes form (coming.Height w) front h = h
  comment_comes Plain (coming.Raster w h) front i = i
  comment_comes Packed (coming.Raster w h) front i = i

  -- a byte more in each state
  pub step_answer : (at : ℕ) (s : Header) (front : List ℕ) (c : ℕ) → at ≡ length front → HeaderReached limit s front
      → StepAnswer limit front c (header_step limit at s c)
  step_answer at header.Start front c e h =
      cond_both (c == 80) (Ok (progress.More header.Letter)) (Err fault.NotPlain) (StepAnswer limit front c)
      (λ t. rw (h, eqb-true c 80 t) refl)
      (λ t. rw h (Plain, refl, eqb-false c 80 t))
  step_answer at header.Letter front c e h =
      cond_both (c == 49) (Ok (progress.More (header.Magic Plain))) _ (StepAnswer limit front c)
      (λ t. rw (h, eqb-true c 49 t) refl)
      (λ t. cond_both (c == 52) (Ok (progress.More (header.Magic Packed))) (Err fault.NotPlain) (StepAnswer limit front c)
      (λ u. rw (h, eqb-true c 52 u) refl)
      (λ u. rw h (Plain, refl, no_form c t u)))
  step_answer at (header.Magic form) front c e h = opened_answer form limit coming.Width front c fault.NotPlain (magic_opens form limit front h)
      (λ t. rw h (form, refl, t))
  step_answer at (header.Gap form s) front c e h =
      cond_both (is_digit c) (digit_step form limit s 0 c) (opened form (before_side s) c (fault.BadNumber at)) (StepAnswer limit front c)
      (λ d. digit_answer form limit s 0 front [] c (gap_digits form limit s front h) refl d)
      (λ d. opened_answer form limit (before_side s) front c (fault.BadNumber at) (before_opens form limit s front h)
      (λ t. (e, IsMisplaced.in_side form [] (in_side form limit s front [] (gap_digits form limit s front h)) t (not_digit c d))))
  step_answer at (header.Comment form t) front c e h =
      cond_both (is_line_end c) (Ok (comment_end form t)) (Ok (progress.More (header.Comment form t))) (StepAnswer limit front c)
      (λ l. comment_comes form t (front ++ c ∷ []) (comment_done form limit (IsAfterComment form limit t) front c h l))
      (λ l. comment_more form limit (IsAfterComment form limit t) front c h l)
  step_answer at (header.Digits form s v) front c e h =
      ⊎_elim (λ d. rw d (digit_answer form limit s v front h.digits c h.within h.value d)) (λ d. digits_end form limit at s v front c e h d)
      (cases_Bool (is_digit c))
  step_answer at (header.Closing w h) front c e i =
      opened_answer Packed limit (coming.Raster w h) front c (fault.BadNumber at) (closing_opens Packed limit w h front i)
      (λ t. (e, IsMisplaced.behind_comments i.0 i.1 i.4 t))

  -- no state is a whole picture or a fault
  pub unfinished : (s : Header) (front : List ℕ) → HeaderReached limit s front → IsUnfinished limit front
  unfinished header.Start front h = (Plain, IsUnfinishedBy.in_magic 0 (omega arith) h)
  unfinished header.Letter front h = (Plain, IsUnfinishedBy.in_magic 1 (omega arith) h)
  unfinished (header.Magic form) front h = (form, IsUnfinishedBy.in_magic 2 (omega arith) h)
  unfinished (header.Gap form s) front h = (form, IsUnfinishedBy.in_side [] (in_side form limit s front [] (gap_digits form limit s front h)))
  unfinished (header.Comment form t) front h =
      (form, IsUnfinishedBy.in_comment (record { before = h.before; text = h.text; may = h.opens.may; no_end = h.no_end; front_is = h.front_is }))
  unfinished (header.Digits form s v) front h = (form, IsUnfinishedBy.in_side h.digits (in_side form limit s front h.digits h.within))
  unfinished (header.Closing w h) front i = (Packed, IsUnfinishedBy.behind_height i.0 i.1 i.4)

  -- the digits so far are within the limit
  pub small : (s : Header) (front : List ℕ) → HeaderReached limit s front → IsSmall limit s
  small (header.Digits form s v) front h = rw h.value at (small_digits form limit s front h.digits h.within)
  small _ front h = tt
