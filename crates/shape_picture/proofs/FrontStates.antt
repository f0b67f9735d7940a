-- The state that each front of the grammar leads to, and the fault that each byte that decides leads to.
-- Used by the law alone.
use Rattle.std.proofs.Common.{◌≡◌, ◌≢◌, ℕ, zero, suc, ◌+◌, ◌-◌, ◌*◌, ◌<◌, ◌≤◌, true, false, eqb, List, [], ◌∷◌, ◌++◌, length, take, Some, Err, All, refl, sym}
use Rattle.std.proofs.Common.{ap, ◌∙◌, subst, inl, inr, ⊎_elim, arith}
use Rattle.std.specs.Prelude.{◌||◌, ◌&&◌, ◌==◌, IsTrue, slice_get}
use Rattle.std.proofs.lemmas.Bool.{cases_Bool, cases_lt, eqb-true, ne_eqb, or_cases, or_parts, lt-ltb, and_from, and_left, and_right, false≢true, eq-eqb}
use Rattle.std.proofs.lemmas.List.{append_assoc, append-nil, length-append}
use Rattle.std.proofs.lemmas.List.Elements.{All-head, All-tail}
use Rattle.shape_picture.specs.declared.fault.PictureFault.{PictureFault}
use Rattle.shape_picture.specs.declared.fault.PictureFault.TheVariants as fault
use Rattle.shape_picture.specs.declared.header.Form.{Form}
use Rattle.shape_picture.specs.declared.header.Form.TheVariants.{Plain, Packed}
use Rattle.shape_picture.specs.declared.header.Side.{Side}
use Rattle.shape_picture.specs.declared.header.Side.TheVariants as side
use Rattle.shape_picture.specs.declared.header.Coming.{Coming}
use Rattle.shape_picture.specs.declared.header.Coming.TheVariants as coming
use Rattle.shape_picture.specs.declared.header.Header.TheVariants as header
use Rattle.shape_picture.specs.Pbm.{is_white, is_line_end, is_pixel, is_stop, magic, holds_pixels, holders, holder_count, pixels_of, IsDigit, EndsHeader}
use Rattle.shape_picture.specs.Pbm.{IsSide, IsInHeight, IsInRaster, IsBehindHeight, IsInSide, IsUnfinished, IsUnfinishedBy, MayComment, IsMisplaced}
use Rattle.shape_picture.specs.Pbm.{number_value, DecidesFault, IsWrongMagic}
use Rattle.shape_picture.specs.Header.{is_digit, before_side, after_side, digit_step}
use Rattle.shape_picture.proofs.Grammar.{some_pixels, number_value-push}
use Rattle.shape_picture.proofs.HeaderSteps.{digit_is}
use Rattle.shape_picture.proofs.Machine.{State, state_step, full_step, run, state_of, side_state, comment_state, OpensGap, onward, magic_run, width_run}
use Rattle.shape_picture.proofs.Machine.{height_run, ending_run, comments_run, side_to, magic_to, gap_to, behind_to, text_run, digit_yes, white_not_digit}
use Rattle.shape_picture.proofs.Machine.{IsOpenState}

pub of_pixel : (c : ℕ) → is_pixel c ≡ true → (is_white c ≡ false) × (eqb c 35 ≡ false)
of_pixel c e =
    ⊎_elim (λ a. let f : c ≡ 48 = eqb-true c 48 a in rw f (refl, refl)) (λ a. let f : c ≡ 49 = eqb-true c 49 a in rw f (refl, refl))
    (or_cases (c == 48) (c == 49) e)

module _ (limit : ℕ) where
  pixel_step : (at w h : ℕ) (px : List ℕ) (c : ℕ) → length px < w * h → is_pixel c ≡ true
      → state_step limit at (State.AtRaster Plain false w h px) c ≡ State.AtRaster Plain false w h (px ++ c ∷ [])
  pixel_step at w h px c l p = rw (lt-ltb (length px) (w * h) l, (of_pixel c p).0, and_right (eqb (length px) 0) (eqb c 35) (of_pixel c p).1, p) refl

  white_step : (at w h : ℕ) (px : List ℕ) (c : ℕ) → is_white c ≡ true
      → state_step limit at (State.AtRaster Plain false w h px) c ≡ State.AtRaster Plain false w h px
  white_step at w h px c e = ⊎_elim (λ l. rw (lt-ltb (length px) (w * h) l, e) refl) (λ l. full_step limit Plain at c w h false px l)
      (cases_lt (length px) (w * h))

  pixels_run : (w h at : ℕ) (px raster : List ℕ) → All (λ c. IsTrue (is_pixel c || is_white c)) raster → length px + length (pixels_of raster) ≤ w * h
      → run limit at (State.AtRaster Plain false w h px) raster ≡ State.AtRaster Plain false w h (px ++ pixels_of raster)
  pixels_run w h at px [] a l = ap (λ (p : List ℕ). State.AtRaster Plain false w h p) (sym (append-nil px))
  pixels_run w h at px (c ∷ raster) a l =
      let P = λ (c : ℕ). IsTrue (is_pixel c || is_white c) in
      let tail = All-tail P c raster a in
      ⊎_elim
      (λ e. let less : length px + length (pixels_of raster) ≤ w * h = rw e at l in
      rw (white_step at w h px c e, e) (pixels_run w h (at + 1) px raster tail less))
      (λ e.
      let p : is_pixel c ≡ true = ⊎_elim (λ x. x) (λ x. absurd (false≢true (sym e ∙ x))) (or_cases (is_pixel c) (is_white c) (All-head P c raster a)) in
      let less : length px + length (c ∷ pixels_of raster) ≤ w * h = rw e at l in
      rw (pixel_step at w h px c (omega arith) p, e)
      (pixels_run w h (at + 1) (px ++ c ∷ []) raster tail (omega (arith, length-append px (c ∷ [])))
      ∙ ap (λ (p : List ℕ). State.AtRaster Plain false w h p) (append_assoc px (c ∷ []) (pixels_of raster))))
      (cases_Bool (is_white c))

  rows_run : (w h at : ℕ) (px raster : List ℕ) → length px + length raster ≤ holder_count Packed w h
      → run limit at (State.AtRaster Packed false w h px) raster ≡ State.AtRaster Packed false w h (px ++ raster)
  rows_run w h at px [] l = ap (λ (p : List ℕ). State.AtRaster Packed false w h p) (sym (append-nil px))
  rows_run w h at px (c ∷ raster) l =
      let t = holder_count Packed w h in
      rw (lt-ltb (length px) t (omega arith))
      (rows_run w h (at + 1) (px ++ c ∷ []) raster (omega (arith, length-append px (c ∷ [])))
      ∙ ap (λ (p : List ℕ). State.AtRaster Packed false w h p) (append_assoc px (c ∷ []) raster))

  -- some bytes of a raster from its first on
  raster_run : (form : Form) (w h at : ℕ) (raster : List ℕ) → All (λ c. IsTrue (holds_pixels form c || is_white c)) raster
      → length (holders form raster) ≤ holder_count form w h
      → run limit at (State.AtRaster form false w h []) raster ≡ State.AtRaster form false w h (holders form raster)
  raster_run Plain w h at raster a l = pixels_run w h at [] raster a (omega (arith, l))
  raster_run Packed w h at raster a l = rows_run w h at [] raster (omega (arith, l))

  -- a header, what ends it and some bytes of the raster
  pub heading_run : (form : Form) (before width height ending raster : List ℕ) → IsInHeight form limit before width height → IsSide limit height
      → EndsHeader form ending → All (λ c. IsTrue (holds_pixels form c || is_white c)) raster
      → length (holders form raster) ≤ holder_count form (number_value width) (number_value height)
      → state_of limit (before ++ ending ++ raster) ≡ State.AtRaster form false (number_value width) (number_value height) (holders form raster)
  heading_run form before width height ending raster i d g a l =
      let w = number_value width in
      let h = number_value height in
      let some = some_pixels w h i.width_done.value.0 d.value.0 in
      onward limit (before ++ ending) raster
      ∙ ap (λ (s : State). run limit (length (before ++ ending)) s raster)
      (onward limit before ending ∙ ap (λ (s : State). run limit (length before) s ending) (height_run limit form before width height i)
      ∙ ending_run limit form w h (side_state limit form (side.Height w) height) ending (length before) some (side_to limit form (side.Height w) height d) g)
      ∙ raster_run form w h (length (before ++ ending)) raster a l

  pub in_raster_run : (form : Form) (front width height raster : List ℕ) → IsInRaster form limit front width height raster
      → length (holders form raster) ≤ holder_count form (number_value width) (number_value height)
      → state_of limit front ≡ State.AtRaster form false (number_value width) (number_value height) (holders form raster)
  in_raster_run form front width height raster h l =
      rw h.front_is (heading_run form h.before width height h.ending raster h.in_height h.height_done h.ends_header h.bytes l)

  -- where comments behind the height end
  behind_run : (form : Form) (front width height : List ℕ) → IsBehindHeight form limit front width height
      → state_of limit front ≡ comment_state form (coming.Raster (number_value width) (number_value height))
  behind_run Plain front width height h = in_raster_run Plain front width height [] h (omega arith)
  behind_run Packed front width height h =
      let w = number_value width in
      let k = number_value height in
      let i = h.in_height in
      let some = some_pixels w k i.width_done.value.0 h.height_done.value.0 in
      rw h.front_is
      (onward limit h.before h.comments ∙ ap (λ (s : State). run limit (length h.before) s h.comments) (height_run limit Packed h.before width height i)
      ∙ comments_run limit Packed (coming.Raster w k) (side_state limit Packed (side.Height w) height) h.comments (length h.before)
      (behind_to limit Packed w k some) (side_to limit Packed (side.Height w) height h.height_done) h.are_comments)

  -- what is behind the height has sides
  behind_sides : (form : Form) (front width height : List ℕ) → IsBehindHeight form limit front width height → 0 < number_value width * number_value height
  behind_sides Plain front width height h = some_pixels (number_value width) (number_value height) h.in_height.width_done.value.0 h.height_done.value.0
  behind_sides Packed front width height h = some_pixels (number_value width) (number_value height) h.in_height.width_done.value.0 h.height_done.value.0

  -- ---- what the state says of a file

  -- where a side's digits end
  in_side_run : (form : Form) (front digits : List ℕ) → IsInSide form limit front digits → (s : Side) × (state_of limit front ≡ side_state limit form s digits)
  in_side_run form front digits (inl h) = (side.Width, width_run limit form front digits h)
  in_side_run form front digits (inr (width, h)) = (side.Height (number_value width), height_run limit form front width digits h)

  head_open : (form : Form) (s : Side) (digits : List ℕ) → IsOpenState limit (side_state limit form s digits)
  head_open form s [] = tt
  head_open form s (d ∷ ds) = tt

  behind_open : (form : Form) (w h : ℕ) → 0 < w * h → IsOpenState limit (comment_state form (coming.Raster w h))
  behind_open Plain w h l = l
  behind_open Packed w h l = tt

  -- a comment may follow
  may_opens : (form : Form) (front : List ℕ) → MayComment form limit front → (t : Coming) × OpensGap limit form t (state_of limit front)
  may_opens form front (MayComment.behind_magic e) =
      (coming.Width, subst (OpensGap limit form coming.Width) (sym (ap (state_of limit) e ∙ magic_run limit form)) (magic_to limit form))
  may_opens form front (MayComment.in_gap h) = let r = in_side_run form front [] h in
      (before_side r.0, subst (OpensGap limit form (before_side r.0)) (sym r.1) (gap_to limit form r.0))
  may_opens form front (MayComment.behind_side digits h d) =
      let r = in_side_run form front digits h in
      (after_side r.0 (number_value digits), subst (OpensGap limit form (after_side r.0 (number_value digits))) (sym r.1) (side_to limit form r.0 digits d))
  may_opens form front (MayComment.behind_height width height h) =
      let t = coming.Raster (number_value width) (number_value height) in (
        t,
        subst (OpensGap limit form t) (sym (behind_run form front width height h))
            (behind_to limit form (number_value width) (number_value height) (behind_sides form front width height h)),
      )

  comment_open : (form : Form) (front text : List ℕ) → MayComment form limit front → All (λ b. is_line_end b ≡ false) text
      → IsOpenState limit (state_of limit (front ++ 35 ∷ text))
  comment_open form front text m a =
      let o = may_opens form front m in
      let k = o.1.hash (length front) in
      subst (IsOpenState limit)
      (sym (onward limit front (35 ∷ text) ∙ text_run limit form o.0 (state_step limit (length front) (state_of limit front) 35) text (length front + 1) k.0
      a)) k.1

  open_by : (form : Form) (front : List ℕ) → IsUnfinishedBy form limit front → IsOpenState limit (state_of limit front)
  open_by form front (IsUnfinishedBy.in_magic zero l e) = rw e tt
  open_by form front (IsUnfinishedBy.in_magic (suc zero) l e) = rw e tt
  open_by form front (IsUnfinishedBy.in_magic (suc (suc zero)) l e) = subst (IsOpenState limit) (sym (ap (state_of limit) e ∙ magic_run limit form)) tt
  open_by form front (IsUnfinishedBy.in_magic (suc (suc (suc k))) l e) = absurd (omega arith)
  open_by form front (IsUnfinishedBy.in_side digits h) = let r = in_side_run form front digits h in
      subst (IsOpenState limit) (sym r.1) (head_open form r.0 digits)
  open_by form front (IsUnfinishedBy.behind_height width height h) =
      subst (IsOpenState limit) (sym (behind_run form front width height h))
      (behind_open form (number_value width) (number_value height) (behind_sides form front width height h))
  open_by form front (IsUnfinishedBy.in_picture raster (width, height, h, l)) =
      subst (IsOpenState limit) (sym (in_raster_run form front width height raster h (omega (arith, l)))) l
  open_by form front (IsUnfinishedBy.in_comment h) = rw h.front_is (comment_open form h.before h.text h.may h.no_end)

  pub open_of : (front : List ℕ) → IsUnfinished limit front → IsOpenState limit (state_of limit front)
  open_of front u = open_by u.0 front u.1

  -- ---- a byte that decides

  digit_no : (c : ℕ) → (IsDigit c → ⊥) → is_digit c ≡ false
  digit_no c h = ⊎_elim (λ e. absurd (h (digit_is c e))) (λ e. e) (cases_Bool (is_digit c))

  stop_not_digit : (c : ℕ) → is_stop c ≡ true → is_digit c ≡ false
  stop_not_digit c e = ⊎_elim (λ w. white_not_digit c w) (λ k. let f : c ≡ 35 = eqb-true c 35 k in rw f refl) (or_cases (is_white c) (c == 35) e)

  bad_step : (form : Form) (s : Side) (digits : List ℕ) (at c : ℕ) → is_digit c ≡ false → is_stop c ≡ false
      → state_step limit at (side_state limit form s digits) c ≡ State.AtFault (fault.BadNumber at)
  bad_step form s [] at c d t = let p = or_parts (is_white c) (c == 35) t in rw (d, p.0, p.1) refl
  bad_step form s (x ∷ xs) at c d t =
      let p = or_parts (is_white c) (c == 35) t in
      rw (d, and_right (eqb (number_value (x ∷ xs)) 0) (is_stop c) t, p.0, p.1) refl

  zero_step : (form : Form) (s : Side) (digits : List ℕ) (at c : ℕ) → 0 < length digits → number_value digits ≡ 0 → is_stop c ≡ true
      → state_step limit at (side_state limit form s digits) c ≡ State.AtFault fault.ZeroSide
  zero_step form s [] at c l z t = absurd (omega arith)
  zero_step form s (x ∷ xs) at c l z t = rw (stop_not_digit c t, and_from (eqb (number_value (x ∷ xs)) 0) (is_stop c) (eq-eqb (number_value (x ∷ xs)) 0 z) t)
      refl

  large_digit : (form : Form) (s : Side) (v c n : ℕ) → n ≡ v * 10 + (c - 48) → limit < n → digit_step form limit s v c ≡ Err (fault.SideTooLarge n)
  large_digit form s v c n e l =
      let k : limit < v * 10 + (c - 48) = omega arith in
      rw (lt-ltb limit (v * 10 + (c - 48)) k) (ap (λ (i : ℕ). Err (fault.SideTooLarge i)) (sym e))

  large_step : (form : Form) (s : Side) (digits : List ℕ) (at c n : ℕ) → IsDigit c → n ≡ number_value (digits ++ c ∷ []) → limit < n
      → state_step limit at (side_state limit form s digits) c ≡ State.AtFault (fault.SideTooLarge n)
  large_step form s [] at c n d e l = rw (digit_yes c d, large_digit form s 0 c n e l) refl
  large_step form s (x ∷ xs) at c n d e l =
      rw (digit_yes c d, large_digit form s (number_value (x ∷ xs)) c n (e ∙ number_value-push (x ∷ xs) c) l) refl

  -- where there is no pixel yet, the raster has no byte
  none_yet : (raster : List ℕ) → ((c : ℕ) → slice_get raster 0 ≡ Some c → IsTrue (is_pixel c)) → length (pixels_of raster) ≡ 0 → raster ≡ []
  none_yet [] b e = refl
  none_yet (x ∷ raster) b e =
      let k : is_white x ≡ false = (of_pixel x (b x refl)).0 in
      let n : suc (length (pixels_of raster)) ≡ 0 = rw k at e in absurd (omega arith)

  byte_step : (at c : ℕ) (w h : ℕ) (raster : List ℕ) → ((c : ℕ) → slice_get raster 0 ≡ Some c → IsTrue (is_pixel c)) → length (pixels_of raster) < w * h
      → (raster ≡ [] → c ≢ 35) → (is_pixel c || is_white c) ≡ false
      → state_step limit at (State.AtRaster Plain false w h (pixels_of raster)) c ≡ State.AtFault (fault.BadByte at)
  byte_step at c w h raster b l hash e =
      let p = or_parts (is_pixel c) (is_white c) e in
      let n = length (pixels_of raster) in
      let none : (eqb n 0 && eqb c 35) ≡ false =
      ⊎_elim (λ z. and_right (eqb n 0) (eqb c 35) (ne_eqb c 35 (hash (none_yet raster b (eqb-true n 0 z))))) (λ z. and_left (eqb n 0) (eqb c 35) z)
      (cases_Bool (eqb n 0)) in
      rw (lt-ltb (length (pixels_of raster)) (w * h) l, p.1, none, p.0) refl

  closing_step : (w h at c : ℕ) → is_stop c ≡ false → state_step limit at (State.AtHeader (header.Closing w h)) c ≡ State.AtFault (fault.BadNumber at)
  closing_step w h at c t = let p = or_parts (is_white c) (c == 35) t in rw (p.0, p.1) refl

  behind_magic_step : (form : Form) (c : ℕ) → is_stop c ≡ false → state_step limit 2 (State.AtHeader (header.Magic form)) c ≡ State.AtFault fault.NotPlain
  behind_magic_step form c t = let p = or_parts (is_white c) (c == 35) t in rw (p.0, p.1) refl

  magic_step : (form : Form) (front : List ℕ) (c : ℕ) → front ≡ take (length front) (magic form) → IsWrongMagic (length front) c
      → state_step limit (length front) (state_of limit front) c ≡ State.AtFault fault.NotPlain
  magic_step form [] c e w = rw (ne_eqb c 80 w) refl
  magic_step form (x ∷ []) c e w = let k : x ≡ 80 = cc in rw (k, ne_eqb c 49 (w Plain), ne_eqb c 52 (w Packed)) refl
  magic_step form (x ∷ y ∷ []) c e w = ap (λ (s : State). state_step limit 2 s c) (ap (state_of limit) e ∙ magic_run limit form) ∙ behind_magic_step form c w
  magic_step form (x ∷ y ∷ z ∷ zs) c e w = absurd w

  misplaced_step : (front : List ℕ) (c : ℕ) → IsMisplaced limit front c
      → state_step limit (length front) (state_of limit front) c ≡ State.AtFault (fault.BadNumber (length front))
  misplaced_step front c (IsMisplaced.in_side form digits h t n) =
      let r = in_side_run form front digits h in
      ap (λ (s : State). state_step limit (length front) s c) r.1 ∙ bad_step form r.0 digits (length front) c (digit_no c n) t
  misplaced_step front c (IsMisplaced.behind_comments width height h t) =
      ap (λ (s : State). state_step limit (length front) s c) (behind_run Packed front width height h)
      ∙ closing_step (number_value width) (number_value height) (length front) c t

  pub decided_step : (front : List ℕ) (c : ℕ) (f : PictureFault) → DecidesFault limit front c f
      → state_step limit (length front) (state_of limit front) c ≡ State.AtFault f
  decided_step front c fault.NotPlain (form, e, w) = magic_step form front c e w
  decided_step front c (fault.BadNumber i) (e, m) = misplaced_step front c m ∙ ap (λ (k : ℕ). State.AtFault (fault.BadNumber k)) (sym e)
  decided_step front c fault.ZeroSide (form, digits, h, l, z, t) =
      let r = in_side_run form front digits h in
      ap (λ (s : State). state_step limit (length front) s c) r.1 ∙ zero_step form r.0 digits (length front) c l z t
  decided_step front c (fault.SideTooLarge n) (form, digits, h, d, e, l) =
      let r = in_side_run form front digits h in
      ap (λ (s : State). state_step limit (length front) s c) r.1 ∙ large_step form r.0 digits (length front) c n d e l
  decided_step front c (fault.BadByte i) (e, (raster, (width, height, h, l), hash), k) =
      ap (λ (s : State). state_step limit (length front) s c) (in_raster_run Plain front width height raster h (omega (arith, l)))
      ∙ byte_step (length front) c (number_value width) (number_value height) raster h.begins l hash k ∙ ap (λ (n : ℕ). State.AtFault (fault.BadByte n)) (sym e)
  decided_step front c (fault.Short i) d = absurd d
  decided_step front c fault.TooLong d = absurd d
  decided_step front c fault.Trailing d = absurd d
