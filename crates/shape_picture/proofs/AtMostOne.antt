-- A file spells at most one picture or has at most one fault, and not both: each answer is read off one state.
-- The law's second half, which the machine of `Machine` decides.
use Rattle.std.proofs.Common.{◌≡◌, ℕ, zero, suc, ◌+◌, ◌*◌, ◌<◌, ◌≤◌, Bool, true, false, List, [], ◌∷◌, ◌++◌, length, map, flat_map, take, drop, Some, All, refl}
use Rattle.std.proofs.Common.{sym, ap, ◌∙◌, subst, inl, inr, ⊎_elim, arith}
use Rattle.std.specs.Prelude.{◌||◌, ◌==◌, ◌⊎◌, IsTrue, slice_get}
use Rattle.std.proofs.lemmas.Bool.{cases_lt}
use Rattle.std.proofs.lemmas.Option.{slice_get_within, get_or_from_slice_get}
use Rattle.std.proofs.Math.Seq.{split_at}
use Rattle.std.proofs.lemmas.List.{append_assoc, length-map, length-take-le, length_push, take-append-drop, take-take, take_all, take_at}
use Rattle.std.proofs.lemmas.List.Elements.{All-take, All-same}
use Rattle.shape_terms.specs.Points.{box_count}
use Rattle.shape_terms.specs.Pictures.{Picture}
use Rattle.shape_picture.specs.declared.fault.PictureFault.{PictureFault}
use Rattle.shape_picture.specs.declared.fault.PictureFault.TheVariants as fault
use Rattle.shape_picture.specs.declared.header.Form.{Form}
use Rattle.shape_picture.specs.declared.header.Form.TheVariants.{Plain, Packed}
use Rattle.shape_picture.specs.Pbm.{is_white, pixel_code, holds_pixels, holders, holder_count, row_bytes, row_pixels, number_value, HoldValues, Pbm, PbmFault}
use Rattle.shape_picture.specs.Pbm.{DecidesFault}
use Rattle.shape_picture.proofs.Grammar.{some_pixels, times_one, pixels_of-pixel}
use Rattle.shape_picture.proofs.RowBytes.{same_rows, length-concat, some_bytes}
use Rattle.shape_picture.proofs.ByteSteps.{byte_at}
use Rattle.shape_picture.proofs.Machine.{State, run, state_of, onward, run_full, run_stop, IsOpenState}
use Rattle.shape_picture.proofs.FrontStates.{of_pixel, heading_run, in_raster_run, open_of, decided_step}

-- ---- lists

split_got : (xs : List ℕ) (i c : ℕ) → slice_get xs i ≡ Some c → xs ≡ take i xs ++ c ∷ drop (suc i) xs
split_got xs i c e = split_at xs i c (slice_get_within xs i c e) ∙ ap (λ (x : ℕ). take i xs ++ x ∷ drop (suc i) xs) (get_or_from_slice_get xs i c c e)

record Last (xs : List ℕ) : Type 0 where
  front : List ℕ
  last : ℕ
  is : xs ≡ front ++ last ∷ []

last_of : (x : ℕ) (xs : List ℕ) → Last (x ∷ xs)
last_of x [] = record { front = []; last = x; is = refl }
last_of x (y ∷ xs) = let r = last_of y xs in record { front = x ∷ r.front; last = r.last; is = ap (λ (l : List ℕ). x ∷ l) r.is }

got_last : (xs : List ℕ) (d k c : ℕ) → length xs ≡ k → slice_get (xs ++ d ∷ []) k ≡ Some c → d ≡ c
got_last xs d k c e g = let s : Some d ≡ Some c = sym (byte_at xs [] d) ∙ ap (λ (i : ℕ). slice_get (xs ++ d ∷ []) i) e ∙ g in cc

got_taken : (xs : List ℕ) (k m : ℕ) → k < m → slice_get (take m xs) k ≡ slice_get xs k
got_taken xs k zero l = absurd (omega arith)
got_taken [] k (suc m) l = refl
got_taken (x ∷ xs) zero (suc m) l = refl
got_taken (x ∷ xs) (suc k) (suc m) l = got_taken xs k m (omega arith)

decoded : (xs : List Bool) → map (λ c. c == 49) (map pixel_code xs) ≡ xs
decoded [] = refl
decoded (true ∷ xs) = ap (λ (l : List Bool). true ∷ l) (decoded xs)
decoded (false ∷ xs) = ap (λ (l : List Bool). false ∷ l) (decoded xs)

codes_injective : (xs ys : List Bool) → map pixel_code xs ≡ map pixel_code ys → xs ≡ ys
codes_injective xs ys e = sym (decoded xs) ∙ ap (map (λ c. c == 49)) e ∙ decoded ys

same_by_parts : {R : Type 0} (f : List ℕ → List Bool → R) (a c : List ℕ) (b d : List Bool) → a ≡ c → b ≡ d → f a b ≡ f c d
same_by_parts f a c b d x y = cc

pub same_picture : (X Y : Picture) → X.sides ≡ Y.sides → X.values ≡ Y.values → X ≡ Y
same_picture X Y s c = same_by_parts (λ s c. record { sides = s; values = c }) X.sides Y.sides X.values Y.values s c

-- ---- bytes that hold pixels

-- they hold the values of one picture
same_values : (form : Form) (w h : ℕ) (bytes : List ℕ) (xs ys : List Bool) → HoldValues form w h bytes xs → HoldValues form w h bytes ys → xs ≡ ys
same_values Plain w h bytes xs ys a b = codes_injective xs ys (sym a ∙ b)
same_values Packed w h bytes xs ys a b =
    let rows = same_rows (row_bytes w) a.rows b.rows a.row_length b.row_length (a.as_many ∙ sym b.as_many) (sym a.bytes_are ∙ b.bytes_are) in
    a.values_are ∙ ap (flat_map (row_pixels w)) rows ∙ sym b.values_are

-- how many they are
count_holders : (form : Form) (w h : ℕ) (bytes : List ℕ) (xs : List Bool) → HoldValues form w h bytes xs → length xs ≡ w * h
    → length bytes ≡ holder_count form w h
count_holders Plain w h bytes xs a l = ap length a ∙ length-map xs pixel_code ∙ l
count_holders Packed w h bytes xs a l = ap length a.bytes_are ∙ length-concat (row_bytes w) a.rows a.row_length ∙ ap (λ (n : ℕ). n * row_bytes w) a.as_many

some_holders : (form : Form) (w h : ℕ) → 1 ≤ w → 1 ≤ h → 0 < holder_count form w h
some_holders Plain w h a b = some_pixels w h a b
some_holders Packed w h a b = some_pixels h (row_bytes w) b (some_bytes w a)

holders-push : (form : Form) (raster : List ℕ) (c : ℕ) → holds_pixels form c ≡ true → holders form (raster ++ c ∷ []) ≡ holders form raster ++ c ∷ []
holders-push Plain raster c e = pixels_of-pixel raster c (of_pixel c e).0
holders-push Packed raster c e = refl

last_part : (form : Form) (raster : List ℕ) → 0 < length (holders form raster) → Last raster
last_part Plain [] l = absurd (omega arith)
last_part Packed [] l = absurd (omega arith)
last_part form (x ∷ raster) l = last_of x raster

module _ (limit longest : ℕ) (bytes : List ℕ) where
  -- the state after as many bytes as are looked at
  abbrev end_state : State
  end_state = state_of limit (take longest bytes)

  -- ---- a picture

  -- the bytes of the state hold all pixels of the picture
  record IsWholePicture (X : Picture) (s : State) : Type 0 where
    form : Form
    w : ℕ
    h : ℕ
    held : List ℕ
    is : s ≡ State.AtRaster form false w h held
    full : holder_count form w h ≤ length held
    sides : X.sides ≡ w ∷ h ∷ []
    values : HoldValues form w h held X.values

  whole_holders : (X : Picture) (m : ℕ) (p : Pbm limit longest bytes X m)
      → length (holders p.form p.raster) ≡ holder_count p.form (number_value p.width) (number_value p.height)
  whole_holders X m p =
      count_holders p.form (number_value p.width) (number_value p.height) (holders p.form p.raster) X.values p.values
      (p.filled ∙ ap box_count p.sides ∙ times_one (number_value p.width) (number_value p.height))

  -- from the last byte on
  whole_from : (X : Picture) (m n : ℕ) → Pbm limit longest bytes X m → m ≤ n → IsWholePicture X (state_of limit (take n bytes))
  whole_from X m n p l =
      let e = whole_holders X m p in
      let w = number_value p.width in
      let h = number_value p.height in
      let split : take n bytes ≡ take m bytes ++ drop m (take n bytes) = sym (take-append-drop m (take n bytes))
      ∙ ap (λ (x : List ℕ). x ++ drop m (take n bytes)) (take-take m n bytes l) in
      record {
        form = p.form;
        w = w;
        h = h;
        held = holders p.form p.raster;
        is = ap (state_of limit) split ∙ onward limit (take m bytes) (drop m (take n bytes))
            ∙ ap (λ (s : State). run limit (length (take m bytes)) s (drop m (take n bytes)))
            (in_raster_run limit p.form (take m bytes) p.width p.height p.raster p.front (omega (arith, e)))
            ∙ run_full limit p.form (drop m (take n bytes)) (length (take m bytes)) w h false (holders p.form p.raster) (omega (arith, e));
        full = omega (arith, e);
        sides = p.sides;
        values = p.values;
      }

  whole_not_open : (X : Picture) (s : State) → IsWholePicture X s → IsOpenState limit s → ⊥
  whole_not_open X s h o = let l = subst (IsOpenState limit) h.is o in omega (arith, l, h.full)

  same_whole : (X Y : Picture) (s : State) → IsWholePicture X s → IsWholePicture Y s → X ≡ Y
  same_whole X Y s a b =
      let e : State.AtRaster a.form false a.w a.h a.held ≡ State.AtRaster b.form false b.w b.h b.held = sym a.is ∙ b.is in
      let f : a.form ≡ b.form = cc in
      let w : a.w ≡ b.w = cc in
      let h : a.h ≡ b.h = cc in
      let p : a.held ≡ b.held = cc in
      same_picture X Y (a.sides ∙ rw (w, h) (sym b.sides)) (same_values b.form b.w b.h b.held X.values Y.values (rw (← f, ← w, ← h, ← p) a.values) b.values)

  -- before the last byte
  open_last : (X : Picture) (m : ℕ) (p : Pbm limit longest bytes X m) → IsOpenState limit (state_of limit (take p.last.0 bytes))
  open_last X m p =
      let k = p.last.0 in
      let c = p.last.2.0 in
      let i = p.front in
      let w = number_value p.width in
      let h = number_value p.height in
      let e = whole_holders X m p in
      let some = some_holders p.form w h i.in_height.width_done.value.0 i.height_done.value.0 in
      let r = last_part p.form p.raster (omega (arith, e, some)) in
      let head = i.before ++ i.ending ++ r.front in
      let km : k + 1 ≡ m = p.last.1 in
      let split : take m bytes ≡ head ++ r.last ∷ [] = i.front_is ∙ ap (λ (x : List ℕ). i.before ++ i.ending ++ x) r.is
      ∙ sym (append_assoc (i.before ++ i.ending) r.front (r.last ∷ [])) in
      let within : k < length bytes = slice_get_within bytes k c p.last.2.1 in
      let full : length (take m bytes) ≡ m = length-take-le m bytes (omega (arith, within, km)) in
      let len : length head ≡ k = omega (arith, ap length split, length_push head r.last, full, km) in
      let got : slice_get (head ++ r.last ∷ []) k ≡ Some c = ap (λ (x : List ℕ). slice_get x k) (sym split) ∙ got_taken bytes k m (omega (arith, km))
      ∙ p.last.2.1 in
      let same : r.last ≡ c = got_last head r.last k c len got in
      let holds : holds_pixels p.form r.last ≡ true = rw same p.last.2.2 in
      let before : take k bytes ≡ head = sym (take-take k m bytes (omega (arith, km))) ∙ ap (take k) split ∙ take_at head (r.last ∷ []) k len in
      let held : holders p.form p.raster ≡ holders p.form r.front ++ r.last ∷ [] = ap (holders p.form) r.is ∙ holders-push p.form r.front r.last holds in
      let one_less : length (holders p.form r.front) + 1 ≡ holder_count p.form w h = sym (length_push (holders p.form r.front) r.last) ∙ sym (ap length held)
      ∙ e in
      let P = λ (c : ℕ). IsTrue (holds_pixels p.form c || is_white c) in
      let all : All P r.front = All-same P r.front (take (length r.front) p.raster)
      (sym (ap (take (length r.front)) r.is ∙ take_at r.front (r.last ∷ []) (length r.front) refl)) (All-take P (length r.front) p.raster i.bytes) in
      let state : state_of limit (take k bytes) ≡ State.AtRaster p.form false w h (holders p.form r.front) = ap (state_of limit) before
      ∙ heading_run limit p.form i.before p.width p.height i.ending r.front i.in_height i.height_done i.ends_header all (omega (arith, one_less)) in
      let less : length (holders p.form r.front) < holder_count p.form w h = omega (arith, one_less) in
      subst (IsOpenState limit) (sym state) less

  -- ---- a fault

  abbrev Ends : PictureFault → Type 0
  Ends f = (end_state ≡ State.AtFault f)
      ⊎ (IsOpenState limit end_state × (((length bytes < longest) × (f ≡ fault.Short (length bytes))) ⊎ ((longest ≤ length bytes) × (f ≡ fault.TooLong))))

  decided_end : (i c : ℕ) (f : PictureFault) → i < longest → slice_get bytes i ≡ Some c → DecidesFault limit (take i bytes) c f → end_state ≡ State.AtFault f
  decided_end i c f l g d =
      let r = split_got (take longest bytes) i c (got_taken bytes i longest l ∙ g) in
      let t : take i (take longest bytes) ≡ take i bytes = take-take i longest bytes (omega arith) in
      let rest = drop (suc i) (take longest bytes) in
      ap (state_of limit) (r ∙ ap (λ (x : List ℕ). x ++ c ∷ rest) t) ∙ onward limit (take i bytes) (c ∷ rest)
      ∙ ap (λ (s : State). run limit (length (take i bytes) + 1) s rest) (decided_step limit (take i bytes) c f d)
      ∙ run_stop limit rest (length (take i bytes) + 1) f

  ends : (f : PictureFault) → PbmFault limit longest bytes f → Ends f
  ends (fault.Short n) (e, l, u) =
      let t : take longest bytes ≡ bytes = take_all longest bytes (omega arith) in
      inr (rw t (open_of limit bytes u), inl (omega arith, ap fault.Short e))
  ends fault.TooLong (l, u) = inr (open_of limit (take longest bytes) u, inr (l, refl))
  ends f p = inl (decided_end p.0 p.1 f p.2 p.3 p.4)

  -- ---- the laws

  pub one_picture : (X Y : Picture) (m n : ℕ) → Pbm limit longest bytes X m → Pbm limit longest bytes Y n → X ≡ Y
  one_picture X Y m n p q = same_whole X Y end_state (whole_from X m longest p p.short) (whole_from Y n longest q q.short)

  not_later : (X Y : Picture) (m n : ℕ) → Pbm limit longest bytes X m → Pbm limit longest bytes Y n → m < n → ⊥
  not_later X Y m n p q l =
      let k = q.last.0 in
      whole_not_open X (state_of limit (take k bytes)) (whole_from X m k p (omega (arith, q.last.1))) (open_last Y n q)

  pub one_length : (X Y : Picture) (m n : ℕ) → Pbm limit longest bytes X m → Pbm limit longest bytes Y n → m ≡ n
  one_length X Y m n p q =
      ⊎_elim (λ l. absurd (not_later X Y m n p q l)) (λ l. ⊎_elim (λ k. absurd (not_later Y X n m q p k)) (λ k. omega arith) (cases_lt n m)) (cases_lt m n)

  pub not_both : (X : Picture) (m : ℕ) (f : PictureFault) → Pbm limit longest bytes X m → PbmFault limit longest bytes f → ⊥
  not_both X m f p g =
      let w = whole_from X m longest p p.short in
      ⊎_elim (λ e. let k : State.AtRaster w.form false w.w w.h w.held ≡ State.AtFault f = sym w.is ∙ e in cc) (λ o. whole_not_open X end_state w o.0) (ends f g)

  same_fault : (f g : PictureFault) → Ends f → Ends g → f ≡ g
  same_fault f g (inl a) (inl b) = let e : State.AtFault f ≡ State.AtFault g = sym a ∙ b in cc
  same_fault f g (inl a) (inr b) = absurd (subst (IsOpenState limit) a b.0)
  same_fault f g (inr a) (inl b) = absurd (subst (IsOpenState limit) b a.0)
  same_fault f g (inr (o, inl a)) (inr (p, inl b)) = a.1 ∙ sym b.1
  same_fault f g (inr (o, inl a)) (inr (p, inr b)) = absurd (omega (arith, a.0, b.0))
  same_fault f g (inr (o, inr a)) (inr (p, inl b)) = absurd (omega (arith, a.0, b.0))
  same_fault f g (inr (o, inr a)) (inr (p, inr b)) = a.1 ∙ sym b.1

  pub one_fault : (f g : PictureFault) → PbmFault limit longest bytes f → PbmFault limit longest bytes g → f ≡ g
  one_fault f g a b = same_fault f g (ends f a) (ends g b)
