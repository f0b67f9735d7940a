-- Rows of bytes and the pixels that their bits are: facts of lists and numbers.
-- A byte more makes a row go on, or makes it whole so that the next begins.
use Rattle.std.proofs.Common.{◌≡◌, ℕ, zero, suc, ◌+◌, ◌-◌, ◌*◌, ◌/◌, ◌%◌, ◌<◌, ◌≤◌, min, false, List, [], ◌∷◌, ◌++◌, length, get_or, take, drop, All, flat_map}
use Rattle.std.proofs.Common.{refl, sym, ap, ◌∙◌, ⊎_elim, arith}
use Rattle.std.specs.Prelude.{◌==◌}
use Rattle.std.specs.List.{concat}
use Rattle.std.specs.Int.{bit_at}
use Rattle.std.proofs.Math.Nat.{mul_comm, mod-lt}
use Rattle.std.proofs.Math.Seq.{take-append-add}
use Rattle.std.proofs.lemmas.Bool.{cases_lt}
use Rattle.std.proofs.lemmas.Nat.{mul-le, mod-mul-add, div-mul-add, div-add-mod'}
use Rattle.std.proofs.lemmas.Grind.{div_ceil_times, flat_map-append}
use Rattle.std.proofs.lemmas.List.{append_assoc, append-nil, length-append, length_push, take_at, drop_at}
use Rattle.std.proofs.lemmas.List.Elements.{All-head, All-tail, All-push}
use Rattle.std.proofs.lemmas.List.Folds.{concat-append}
use Rattle.shape_picture.specs.Pbm.{bits_of, row_bytes, row_pixels}

-- ---- numbers

-- places in a table of h rows of w
pub less_rows : (a w b h n : ℕ) → n ≡ a * w + b → n < w * h → a < h
less_rows a w b h n e l =
    ⊎_elim (λ k. k) (λ k. let m = mul-le h w a w k (omega arith) in let c = mul_comm w h in absurd (omega (arith, e, l, m, c))) (cases_lt a h)

pub whole_rows : (a w b h : ℕ) → b < w → a * w + b ≡ w * h → (a ≡ h) × (b ≡ 0)
whole_rows a w b h l e =
    let f : a * w + b ≡ h * w + 0 = e ∙ (let c : w * h ≡ h * w + 0 = grind arith in c) in
    let k : 0 < w = omega arith in
    (sym (div-mul-add a w b l) ∙ ap (λ (n : ℕ). n / w) f ∙ div-mul-add h w 0 k, sym (mod-mul-add a w b l) ∙ ap (λ (n : ℕ). n % w) f ∙ mod-mul-add h w 0 k)

-- the pixels of the next byte of a row are within the table
pub room_left : (w h n : ℕ) → 1 ≤ w → n < w * h → n + min (w - n % w) 8 ≤ w * h
room_left w h n k l =
    let d : n / w * w + n % w ≡ n = div-add-mod' n w in
    let r : n % w < w = mod-lt n k in
    let q : n / w < h = less_rows (n / w) w (n % w) h n (sym d) l in
    let m : (n / w + 1) * w ≤ h * w = mul-le (n / w + 1) w h w (omega (arith, q)) (omega arith) in
    by_parts (n / w) (n % w) d r (let k : w * h ≡ h * w = mul_comm w h in let s : (n / w + 1) * w ≤ w * h = omega (arith, m, k) in s)
  where
    by_parts : (a b : ℕ) → a * w + b ≡ n → b < w → (a + 1) * w ≤ w * h → n + min (w - b) 8 ≤ w * h
    by_parts a b d r m = let s : (a + 1) * w ≡ a * w + w = grind arith in omega (arith, d, r, m, s)

next_place : (a b w p : ℕ) → b + p ≡ w → (a + 1) * w + 0 * 8 ≡ (a * w + b) + p
next_place a b w p e = grind arith

between : (w r j : ℕ) → w ≤ r * 8 → r * 8 < w + 8 → j * 8 < w → w ≤ j * 8 + 8 → r ≡ j + 1
between w r j a b l m = omega arith

-- ---- bits

pub bit_is : (c i : ℕ) → i < 8 → (bit_at c (7 - i) == 1) ≡ get_or (bits_of c) i false
bit_is c zero l = refl
bit_is c (suc zero) l = refl
bit_is c (suc (suc zero)) l = refl
bit_is c (suc (suc (suc zero))) l = refl
bit_is c (suc (suc (suc (suc zero)))) l = refl
bit_is c (suc (suc (suc (suc (suc zero))))) l = refl
bit_is c (suc (suc (suc (suc (suc (suc zero)))))) l = refl
bit_is c (suc (suc (suc (suc (suc (suc (suc zero))))))) l = refl
bit_is c (suc (suc (suc (suc (suc (suc (suc (suc i)))))))) l = absurd (omega arith)

length-bits : (row : List ℕ) → length (flat_map bits_of row) ≡ length row * 8
length-bits [] = refl
length-bits (c ∷ row) = let k = length-bits row in omega (arith, length-append (bits_of c) (flat_map bits_of row), k)

flat_map-push : {X A : Type 0} (f : X → List A) (xs : List X) (x : X) → flat_map f (xs ++ x ∷ []) ≡ flat_map f xs ++ f x
flat_map-push f xs x = flat_map-append f xs (x ∷ []) ∙ ap (λ l. flat_map f xs ++ l) (append-nil (f x))

-- ---- rows

-- all rows are of this length
abbrev pub AreLong : ℕ → List (List ℕ) → Type 0
AreLong k rows = All (λ row. length row ≡ k) rows

pub length-concat : (k : ℕ) (rows : List (List ℕ)) → AreLong k rows → length (concat rows) ≡ length rows * k
length-concat k [] a = omega arith
length-concat k (row ∷ rows) a =
    let m = length-concat k rows (All-tail (λ row. length row ≡ k) row rows a) in
    let n : length row ≡ k = All-head (λ row. length row ≡ k) row rows a in
    length-append row (concat rows) ∙ by_numbers (length row) (length (concat rows)) (length rows) n m
  where
    by_numbers : (a b r : ℕ) → a ≡ k → b ≡ r * k → a + b ≡ suc r * k
    by_numbers a b r e f = grind arith

-- rows of one length are those of their bytes alone
pub same_rows : (k : ℕ) (xs ys : List (List ℕ)) → AreLong k xs → AreLong k ys → length xs ≡ length ys → concat xs ≡ concat ys → xs ≡ ys
same_rows k [] [] a b l e = refl
same_rows k [] (y ∷ ys) a b l e = absurd (omega arith)
same_rows k (x ∷ xs) [] a b l e = absurd (omega arith)
same_rows k (x ∷ xs) (y ∷ ys) a b l e =
    let P = λ (row : List ℕ). length row ≡ k in
    let m : length x ≡ k = All-head P x xs a in
    let n : length y ≡ k = All-head P y ys b in
    let head : x ≡ y = sym (take_at x (concat xs) k m) ∙ ap (take k) e ∙ take_at y (concat ys) k n in
    let tail : concat xs ≡ concat ys = sym (drop_at x (concat xs) k m) ∙ ap (drop k) e ∙ drop_at y (concat ys) k n in
    let rest = same_rows k xs ys (All-tail P x xs a) (All-tail P y ys b) (omega arith) tail in
    rw (head, rest) refl

-- a row has a byte
pub some_bytes : (w : ℕ) → 1 ≤ w → 1 ≤ row_bytes w
some_bytes w l = let d = div_ceil_times w 8 (omega arith) in by_number (row_bytes w) d.0
  where
    by_number : (r : ℕ) → w ≤ r * 8 → 1 ≤ r
    by_number r d = omega arith

-- a row that has more pixels than so many bytes hold has more bytes
pub row_longer : (w j : ℕ) → j * 8 < w → j < row_bytes w
row_longer w j l = let d = div_ceil_times w 8 (omega arith) in by_number (row_bytes w) d.0
  where
    by_number : (r : ℕ) → w ≤ r * 8 → j < r
    by_number r d = omega arith

-- ---- a byte more

-- the rows and the bytes of the row begun once the byte c is added, of whose bits the first p are pixels
pub record RowGoesOn (w : ℕ) (rows : List (List ℕ)) (row : List ℕ) (c p : ℕ) : Type 0 where
  pub next_rows : List (List ℕ)
  pub next_row : List ℕ
  pub bytes : concat next_rows ++ next_row ≡ (concat rows ++ row) ++ c ∷ []
  pub row_length : AreLong (row_bytes w) next_rows
  pub begun : length next_row * 8 < w
  pub place : length next_rows * w + length next_row * 8 ≡ (length rows * w + length row * 8) + p
  pub pixels : flat_map (row_pixels w) next_rows ++ flat_map bits_of next_row ≡ (flat_map (row_pixels w) rows ++ flat_map bits_of row) ++ take p (bits_of c)

module _ (w : ℕ) (rows : List (List ℕ)) (row : List ℕ) (c p : ℕ) where
  row_more : AreLong (row_bytes w) rows → p ≡ 8 → length row * 8 + 8 < w → RowGoesOn w rows row c p
  row_more a e l = record {
    next_rows = rows;
    next_row = row ++ c ∷ [];
    bytes = sym (append_assoc (concat rows) row (c ∷ []));
    row_length = a;
    begun = omega (arith, length_push row c);
    place = omega (arith, length_push row c, e);
    pixels = ap (λ l. flat_map (row_pixels w) rows ++ l) (flat_map-push bits_of row c)
        ∙ sym (append_assoc (flat_map (row_pixels w) rows) (flat_map bits_of row) (bits_of c)) ∙ rw e refl;
  }

  row_done : AreLong (row_bytes w) rows → length row * 8 + p ≡ w → length row * 8 < w → w ≤ length row * 8 + 8 → RowGoesOn w rows row c p
  row_done a e l m =
      let r = row ++ c ∷ [] in
      let d = div_ceil_times w 8 (omega arith) in
      let long : length r ≡ row_bytes w = length_push row c ∙ sym (between w (row_bytes w) (length row) d.0 d.1 l m) in
      let B = flat_map bits_of row in
      let n : w ≡ length B + p = sym e ∙ ap (λ (n : ℕ). n + p) (sym (length-bits row)) in
      let whole : row_pixels w r ≡ B ++ take p (bits_of c) = ap (take w) (flat_map-push bits_of row c) ∙ ap (λ (n : ℕ). take n (B ++ bits_of c)) n
      ∙ take-append-add B (bits_of c) p in
      record {
        next_rows = rows ++ r ∷ [];
        next_row = [];
        bytes = append-nil (concat (rows ++ r ∷ [])) ∙ concat-append rows (r ∷ []) ∙ ap (λ l. concat rows ++ l) (append-nil r)
            ∙ sym (append_assoc (concat rows) row (c ∷ []));
        row_length = All-push (λ row. length row ≡ row_bytes w) rows r a long;
        begun = omega (arith, l);
        place = ap (λ (n : ℕ). n * w + 0 * 8) (length_push rows r) ∙ next_place (length rows) (length row * 8) w p e;
        pixels = append-nil (flat_map (row_pixels w) (rows ++ r ∷ [])) ∙ flat_map-push (row_pixels w) rows r ∙ ap (λ l. flat_map (row_pixels w) rows ++ l) whole
            ∙ sym (append_assoc (flat_map (row_pixels w) rows) B (take p (bits_of c)));
      }

  pub row_goes_on : AreLong (row_bytes w) rows → length row * 8 < w → p ≡ min (w - length row * 8) 8 → RowGoesOn w rows row c p
  row_goes_on a l e =
      ⊎_elim (λ m. row_more a (omega (arith, e, m)) m) (λ m. row_done a (omega (arith, e, m, l)) l m) (cases_lt (length row * 8 + 8) w)
