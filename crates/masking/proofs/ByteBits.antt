-- The bits of the bytes that hold a row of pixels are these pixels.
-- Laws of bytes and lists alone; that eight truth values are the bits of their byte is found by computing, for all of them.
use Rattle.std.proofs.Common.{◌≡◌, ℕ, zero, suc, ◌+◌, ◌*◌, ◌≤◌, Bool, true, false, List, [], ◌∷◌, ◌++◌, map, take, refl, sym, ap, subst, ◌∙◌, arith}
use Rattle.std.specs.Prelude.{◌&&◌, if◌then◌else◌}
use Rattle.std.specs.List.{flat_map, range_with_len}
use Rattle.std.proofs.lemmas.List.{map-append}
use Rattle.std.proofs.lemmas.List.Folds.{flat_map-map}
use Rattle.std.proofs.lemmas.List.FromFn.{take-map-range_with_len}
use Rattle.shape_picture.specs.Pbm.{bits_of}
use Rattle.masking.proofs.Growing.{more_numbers}

-- ---- one byte

-- a weight, where the value is true
abbrev pub weighted : Bool → ℕ → ℕ
weighted b w = if b then w else 0

-- the byte of eight truth values, the first of them as its highest bit
abbrev pub byte_of : (a b c d e f g h : Bool) → ℕ
byte_of a b c d e f g h = weighted a 128 + (weighted b 64 + (weighted c 32 + (weighted d 16 + (weighted e 8 + (weighted f 4 + (weighted g 2 + weighted h 1))))))

same : Bool → Bool → Bool
same true b = b
same false true = false
same false false = true

same_all : List Bool → List Bool → Bool
same_all [] [] = true
same_all (x ∷ xs) (y ∷ ys) = same x y && same_all xs ys
same_all _ _ = false

are_both : (a b : Bool) → (a && b) ≡ true → (a ≡ true) × (b ≡ true)
are_both true b e = (refl, e)
are_both false b e = (e, absurd (let f : false ≡ true = e in cc))

is_same : (x y : Bool) → same x y ≡ true → x ≡ y
unfolding same
is_same true y e = sym e
is_same false true e = absurd (let f : false ≡ true = e in cc)
is_same false false e = refl

are_same : (xs ys : List Bool) → same_all xs ys ≡ true → xs ≡ ys
unfolding same_all
are_same [] [] e = refl
are_same [] (y ∷ ys) e = absurd (let f : false ≡ true = e in cc)
are_same (x ∷ xs) [] e = absurd (let f : false ≡ true = e in cc)
are_same (x ∷ xs) (y ∷ ys) e =
    let b = are_both (same x y) (same_all xs ys) e in
    let p = is_same x y b.0 in
    let q = are_same xs ys b.1 in
    λ i. p i ∷ q i

-- a test that both truth values pass
both_pass : (Bool → Bool) → Bool
both_pass p = p true && p false

passes : (p : Bool → Bool) → both_pass p ≡ true → (b : Bool) → p b ≡ true
unfolding both_pass
passes p e true = (are_both (p true) (p false) e).0
passes p e false = (are_both (p true) (p false) e).1

test : (a b c d e f g h : Bool) → Bool
test a b c d e f g h = same_all (bits_of (byte_of a b c d e f g h)) (a ∷ b ∷ c ∷ d ∷ e ∷ f ∷ g ∷ h ∷ [])

test5 : (a b c d e : Bool) → Bool
test5 a b c d e = both_pass (λ f. both_pass (λ g. both_pass (λ h. test a b c d e f g h)))

test0 : Bool
test0 = both_pass (λ a. both_pass (λ b. both_pass (λ c. both_pass (λ d. both_pass (λ e. test5 a b c d e)))))

all_pass : test0 ≡ true
unfolding test0 test5 test both_pass same_all same
all_pass = refl

pass5 : (a b c d e : Bool) → test5 a b c d e ≡ true
unfolding test0
pass5 a b c d e =
    passes (λ x. test5 a b c d x) (passes (λ x. both_pass (λ y. test5 a b c x y)) (passes (λ x. both_pass (λ y. both_pass (λ z. test5 a b x y z)))
    (passes (λ x. both_pass (λ y. both_pass (λ z. both_pass (λ t. test5 a x y z t))))
    (passes (λ x. both_pass (λ y. both_pass (λ z. both_pass (λ t. both_pass (λ u. test5 x y z t u))))) all_pass a) b) c) d) e

-- the bits of the byte of eight truth values are these
pub bits_of_byte : (a b c d e f g h : Bool) → bits_of (byte_of a b c d e f g h) ≡ a ∷ b ∷ c ∷ d ∷ e ∷ f ∷ g ∷ h ∷ []
unfolding test test5
bits_of_byte a b c d e f g h =
    are_same _ _ (passes (λ z. test a b c d e f g z)
    (passes (λ y. both_pass (λ z. test a b c d e f y z)) (passes (λ x. both_pass (λ y. both_pass (λ z. test a b c d e x y z))) (pass5 a b c d e) f) g) h)

-- ---- a row

pub range-append : (a j k : ℕ) → range_with_len a (j + k) ≡ range_with_len a j ++ range_with_len (a + j) k
range-append a zero k = let e : 0 + k ≡ k = omega arith in let f : a + 0 ≡ a = omega arith in rw (e, f) refl
range-append a (suc j) k =
    let e : suc j + k ≡ suc (j + k) = omega arith in
    let f : a + suc j ≡ a + 1 + j = omega arith in
    rw (e, f) (ap (λ l. a ∷ l) (range-append (a + 1) j k))

module _ (f : ℕ → Bool) where
  -- the byte of the eight values from a place on
  abbrev pub byte_at : ℕ → ℕ
  byte_at x = byte_of (f x) (f (x + 1)) (f (x + 2)) (f (x + 3)) (f (x + 4)) (f (x + 5)) (f (x + 6)) (f (x + 7))

  eight_values : (a : ℕ) → bits_of (byte_at a) ≡ map f (range_with_len a 8)
  eight_values a =
      let e2 : a + 1 + 1 ≡ a + 2 = omega arith in
      let e3 : a + 2 + 1 ≡ a + 3 = omega arith in
      let e4 : a + 3 + 1 ≡ a + 4 = omega arith in
      let e5 : a + 4 + 1 ≡ a + 5 = omega arith in
      let e6 : a + 5 + 1 ≡ a + 6 = omega arith in
      let e7 : a + 6 + 1 ≡ a + 7 = omega arith in
      bits_of_byte (f a) (f (a + 1)) (f (a + 2)) (f (a + 3)) (f (a + 4)) (f (a + 5)) (f (a + 6)) (f (a + 7)) ∙ sym (rw (e2, e3, e4, e5, e6, e7) refl)

  all_values : (n : ℕ) → flat_map (λ k. bits_of (byte_at (8 * k))) (range_with_len 0 n) ≡ map f (range_with_len 0 (8 * n))
  all_values zero = refl
  all_values (suc n) =
      let s : suc n ≡ n + 1 = omega arith in
      let m : 8 * (n + 1) ≡ 8 * n + 8 = omega arith in
      let z : 0 + 8 * n ≡ 8 * n = omega arith in
      let last : range_with_len 0 (8 * n + 8) ≡ range_with_len 0 (8 * n) ++ range_with_len (8 * n) 8 = rw z at (range-append 0 (8 * n) 8) in
      subst (λ j. flat_map (λ k. bits_of (byte_at (8 * k))) (range_with_len 0 j) ≡ map f (range_with_len 0 (8 * j))) (sym s)
      (more_numbers (λ k. bits_of (byte_at (8 * k))) n ∙ ap (λ l. l ++ bits_of (byte_at (8 * n))) (all_values n)
      ∙ ap (λ l. map f (range_with_len 0 (8 * n)) ++ l) (eight_values (8 * n))
      ∙ sym (ap (λ k. map f (range_with_len 0 k)) m ∙ ap (map f) last ∙ map-append f (range_with_len 0 (8 * n)) (range_with_len (8 * n) 8)))

  -- the first bits of the bytes are the values
  pub row_values : (n w : ℕ) → w ≤ 8 * n → take w (flat_map bits_of (map (λ k. byte_at (8 * k)) (range_with_len 0 n))) ≡ map f (range_with_len 0 w)
  row_values n w l =
      ap (take w) (flat_map-map bits_of (λ k. byte_at (8 * k)) (range_with_len 0 n) ∙ all_values n) ∙ take-map-range_with_len f 0 (8 * n) w l
