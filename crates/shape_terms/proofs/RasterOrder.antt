-- Raster numbers rise with the raster order of points.
use Rattle.std.proofs.Common.{◌≡◌, inl, inr, ◌+◌, ◌*◌, ◌<◌, ◌≤◌, ℕ, ℤ, pos, ◌≤ℤ◌, List, [], ◌∷◌, refl, sym, ◌∙◌, arith, mul_comm}
use Rattle.std.specs.Prelude.{nat_abs, IsTrue}
use Rattle.std.specs.declared.cmp.Ordering.TheVariants.{Less, Equal, Greater}
use Rattle.std.specs.Ordering.{ordering_then, int_cmp, nat_cmp}
use Rattle.std.proofs.lemmas.Int.{ints, by_lt_z}
use Rattle.std.proofs.lemmas.Nat.{mul-le}
use Rattle.std.proofs.lemmas.Bool.{cases_lt}
use Rattle.std.proofs.lemmas.Bool.Decides.{nat_tests}
use Rattle.std.specs.Cmp.{int_cmp_is}
use Rattle.shape_terms.specs.Points.{Point, in_box, raster_number, raster_cmp}
use Rattle.shape_terms.proofs.Boxes.{in_box_first, abs_is}

pub nat_less : (a b : ℕ) → a < b → nat_cmp a b ≡ Less
nat_less a b l = grind (arith, nat_tests)

pub less_from_cmp : (a b : ℕ) → nat_cmp a b ≡ Less → a < b
less_from_cmp a b e = grind (arith, nat_tests)

nat_same : (a b : ℕ) → a ≡ b → nat_cmp a b ≡ Equal
nat_same a b l = grind (arith, nat_tests)

nat_more : (a b : ℕ) → b < a → nat_cmp a b ≡ Greater
nat_more a b l = grind (arith, nat_tests)

int_is : (x y : ℤ) → pos 0 ≤ℤ x → pos 0 ≤ℤ y → int_cmp x y ≡ nat_cmp (nat_abs x) (nat_abs y)
int_is x y a b =
    let u = abs_is x a in
    let v = abs_is y b in
    by_lt_z x y
    (λ l. sym (int_cmp_is x y Less l) ∙ sym (nat_less (nat_abs x) (nat_abs y) (omega (arith, ints))))
    (λ m. by_lt_z y x
    (λ l. sym (int_cmp_is x y Greater l) ∙ sym (nat_more (nat_abs x) (nat_abs y) (omega (arith, ints))))
    (λ l. sym (int_cmp_is x y Equal (omega (arith, ints))) ∙ sym (nat_same (nat_abs x) (nat_abs y) (omega (arith, ints)))))

above : (n a b x y : ℕ) → x < n → a < b → x + n * a < y + n * b
above n a b x y h l =
    let m : n * (a + 1) ≤ n * b = mul-le n (a + 1) n b (omega arith) (omega arith) in
    omega (arith, m, mul_comm n (a + 1), mul_comm n a)

-- of two numbers in a mixed radix the last digits decide first
digits : (n a b x y : ℕ) → x < n → y < n → nat_cmp (x + n * a) (y + n * b) ≡ ordering_then (nat_cmp a b) (nat_cmp x y)
digits n a b x y h k = elim (cases_lt a b) [
  | inl l ↦ nat_less (x + n * a) (y + n * b) (above n a b x y h l) ∙ rw (nat_less a b l) refl
  | inr m ↦ elim (cases_lt b a) [
    | inl l ↦ nat_more (x + n * a) (y + n * b) (above n b a y x k l) ∙ rw (nat_more a b l) refl
    | inr l ↦ same (omega arith)
  ]
]
  where
    same : a ≡ b → nat_cmp (x + n * a) (y + n * b) ≡ ordering_then (nat_cmp a b) (nat_cmp x y)
    same e = rw (nat_same a b e, e) (elim (cases_lt x y) [
      | inl l ↦ nat_less (x + n * b) (y + n * b) (omega arith) ∙ sym (nat_less x y l)
      | inr m ↦ elim (cases_lt y x) [
        | inl l ↦ nat_more (x + n * b) (y + n * b) (omega arith) ∙ sym (nat_more x y l)
        | inr l ↦ nat_same (x + n * b) (y + n * b) (omega arith) ∙ sym (nat_same x y (omega arith))
      ]
    ])

pub raster_rises : (sides : List ℕ) (p q : Point) → IsTrue (in_box sides p) → IsTrue (in_box sides q)
    → raster_cmp p q ≡ nat_cmp (raster_number sides p) (raster_number sides q)
raster_rises [] [] [] h k = refl
raster_rises [] [] (y ∷ q) h k = cc
raster_rises [] (x ∷ p) q h k = cc
raster_rises (n ∷ sides) [] q h k = cc
raster_rises (n ∷ sides) (x ∷ p) [] h k = cc
raster_rises (n ∷ sides) (x ∷ p) (y ∷ q) h k =
    let a = in_box_first n sides x p h in
    let b = in_box_first n sides y q k in
    let r = raster_rises sides p q a.2 b.2 in
    rw (r, int_is x y a.0 b.0) (sym (digits n (raster_number sides p) (raster_number sides q) (nat_abs x) (nat_abs y) a.1 b.1))
