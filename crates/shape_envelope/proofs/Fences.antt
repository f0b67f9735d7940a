-- Ways along a line, and that a place hides those behind it: a place with 0 gives no more than each of them.
-- Laws over numbers alone.
use Rattle.std.proofs.Common.{◌≡◌, ℕ, ◌+◌, ◌-◌, ◌*◌, ◌<◌, ◌≤◌, inl, inr, ◌∙◌, ap, subst, sym, arith}
use Rattle.std.proofs.lemmas.Bool.{cases_lt}
use Rattle.std.proofs.lemmas.Int.{ints}
use Rattle.std.proofs.lemmas.Nat.{mul-le}
use Rattle.shape_terms.specs.AxisLines.{gap}

pub gap_up : (x y d : ℕ) → x + d ≡ y → gap x y ≡ d
gap_up x y d e = grind (arith, ints)

pub gap_down : (x y d : ℕ) → y + d ≡ x → gap x y ≡ d
gap_down x y d e = grind (arith, ints)

pub gap_none : (x : ℕ) → gap x x ≡ 0
gap_none x = gap_up x x 0 (omega arith)

-- a way is as long wherever it begins
pub gap_shift : (a x y : ℕ) → gap (a + x) (a + y) ≡ gap x y
gap_shift a x y = elim (cases_lt x y) [
  | inl l ↦ gap_up (a + x) (a + y) (y - x) (omega arith) ∙ sym (gap_up x y (y - x) (omega arith))
  | inr l ↦ gap_down (a + x) (a + y) (x - y) (omega arith) ∙ sym (gap_down x y (x - y) (omega arith))
]

-- only a place itself has no way to go
pub gap_zero : (x y : ℕ) → gap x y * gap x y ≤ 0 → y ≡ x
gap_zero x y h = elim (cases_lt x y) [
  | inl l ↦
      let g = gap_up x y (y - x) (omega arith) in
      let m : 1 * 1 ≤ (y - x) * (y - x) = mul-le 1 1 (y - x) (y - x) (omega arith) (omega arith) in
      absurd (omega (arith, m, rw g at h))
  | inr l ↦ elim (cases_lt y x) [
    | inl k ↦
        let g = gap_down x y (x - y) (omega arith) in
        let m : 1 * 1 ≤ (x - y) * (x - y) = mul-le 1 1 (x - y) (x - y) (omega arith) (omega arith) in
        absurd (omega (arith, m, rw g at h))
    | inr k ↦ omega arith
  ]
]

-- the way to a place behind another one is no shorter
pub farther_down : (x a z : ℕ) → z ≤ a → a ≤ x → gap x a * gap x a ≤ gap x z * gap x z
farther_down x a z l h =
    rw (gap_down x a (x - a) (omega arith), gap_down x z (x - z) (omega arith)) (mul-le (x - a) (x - a) (x - z) (x - z) (omega arith) (omega arith))

pub farther_up : (x b z : ℕ) → x ≤ b → b ≤ z → gap x b * gap x b ≤ gap x z * gap x z
farther_up x b z l h =
    rw (gap_up x b (b - x) (omega arith), gap_up x z (z - x) (omega arith)) (mul-le (b - x) (b - x) (z - x) (z - x) (omega arith) (omega arith))

-- ---- a part of a line

-- the places from a on up to b of a line of w, where each end holds 0 or is that of the line; `holds y s` says that the place y has the square s
pub record IsPart (holds : ℕ → ℕ → Type 0) (w a b : ℕ) : Type 0 where
  pub some : a < b
  pub within : b ≤ w
  pub first : 0 < a → holds a 0
  pub last : (z : ℕ) → z + 1 ≡ b → b < w → holds z 0

-- what is least in the part is least in the line
pub part_least : (holds : ℕ → ℕ → Type 0) (w a b x s : ℕ) → IsPart holds w a b → a + x < b
    → ((y h : ℕ) → y < b - a → holds (a + y) h → s ≤ h + gap x y * gap x y) → (z h : ℕ) → z < w → holds z h → s ≤ h + gap (a + x) z * gap (a + x) z
part_least holds w a b x s p inside least z h l there =
    let some = p.some in
    let in_part : (y h : ℕ) → a ≤ y → y < b → holds y h → s ≤ h + gap (a + x) y * gap (a + x) y =
    λ y h from below there.
    let at : a + (y - a) ≡ y = omega arith in
    let way : gap x (y - a) ≡ gap (a + x) y = sym (gap_shift a x (y - a)) ∙ ap (gap (a + x)) at in
    let t = least (y - a) h (omega arith) (subst (λ y. holds y h) (sym at) there) in
    rw way at t in
    elim (cases_lt z a) [
      | inl low ↦ omega (arith, in_part a 0 (omega arith) some (p.first (omega arith)), farther_down (a + x) a z (omega arith) (omega arith))
      | inr from ↦ elim (cases_lt z b) [
        | inl below ↦ in_part z h from below there
        | inr high ↦ omega (
          arith,
          in_part (b - 1) 0 (omega arith) (omega arith) (p.last (b - 1) (omega arith) (omega arith)),
          farther_up (a + x) (b - 1) z (omega arith) (omega arith),
        )
      ]
    ]
