-- A run of a row as a connected set: its places are side by side.
-- Lemmas over numbers, and over any adjacency of them.
use Rattle.std.proofs.Common.{◌≡◌, ℕ, zero, suc, ◌+◌, ◌-◌, ◌*◌, ◌/◌, ◌%◌, ◌<◌, ◌≤◌, arith, sym, ◌∙◌, ap, subst}
use Rattle.std.proofs.Math.Nat.{div-add-mod, mod-lt}
use native.Mathlib.Decide.{dec_lt}
use Rattle.shape_terms.specs.Parts.{Connected}
use Rattle.shape_terms.proofs.Paths.{joined_to, turned_back}
use Rattle.shape_terms.proofs.Boxes.{mod_of, div_of}

-- ---- places of a row

-- the first place of a row is so many rows on
pub whole_rows : (width start : ℕ) → start % width ≡ 0 → width * (start / width) ≡ start
whole_rows width start e = omega (arith, div-add-mod start width)

pub in_row : (width start x : ℕ) → start % width ≡ 0 → start ≤ x → x < start + width → (x / width ≡ start / width) × (x % width ≡ x - start)
in_row width start x e a b =
    let w = whole_rows width start e in
    let p : x - start + width * (start / width) ≡ x = omega arith in (
      ap (λ y. y / width) (sym p) ∙ div_of width (x - start) (start / width) (omega arith),
      ap (λ y. y % width) (sym p) ∙ mod_of width (x - start) (start / width) (omega arith),
    )

-- a place of the same row
pub of_row : (width start x : ℕ) → 1 ≤ width → start % width ≡ 0 → x / width ≡ start / width → (start ≤ x) × (x < start + width)
of_row width start x some e q =
    let w = whole_rows width start e in
    let d = div-add-mod x width in
    let p : width * (x / width) ≡ width * (start / width) = ap (λ y. width * y) q in
    let m : x % width < width = mod-lt x some in
    (omega arith, omega arith)

-- ---- connected runs

pub line_up : (R : ℕ → ℕ → Type 0) (Y : ℕ → Type 0) (a n : ℕ) → ((i : ℕ) → a ≤ i → i ≤ a + n → Y i) → ((i : ℕ) → a ≤ i → i < a + n → R i (suc i))
    → Connected R Y a (a + n)
line_up R Y a zero y r = let e : a ≡ a + 0 = omega arith in subst (Connected R Y a) e (Connected.here (y a (omega arith) (omega arith)))
line_up R Y a (suc n) y r =
    let e : suc (a + n) ≡ a + suc n = omega arith in
    subst (Connected R Y a) e
    (joined_to (line_up R Y a n (λ i l m. y i l (omega arith)) (λ i l m. r i l (omega arith)))
    (Connected.onward (y (a + n) (omega arith) (omega arith)) (r (a + n) (omega arith) (omega arith))
    (Connected.here (y (suc (a + n)) (omega arith) (omega arith)))))

module _ (R : ℕ → ℕ → Type 0) (Y : ℕ → Type 0) (flip : (p q : ℕ) → R p q → R q p) (from until : ℕ) (y : (i : ℕ) → from ≤ i → i < until → Y i)
    (r : (i : ℕ) → from ≤ i → suc i < until → R i (suc i)) where
  up_to : (p q : ℕ) → from ≤ p → p ≤ q → q < until → Connected R Y p q
  up_to p q a b c =
      let e : p + (q - p) ≡ q = omega arith in
      subst (Connected R Y p) e (line_up R Y p (q - p) (λ i l m. y i (omega arith) (omega arith)) (λ i l m. r i (omega arith) (omega arith)))

  pub joined_run : (p q : ℕ) → from ≤ p → p < until → from ≤ q → q < until → Connected R Y p q
  joined_run p q a b c d = elim (dec_lt q p) [ yes l ↦ turned_back flip (up_to q p c (omega arith) b) | no l ↦ up_to p q a (omega arith) d ]
