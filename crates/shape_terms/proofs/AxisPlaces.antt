-- Numbers and their digits before an axis, on it and behind it: each number has them once.
-- Plain variables alone stand here.
use Rattle.std.proofs.Common.{◌≡◌, ℕ, ◌+◌, ◌*◌, ◌/◌, ◌%◌, ◌<◌, ◌≤◌, refl, ap, arith, mul_comm}
use Rattle.std.proofs.lemmas.Nat.{div-mul-add, div_below, same_from_place, mul-le}
use Rattle.shape_terms.specs.AxisLines.{place}
use Rattle.shape_terms.proofs.Boxes.{some_side}

-- the digits of a number
pub record HasPlace (c w rows i : ℕ) : Type 0 where
  pub low : ℕ
  pub x : ℕ
  pub high : ℕ
  pub low_below : low < c
  pub x_below : x < w
  pub high_below : high < rows
  pub is : i ≡ place c w low x high

pub place_of : (c w rows i : ℕ) → i < c * (w * rows) → HasPlace c w rows i
place_of c w rows i l =
    let s = some_side c (w * rows) i l in
    let b : i / c < w * rows = div_below i c (w * rows) s (omega (arith, mul_comm c (w * rows))) in
    let t = some_side w rows (i / c) b in
    let e : c * (i / c) + i % c ≡ i = omega arith in
    let f : w * (i / c / w) + (i / c) % w ≡ i / c = omega arith in
    record {
      low = i % c;
      x = (i / c) % w;
      high = i / c / w;
      low_below = omega arith;
      x_below = omega arith;
      high_below = div_below (i / c) w rows t (omega (arith, mul_comm w rows));
      is = let g : c * ((i / c) % w + w * (i / c / w)) ≡ c * (i / c) = ap (λ n. c * n) (omega arith) in omega (arith, e, g);
    }

-- the digits on the axis and behind it, as a number
pub place_line : (c w low x high : ℕ) → low < c → place c w low x high / c ≡ x + w * high
place_line c w low x high l =
    let e : place c w low x high ≡ (x + w * high) * c + low = omega (arith, mul_comm c (x + w * high)) in
    rw (e, div-mul-add (x + w * high) c low l) refl

within_line : (c w low x : ℕ) → low < c → x < w → low + c * x < c * w
within_line c w low x l h = let m : c * (x + 1) ≤ c * w = mul-le c (x + 1) c w (omega arith) (omega arith) in omega arith

-- the digits behind the axis
pub place_high : (c w low x high : ℕ) → low < c → x < w → place c w low x high / (c * w) ≡ high
place_high c w low x high l h =
    let e : place c w low x high ≡ high * (c * w) + (low + c * x) = omega arith in
    rw (e, div-mul-add high (c * w) (low + c * x) (within_line c w low x l h)) refl

pub place_below : (c w rows low x high : ℕ) → low < c → x < w → high < rows → place c w low x high < c * (w * rows)
place_below c w rows low x high l h k =
    let m : (c * w) * (high + 1) ≤ (c * w) * rows = mul-le (c * w) (high + 1) (c * w) rows (omega arith) (omega arith) in
    omega (arith, within_line c w low x l h, m)

-- two numbers with the same digits on the axis and behind it
pub same_digits : (w x x2 high high2 : ℕ) → x < w → x2 < w → x + w * high ≡ x2 + w * high2 → (high ≡ high2) × (x ≡ x2)
same_digits w x x2 high high2 l h e = same_from_place high x high2 x2 w l h (omega (arith, e, mul_comm w high, mul_comm w high2))

pub same_place : (c w low x high low2 x2 high2 : ℕ) → low < c → low2 < c → x < w → x2 < w → place c w low x high ≡ place c w low2 x2 high2
    → (low ≡ low2) × (x ≡ x2) × (high ≡ high2)
same_place c w low x high low2 x2 high2 l l2 h h2 e =
    let a = same_from_place (x + w * high) low (x2 + w * high2) low2 c l l2 (omega (arith, e, mul_comm c (x + w * high), mul_comm c (x2 + w * high2))) in
    let b = same_digits w x x2 high high2 h h2 a.0 in
    (a.1, b.1, b.0)
