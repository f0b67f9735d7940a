-- Inside and outside by parity: how many upright cracks of a set of cracks stand in the row before a pixel.
-- The set and the picture are plain truth values at places, so that nothing here knows of contours.
use Rattle.std.specs.Prelude.{ℕ, zero, suc, Bool, true, false, not, cond, ℤ, pos, negsuc, ◌+ℤ◌}

-- the exclusive or of two truth values
abbrev pub differ : Bool → Bool → Bool
differ a b = cond a (not b) b

-- whether the crack between two pixels is in a set: p and q say which of the two is object,
-- and m and n whether the set has the crack of the one and of the other
abbrev pub between : (p q m n : Bool) → Bool
between true true m n = false
between true false m n = m
between false true m n = n
between false false m n = false

-- X has the object pixels, and M the cracks, each a pixel and its side
module _ (X : ℤ × ℤ → Bool) (M : ℤ × ℤ → ℕ → Bool) where
  -- the upright crack between a pixel and the one on its right is in the set
  abbrev pub upright : ℤ → ℤ → Bool
  upright x y = between (X (x, y)) (X (x +ℤ pos 1, y)) (M (x, y) 1) (M (x +ℤ pos 1, y) 3)

  -- the lying crack between a pixel and the one below it is in the set
  abbrev pub lying : ℤ → ℤ → Bool
  lying x y = between (X (x, y)) (X (x, y +ℤ pos 1)) (M (x, y) 2) (M (x, y +ℤ pos 1) 0)

  -- the number of upright cracks of the set from the column -1 on up to a pixel is odd
  abbrev pub inside : ℤ → ℤ → Bool
  inside (negsuc n) y = false
  inside (pos zero) y = upright (negsuc 0) y
  inside (pos (suc n)) y = differ (inside (pos n) y) (upright (pos n) y)
