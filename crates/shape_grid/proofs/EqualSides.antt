-- Boxes with equal sides.
-- Laws of lists alone.
use Rattle.std.proofs.Common.{◌≡◌, ◌+◌, ◌<◌, ◌≤◌, ℕ, ℤ, pos, ◌≤ℤ◌, List, [], ◌∷◌, ◌++◌, map, length, take, set, refl, sym, ap, ◌∙◌, arith}
use Rattle.std.specs.List.{range_with_len}
use Rattle.std.proofs.lemmas.Int.{ints}
use Rattle.std.proofs.lemmas.List.{take_more_set, take_all}
use Rattle.std.proofs.lemmas.List.FromFn.{map-range_with_len_more, length-map-range_with_len, get_or-map-range_with_len}
use Rattle.shape_terms.specs.Points.{Point, AreSides, coordinate, sides_of}

-- k equal coordinates
abbrev pub equal : ℕ → ℕ → Point
equal n k = map (λ _. pos n) (range_with_len 0 k)

pub equal_more : (n k : ℕ) (p : Point) (v : ℤ) → k < length p → take k p ≡ equal n k → v ≡ pos n → take (k + 1) (set p k v) ≡ equal n (k + 1)
equal_more n k p v l h e = take_more_set p k v l ∙ (λ i. h i ++ e i ∷ []) ∙ sym (map-range_with_len_more (λ _. pos n) 0 k k (omega arith))

pub all_equal : (n d k : ℕ) (p : Point) → length p ≡ d → d ≤ k → k ≤ d → take k p ≡ equal n k → p ≡ equal n d
all_equal n d k p l m m2 h =
    let e : k ≡ d = omega arith in
    sym (take_all k p (omega arith)) ∙ h ∙ ap (equal n) e

pub equal_are_sides : (greatest : ℤ) (n d : ℕ) → 1 ≤ n → pos n ≤ℤ greatest → AreSides greatest (equal n d)
equal_are_sides g n d some most k l =
    let m : k < d = omega (arith, length-map-range_with_len (λ (_ : ℕ). pos n) 0 d) in
    let e : coordinate (equal n d) k ≡ pos n = get_or-map-range_with_len (λ _. pos n) 0 d k k (pos 0) m (omega arith) in
    rw e (omega (arith, ints), most)

pub sides_of-equal : (n : ℕ) (xs : List ℕ) → sides_of (map (λ _. pos n) xs) ≡ map (λ _. n) xs
sides_of-equal n [] = refl
sides_of-equal n (x ∷ xs) = ap (λ l. n ∷ l) (sides_of-equal n xs)
