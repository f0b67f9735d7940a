-- How great the lengths of steps, and their sums, may be.
-- Lists and numbers; the program stands in none.
use Rattle.std.proofs.Common.{◌≡◌, ◌⊎◌, inl, inr, ◌∙◌, ap, sym, subst, ℕ, zero, suc, ◌+◌, ◌-◌, ◌*◌, ◌%◌, ◌^◌, ◌<◌, ◌≤◌, Bool, true, false, List, [], ◌∷◌, ◌++◌}
use Rattle.std.proofs.Common.{length, get_or, arith}
use Rattle.std.specs.Prelude.{ℤ, ◌-ℤ◌, ◌*ℤ◌, nat_abs, nat_le, ◌&&◌, if◌then◌else◌, sum}
use Rattle.std.proofs.lemmas.Bool.{cond-true, cond-false, cases_Bool}
use Rattle.std.proofs.lemmas.Bool.Decides.{nat_tests}
use Rattle.std.proofs.lemmas.Int.{unsigned_abs-mul}
use Rattle.std.proofs.lemmas.List.{length-append}
use Rattle.std.proofs.lemmas.List.Sums.{sum_by-append}
use Rattle.std.proofs.lemmas.List.FromFn.{length-map-range_with_len, get_or-map-range_with_len}
use Rattle.std.proofs.lemmas.Nat.{mul-le}
use Rattle.shape_terms.specs.Points.{Point, coordinate}
use Rattle.shape_terms.specs.Refutations.{point_at}
use Rattle.measure_terms.specs.Quotients.{root_quotient}
use Rattle.measure_terms.specs.Runs.{Run}
use Rattle.measure_terms.specs.Lengths.{Step, near_step, step_at, weight, norm, share, share_at, shares_at, shares, passes}
use Rattle.measure_terms.proofs.QuotientFound.{quotient_holds, none_over_zero}
use Rattle.bordering.specs.declared.cells.Cell.{Cell}
use Rattle.bordering.specs.Cells.{cell_of, no_cell, cell_with, is_between, HasRoom, HaveRoom, ArePassed, AreCells}

-- ---- numbers

-- twice the product of two numbers is no greater than their squares together
twice : (p q : ℕ) → 2 * (p * q) ≤ p * p + q * q
twice p q = elim (split p q) [
  | inl l ↦ (let d = q - p in let e : q ≡ p + d = omega (arith, l) in subst (λ x. 2 * (p * x) ≤ p * p + x * x) (sym e) (omega arith))
  | inr l ↦ (let d = p - q in let e : p ≡ q + d = omega (arith, l) in subst (λ x. 2 * (x * q) ≤ x * x + q * q) (sym e) (omega arith))
]
  where
    split : (p q : ℕ) → (p ≤ q) ⊎ (q ≤ p)
    split p q = grind arith

-- so the square of a sum is at most twice the squares
square_of_sum : (w p q : ℕ) → w ≤ p + q → w * w ≤ 2 * (p * p + q * q)
square_of_sum w p q h =
    let k : w * w ≤ (p + q) * (p + q) = mul-le w w (p + q) (p + q) h h in
    let t = twice p q in
    omega (arith, k, t)

-- a difference is no greater in size than both together
difference : (u v : ℤ) → nat_abs (u -ℤ v) ≤ nat_abs u + nat_abs v
difference u v = grind arith

-- a product with a number no greater than 1 in size is no greater in size
product : (x c : ℤ) → nat_abs x ≤ 1 → nat_abs (x *ℤ c) ≤ nat_abs c
product x c h =
    let e : nat_abs (x *ℤ c) ≡ nat_abs x * nat_abs c = unsigned_abs-mul x c in
    let k : nat_abs x * nat_abs c ≤ 1 * nat_abs c = mul-le (nat_abs x) (nat_abs c) 1 (nat_abs c) h (omega arith) in
    omega (arith, e, k)

-- a number whose square is at most twice 10^24 is at most 2^41
root_small : (q : ℕ) → q * q ≤ 2 * 10 ^ 24 → q ≤ 2 ^ 41
root_small q h = elim (split q) [
  | inl l ↦ l
  | inr g ↦ (let k : (2 ^ 41 + 1) * (2 ^ 41 + 1) ≤ q * q = mul-le (2 ^ 41 + 1) (2 ^ 41 + 1) q q (omega (arith, g)) (omega (arith, g)) in
      absurd (omega (arith, h, k)))
]
  where
    split : (q : ℕ) → (q ≤ 2 ^ 41) ⊎ (2 ^ 41 < q)
    split q = grind arith

-- a factor that is not 0 may be left out
cancel : (n a b : ℕ) → 0 < n → a * n ≤ b * n → a ≤ b
cancel zero a b some h = absurd (omega (arith, some))
cancel (suc n) a b some h = elim (split a b) [
  | inl l ↦ l
  | inr g ↦ (let k : (b + 1) * suc n ≤ a * suc n = mul-le (b + 1) (suc n) a (suc n) (omega (arith, g)) (omega arith) in absurd (omega (arith, h, k)))
]
  where
    split : (a b : ℕ) → (a ≤ b) ⊎ (b < a)
    split a b = grind arith

-- the number divided by the root is small where its square is at most twice that
quotient_small : (w n q : ℕ) → w * w ≤ 2 * n → 0 < n → q * q * n ≤ (w * 10 ^ 12) * (w * 10 ^ 12) → q ≤ 2 ^ 41
quotient_small w n q h some low =
    let e : (w * 10 ^ 12) * (w * 10 ^ 12) ≡ (w * w) * 10 ^ 24 = omega arith in
    let f : (w * w) * 10 ^ 24 ≤ (2 * n) * 10 ^ 24 = omega (arith, h) in
    let g : (q * q) * n ≤ (2 * 10 ^ 24) * n = omega (arith, e, f, low) in
    root_small q (cancel n (q * q) (2 * 10 ^ 24) some g)

-- ---- one step

-- a step changes each coordinate by at most 1
near : (x y : ℤ) → (nat_abs (near_step x y).x ≤ 1) × (nat_abs (near_step x y).y ≤ 1)
near x y =
    let t = nat_le (nat_abs x) 1 && nat_le (nat_abs y) 1 in
    elim (cases_Bool t) [
      | inl h ↦ subst (λ (s : Step). (nat_abs s.x ≤ 1) × (nat_abs s.y ≤ 1)) (sym (cond-true t _ _ h)) (grind (arith, nat_tests, h), grind (arith, nat_tests, h))
      | inr h ↦ subst (λ (s : Step). (nat_abs s.x ≤ 1) × (nat_abs s.y ≤ 1)) (sym (cond-false t _ _ h)) (omega arith, omega arith)
    ]

-- the square of what it weighs is at most twice that of the direction's length
weight_small : (r : Run) (s : Step) → nat_abs s.x ≤ 1 → nat_abs s.y ≤ 1 → weight r s * weight r s ≤ 2 * norm r
weight_small r s x y =
    let d = difference (s.x *ℤ r.b) (s.y *ℤ r.a) in
    let p = product s.x r.b x in
    let q = product s.y r.a y in
    let k = square_of_sum (weight r s) (nat_abs r.b) (nat_abs r.a) (omega (arith, d, p, q)) in
    omega (arith, k)

-- so its length is at most 2^41
pub share_small : (ps : List Point) (r : Run) (i : ℕ) → share r (step_at ps i) ≤ 2 ^ 41
share_small ps r i =
    let p = point_at ps i in
    let q = point_at ps ((i + 1) % length ps) in
    let n = near (coordinate q 0 -ℤ coordinate p 0) (coordinate q 1 -ℤ coordinate p 1) in
    by_norm (weight r (step_at ps i)) (norm r) (weight_small r (step_at ps i) n.0 n.1)
  where
    by_norm : (w n : ℕ) → w * w ≤ 2 * n → root_quotient (w * 10 ^ 12) n ≤ 2 ^ 41
    by_norm w zero h = subst (λ k. k ≤ 2 ^ 41) (sym (none_over_zero (w * 10 ^ 12))) (omega arith)
    by_norm w (suc n) h = quotient_small w (suc n) (root_quotient (w * 10 ^ 12) (suc n)) h (omega arith)
        (quotient_holds (w * 10 ^ 12) (suc n) (omega arith)).low

-- ---- the lengths of a step along all runs

-- each of them is at most 2^41
both_small : (xs ys : List ℕ) → sum xs ≤ length xs * 2 ^ 41 → sum ys ≤ length ys * 2 ^ 41 → sum (xs ++ ys) ≤ length (xs ++ ys) * 2 ^ 41
both_small xs ys a b =
    let s : sum (xs ++ ys) ≡ sum xs + sum ys = sum_by-append (λ y. y) xs ys in
    let l : length (xs ++ ys) ≡ length xs + length ys = length-append xs ys in
    omega (arith, s, l, a, b)

once_small : (ps : List Point) (r : Run) (i j : ℕ) → sum (share_at ps r i j) ≤ length (share_at ps r i j) * 2 ^ 41
once_small ps r i j = by_test (passes r j) (share r (step_at ps i)) (share_small ps r i)
  where
    by_test : (b : Bool) (x : ℕ) → x ≤ 2 ^ 41 → sum (if b then x ∷ [] else []) ≤ length (if b then x ∷ [] else []) * 2 ^ 41
    by_test true x h = omega (arith, h)
    by_test false x h = omega arith

all_small : (ps : List Point) (runs : List Run) (i : ℕ) → sum (shares ps runs i) ≤ length (shares ps runs i) * 2 ^ 41
all_small ps [] i = omega arith
all_small ps (r ∷ runs) i = both_small (shares_at ps i r) (shares ps runs i)
    (both_small (share_at ps r i i) (share_at ps r i (i + length ps)) (once_small ps r i i) (once_small ps r i (i + length ps))) (all_small ps runs i)

-- a run gives at most two
at_most_once : (ps : List Point) (r : Run) (i j : ℕ) → length (share_at ps r i j) ≤ 1
at_most_once ps r i j = by_test (passes r j) (share r (step_at ps i))
  where
    by_test : (b : Bool) (x : ℕ) → length (if b then x ∷ [] else []) ≤ 1
    by_test true x = omega arith
    by_test false x = omega arith

all_few : (ps : List Point) (runs : List Run) (i : ℕ) → length (shares ps runs i) ≤ 2 * length runs
all_few ps [] i = omega arith
all_few ps (r ∷ runs) i =
    let a = share_at ps r i i in
    let b = share_at ps r i (i + length ps) in
    let one : length (a ++ b) ≡ length a + length b = length-append a b in
    let all : length ((a ++ b) ++ shares ps runs i) ≡ length (a ++ b) + length (shares ps runs i) = length-append (a ++ b) (shares ps runs i) in
    let x = at_most_once ps r i i in
    let y = at_most_once ps r i (i + length ps) in
    let more = all_few ps runs i in
    omega (arith, one, all, x, y, more)

-- ---- room

-- where few runs were put, there is room for more
pub room_left : (ps : List Point) (runs : List Run) (cells : List Cell) (n : ℕ) → AreCells ps runs cells → 2 * length runs + n < 2 ^ 61 → HaveRoom n cells
room_left ps runs cells n h e = λ i l.
    let all : length cells ≡ length ps = ap length h ∙ length-map-range_with_len (λ j. cell_of (shares ps runs j)) 0 (length ps) in
    let within : i < length ps = omega (arith, l, all) in
    let is : get_or cells i no_cell ≡ cell_of (shares ps runs i) = ap (λ c. get_or c i no_cell) h ∙ get_or-map-range_with_len (λ j. cell_of (shares ps runs j))
    0 (length ps) i i no_cell within (omega arith) in
    let f = all_few ps runs i in
    subst (HasRoom n) (sym is) (record { few = omega (arith, f, e); small = all_small ps runs i })

-- a run that is put takes room for one length in each round
pub room_after : (ps : List Point) (r : Run) (a b : ℕ) (old new : List Cell) → ArePassed ps r a b old new → HaveRoom 2 old → HaveRoom 1 new
room_after ps r a b old new h room = λ i l.
    let all = h.all in
    let within : i < length old = omega (arith, l, all) in
    subst (HasRoom 1) (sym (h.each i within)) (by_test (is_between a b i) (get_or old i no_cell) (room i within) (share r (step_at ps i)) (share_small ps r i))
  where
    by_test : (t : Bool) (c : Cell) → HasRoom 2 c → (x : ℕ) → x ≤ 2 ^ 41 → HasRoom 1 (if t then cell_with c x else c)
    by_test true c k x s = let f = k.few in let g = k.small in record { few = omega (arith, f); small = omega (arith, g, s) }
    by_test false c k x s = let f = k.few in record { few = omega (arith, f); small = k.small }
