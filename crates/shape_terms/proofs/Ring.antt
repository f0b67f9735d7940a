-- Laws of products of whole numbers.
-- Plain variables alone stand here.
use Rattle.std.proofs.Common.{◌≡◌, ◌*◌, ap, arith}
use Rattle.std.specs.Prelude.{ℤ, ◌+ℤ◌, ◌*ℤ◌}
use Rattle.std.proofs.lemmas.Int.{ints}
use borrow.Author.Differences.{up, down, sum_is_lem, product_is}

-- a product distributes over a sum
pub *ℤ-+ℤ : (a b c : ℤ) → a *ℤ (b +ℤ c) ≡ a *ℤ b +ℤ a *ℤ c
*ℤ-+ℤ a b c =
    let s = sum_is_lem b c in
    let p = ap (λ n. up a * n) s in
    let q = ap (λ n. down a * n) s in
    omega (arith, ints)

pub +ℤ-*ℤ : (a b c : ℤ) → (a +ℤ b) *ℤ c ≡ a *ℤ c +ℤ b *ℤ c
+ℤ-*ℤ a b c =
    let s = sum_is_lem a b in
    let p = ap (λ n. n * up c) s in
    let q = ap (λ n. n * down c) s in
    omega (arith, ints)

-- a product of three factors
pub *ℤ_assoc : (a b c : ℤ) → (a *ℤ b) *ℤ c ≡ a *ℤ (b *ℤ c)
*ℤ_assoc a b c =
    let s = product_is a b in
    let t = product_is b c in
    let p = ap (λ n. n * up c) s.0 in
    let q = ap (λ n. n * down c) s.0 in
    let p' = ap (λ n. n * up c) s.1 in
    let q' = ap (λ n. n * down c) s.1 in
    let u = ap (λ n. up a * n) t.0 in
    let v = ap (λ n. down a * n) t.0 in
    let u' = ap (λ n. up a * n) t.1 in
    let v' = ap (λ n. down a * n) t.1 in
    omega (arith, ints)
