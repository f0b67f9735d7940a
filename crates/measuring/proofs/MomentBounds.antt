-- How large the sums of products of an object's points are, and the entries of its covariance matrix.
-- Numbers alone.
use Rattle.std.proofs.Common.{ℕ, ◌*◌, ◌^◌, ◌≤◌, arith}
use Rattle.std.proofs.lemmas.Nat.{mul-le}
use Rattle.shape_terms.specs.Limits.{most_points, most_coordinate}
use Rattle.measuring.specs.MomentsFitting.{most_product}

pub moment_small : (n s : ℕ) → s ≤ most_product * n → n * s ≤ most_product * (n * n)
moment_small n s h = let e = mul-le n s n (most_product * n) (omega arith) h in omega (arith, e)

pub product_small : (a b n : ℕ) → a ≤ most_coordinate * n → b ≤ most_coordinate * n → a * b ≤ most_product * (n * n)
product_small a b n h k = let e = mul-le a b (most_coordinate * n) (most_coordinate * n) h k in omega (arith, e)

-- n points have so many pairs at most
few_pairs : (n : ℕ) → n ≤ most_points → n * n ≤ 2 ^ 60
few_pairs n l = mul-le n n most_points most_points l l

pub small_entry : (n p : ℕ) → n ≤ most_points → p ≤ most_product * (n * n) → p ≤ 2 ^ 90
small_entry n p l h = let e = few_pairs n l in omega (arith, e, h)

pub small_thrice : (n odd : ℕ) → n ≤ most_points → odd ≤ 2 ^ 30 → 3 * (n * n) * (odd * odd) ≤ 2 ^ 122
small_thrice n odd l m =
    let e = few_pairs n l in
    let f = mul-le odd odd (2 ^ 30) (2 ^ 30) m m in
    let g = mul-le (3 * (n * n)) (odd * odd) (3 * 2 ^ 60) (2 ^ 30 * 2 ^ 30) (omega (arith, e)) f in
    omega (arith, g)
