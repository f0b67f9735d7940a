use Rattle.std.proofs.Common.{rules, refl, ◌≡◌, ◌≤◌, ◌<◌, ◌^◌, ℤ, ℕ, pos, to_z, of_z, arith, FitsSigned, w64}
use Rattle.std.specs.Int.{w128}
use Rattle.std.specs.Prelude.{◌*ℤ◌, unsigned_abs}
use Rattle.std.proofs.lemmas.Int.{to_z-of_z, to_z_pos, fits_signed_from_abs, unsigned_abs-mul}
use Rattle.std.proofs.lemmas.Nat.{mul-le}
use Rattle.shape_refute.proofs.exact.weighed.Goals as goal

module _ (n : ℕ) (x : ℤ) (l : n < 2 ^ 64) (f : FitsSigned w64 x) (m : unsigned_abs x ≤ 2 ^ 33) where
  parts : to_z w128 n *ℤ to_z w128 (of_z w128 (to_z w64 (of_z w64 x))) ≡ pos n *ℤ x
  parts = rw (to_z_pos w128 n (omega (arith, l)), to_z-of_z w64 x f, to_z-of_z w128 x (fits_signed_from_abs w128 x (omega (arith, m)))) refl

  size : unsigned_abs (pos n *ℤ x) ≤ 2 ^ 97
  size = let e = unsigned_abs-mul (pos n) x in let b = mul-le n (unsigned_abs x) (2 ^ 64) (2 ^ 33) (omega (arith, l)) m in omega (arith, e, b)

  fits : FitsSigned w128 (pos n *ℤ x)
  fits = fits_signed_from_abs w128 (pos n *ℤ x) (omega (arith, size))

pub overflow_mul-result : goal.overflow_mul-result
overflow_mul-result c =
    let l : c.args.weight < 2 ^ 64 = search rules in
    rw (parts c.args.weight c.args.x l c.ranges.x c.requires) (fits c.args.weight c.args.x l c.ranges.x c.requires)

pub returns-clause-value : goal.returns-clause-value
returns-clause-value c =
    let l : c.args.weight < 2 ^ 64 = search rules in
    rw (parts c.args.weight c.args.x l c.ranges.x c.requires)
    (to_z-of_z w128 (pos c.args.weight *ℤ c.args.x) (fits c.args.weight c.args.x l c.ranges.x c.requires))

pub returns-clause-small : goal.returns-clause-small
returns-clause-small c =
    let l : c.args.weight < 2 ^ 64 = search rules in
    let f = fits c.args.weight c.args.x l c.ranges.x c.requires in
    rw (parts c.args.weight c.args.x l c.ranges.x c.requires, to_z-of_z w128 (pos c.args.weight *ℤ c.args.x) f)
    (size c.args.weight c.args.x l c.ranges.x c.requires)
