use Rattle.std.proofs.Common.{◌≡◌, ◌≤◌, ◌^◌, ℤ, to_z, of_z, arith, refl, FitsSigned, w32, w64}
use Rattle.std.specs.Prelude.{◌*ℤ◌, unsigned_abs}
use Rattle.std.proofs.lemmas.Int.{to_z-of_z, fits_signed_from_abs, unsigned_abs-mul}
use Rattle.std.proofs.lemmas.Nat.{mul-le}
use Rattle.shape_terms.specs.Limits.{most_flat, plane_size}
use Rattle.shape_plane.proofs.exact.product.Goals as goal

-- a product of small numbers, as the code has it
module _ (a x : ℤ) (f : FitsSigned w64 a) (g : FitsSigned w32 x) (l : unsigned_abs a ≤ plane_size) (m : unsigned_abs x ≤ most_flat) where
  parts : to_z w64 (of_z w64 a) *ℤ to_z w64 (of_z w64 (to_z w32 (of_z w32 x))) ≡ a *ℤ x
  parts = rw (to_z-of_z w64 a f, to_z-of_z w32 x g, to_z-of_z w64 x (fits_signed_from_abs w64 x (omega (arith, m)))) refl

  size : unsigned_abs (a *ℤ x) ≤ 2 ^ 61
  size = let e = unsigned_abs-mul a x in let s = mul-le (unsigned_abs a) (unsigned_abs x) (plane_size) most_flat l m in omega (arith, e, s)

  fits : FitsSigned w64 (a *ℤ x)
  fits = fits_signed_from_abs w64 (a *ℤ x) (omega (arith, size))

pub overflow_mul-result : goal.overflow_mul-result
overflow_mul-result c =
    let a = c.args.a in
    let x = c.args.x in
    rw (parts a x c.ranges.a c.ranges.x c.requires.a_small c.requires.x_small) (fits a x c.ranges.a c.ranges.x c.requires.a_small c.requires.x_small)

pub returns-clause-value : goal.returns-clause-value
returns-clause-value c =
    let a = c.args.a in
    let x = c.args.x in
    rw (parts a x c.ranges.a c.ranges.x c.requires.a_small c.requires.x_small)
    (to_z-of_z w64 (a *ℤ x) (fits a x c.ranges.a c.ranges.x c.requires.a_small c.requires.x_small))

pub returns-clause-small : goal.returns-clause-small
returns-clause-small c =
    let a = c.args.a in
    let x = c.args.x in
    let f = fits a x c.ranges.a c.ranges.x c.requires.a_small c.requires.x_small in
    rw (parts a x c.ranges.a c.ranges.x c.requires.a_small c.requires.x_small, to_z-of_z w64 (a *ℤ x) f)
    (size a x c.ranges.a c.ranges.x c.requires.a_small c.requires.x_small)
