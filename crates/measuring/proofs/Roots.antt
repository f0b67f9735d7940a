-- Sizes of whole roots of quotients.
-- Numbers alone.
use Rattle.std.proofs.Common.{ℕ, ◌+◌, ◌*◌, ◌/◌, ◌<◌, ◌≤◌, arith}
use Rattle.std.proofs.Math.Nat.{div-le_self}
use Rattle.measure_terms.proofs.RootFound.{no_greater}

pub small_whole : (s t w a : ℕ) → w * w ≤ s / t → s ≤ a * a → w ≤ a
small_whole s t w a l m = no_greater w a (let d = div-le_self s t in omega (arith, l, m, d))

pub half : (w a b : ℕ) → w ≤ a → a < b → (w + 1) / 2 ≤ b
half w a b l m = omega (arith, l, m)
