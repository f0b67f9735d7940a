-- The sum over the sides of a polygon with one side more.
-- No size is told of here but that of the sum.
use Rattle.std.proofs.Common.{◌≡◌, ◌+◌, ℕ, add-one, ap, ◌∙◌}
use Rattle.std.proofs.Math.IntN.{ℤ, ◌+ℤ◌}
use Rattle.measure_terms.specs.Polygons.{sum_below}

pub next_sum : (f : ℕ → ℤ) (i : ℕ) (old new d : ℤ) → old ≡ sum_below f i → new ≡ old +ℤ d → d ≡ f i → new ≡ sum_below f (i + 1)
next_sum f i old new d e g h = rw add-one (g ∙ ap (λ z. z +ℤ d) e ∙ ap (λ z. sum_below f i +ℤ z) h)
