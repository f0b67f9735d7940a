-- The axes of some objects, with those of one object more.
-- Lists alone.
use Rattle.std.proofs.Common.{◌≡◌, inl, inr, ℕ, ◌+◌, List, [], ◌∷◌, ◌++◌, length, get_or, ap, sym, subst, ◌∙◌, arith}
use Rattle.std.proofs.Math.Seq.{get_or-append_seam}
use Rattle.std.proofs.lemmas.Bool.{cases_lt}
use Rattle.std.proofs.lemmas.List.{get_or_append_left}
use Rattle.measure_terms.specs.Moments.{Moments}
use Rattle.draw_report.specs.MeasureLines.{Axes}
use Rattle.draw_report.specs.Measured.{no_moments, no_axes, AreAxesOf, AreAxes}

pub axes_more : (ms : List Moments) (all : List Axes) (i : ℕ) (a : Axes) → length all ≡ i → AreAxes i ms all → AreAxesOf (get_or ms i no_moments) a
    → AreAxes (i + 1) ms (all ++ a ∷ [])
axes_more ms all i a many are more = record {
  each = λ k l. elim (cases_lt k i) [
    | inl b ↦ subst (AreAxesOf (get_or ms k no_moments)) (sym (get_or_append_left all (a ∷ []) no_axes k (omega (arith, b, many)))) (are.each k b)
    | inr c ↦ (
        let here : k ≡ i = omega (arith, l, c) in
        let last : get_or (all ++ a ∷ []) i no_axes ≡ a = ap (λ n. get_or (all ++ a ∷ []) n no_axes) (sym many) ∙ get_or-append_seam all a [] no_axes in
        subst (λ n. AreAxesOf (get_or ms n no_moments) (get_or (all ++ a ∷ []) n no_axes)) (sym here)
        (subst (AreAxesOf (get_or ms i no_moments)) (sym last) more))
  ];
}
