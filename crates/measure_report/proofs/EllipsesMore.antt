-- The ellipses of some objects, with that of one object more.
-- Lists alone.
use Rattle.std.proofs.Common.{◌≡◌, inl, inr, ℕ, ◌+◌, List, [], ◌∷◌, ◌++◌, length, get_or, ap, sym, subst, ◌∙◌, arith}
use Rattle.std.proofs.Math.Seq.{get_or-append_seam}
use Rattle.std.proofs.lemmas.Bool.{cases_lt}
use Rattle.std.proofs.lemmas.List.{get_or_append_left}
use Rattle.measure_terms.specs.Moments.{Moments}
use Rattle.measure_terms.specs.Ellipse.{Ellipse}
use Rattle.measure_report.specs.MomentColumns.{no_moments, no_ellipse, IsEllipseOf, AreEllipses}

pub ellipse_more : (ms : List Moments) (es : List Ellipse) (i : ℕ) (e : Ellipse) → length es ≡ i → AreEllipses i ms es → IsEllipseOf (get_or ms i no_moments) e
    → AreEllipses (i + 1) ms (es ++ e ∷ [])
ellipse_more ms es i e many are more = record {
  each = λ k l. elim (cases_lt k i) [
    | inl b ↦ subst (IsEllipseOf (get_or ms k no_moments)) (sym (get_or_append_left es (e ∷ []) no_ellipse k (omega (arith, b, many)))) (are.each k b)
    | inr c ↦ (
        let here : k ≡ i = omega (arith, l, c) in
        let last : get_or (es ++ e ∷ []) i no_ellipse ≡ e = ap (λ n. get_or (es ++ e ∷ []) n no_ellipse) (sym many) ∙ get_or-append_seam es e [] no_ellipse in
        subst (λ n. IsEllipseOf (get_or ms n no_moments) (get_or (es ++ e ∷ []) n no_ellipse)) (sym here)
        (subst (IsEllipseOf (get_or ms i no_moments)) (sym last) more))
  ];
}
