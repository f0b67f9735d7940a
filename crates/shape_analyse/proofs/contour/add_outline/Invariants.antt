use Rattle.std.proofs.Common.{◌≡◌, ℕ, List, [], Some, ◌++◌}
use Rattle.std.specs.Prelude.{slice_get}
use Rattle.shape_terms.specs.Traces.{Contour}
use Rattle.shape_analyse.specs.Growing.{Aim, HasOutlined, IsTextOf, Stands, at_contour}
use Rattle.shape_analyse.proofs.contour.add_outline.Given as goal

abbrev pub invariant-loop-i : goal.invariant-loop-i
invariant-loop-i l = (X : Aim) (contours : List Contour) (k : ℕ) (before : List ℕ) → slice_get contours k ≡ Some l.contour
    → IsTextOf (HasOutlined X contours k) (before ++ l.fn.report)
    → Stands X contours (at_contour k l.i l.segments [] 0) (before ++ l.report)
