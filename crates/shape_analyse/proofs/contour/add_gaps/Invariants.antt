use Rattle.std.proofs.Common.{◌≡◌, ◌*◌, ℕ, List, Some, ◌++◌}
use Rattle.std.specs.Prelude.{slice_get}
use Rattle.shape_terms.specs.Traces.{Contour}
use Rattle.shape_line.specs.Found.{IsCoverOf}
use Rattle.shape_analyse.specs.Growing.{Aim, Stands, covered}
use Rattle.shape_analyse.proofs.contour.add_gaps.Given as goal

abbrev pub invariant-loop-j : goal.invariant-loop-j
invariant-loop-j l = (X : Aim) (contours : List Contour) (k : ℕ) (contour : Contour) (before : List ℕ) → slice_get contours k ≡ Some contour
    → IsCoverOf contour.points l.cover
    → Stands X contours (covered k contour l.cover 0) (before ++ l.fn.report)
    → Stands X contours (covered k contour l.cover (2 * l.j)) (before ++ l.report)
