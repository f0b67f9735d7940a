use Rattle.std.proofs.Common.{◌≡◌, ℕ, List, Some, length, take, ◌++◌}
use Rattle.std.specs.Prelude.{slice_get}
use Rattle.shape_terms.specs.Traces.{Contour}
use Rattle.shape_line.specs.Found.{stretches_of, IsCoverOf}
use Rattle.shape_analyse.specs.Growing.{Aim, Stands, at_contour, outlined}
use Rattle.shape_analyse.proofs.contour.add_segments.Given as goal

abbrev pub invariant-loop-j : goal.invariant-loop-j
invariant-loop-j l = (X : Aim) (contours : List Contour) (k : ℕ) (contour : Contour) (before : List ℕ) → slice_get contours k ≡ Some contour
    → IsCoverOf contour.points l.cover
    → Stands X contours (outlined k contour (length l.cover)) (before ++ l.fn.report)
    → Stands X contours (at_contour k (length contour.points) (length l.cover) (take l.j (stretches_of l.cover)) 0) (before ++ l.report)
