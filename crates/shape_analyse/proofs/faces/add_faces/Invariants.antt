use Rattle.std.proofs.Common.{◌≡◌, ◌*◌, ◌≤◌, ◌++◌, ℕ, List}
use Rattle.shape_analyse.specs.Growing.{Aim, IsTextOf}
use Rattle.shape_analyse.specs.Facing.{HasFaces}
use Rattle.shape_analyse.specs.Tallies.{exposed_count}
use Rattle.shape_analyse.proofs.faces.add_faces.Given as goal

abbrev pub invariant-loop-face : goal.invariant-loop-face
invariant-loop-face l =
    ((X : Aim) (before : List ℕ) → X.subject.picture ≡ l.grid → IsTextOf (HasFaces X 0) (before ++ l.fn.report)
    → IsTextOf (HasFaces X l.face) (before ++ l.report))
    × (l.exposed ≡ exposed_count l.grid l.face) × (l.exposed ≤ l.face * 4294967296)
