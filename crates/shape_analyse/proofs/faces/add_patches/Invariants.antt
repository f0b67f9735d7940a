use Rattle.std.proofs.Common.{◌≡◌, [], ℕ, List, length, ◌++◌}
use Rattle.shape_terms.specs.Pictures.{object_points}
use Rattle.shape_terms.specs.Patches.{FoundPatch}
use Rattle.report_terms.specs.FaceFacts.{face_axis}
use Rattle.shape_analyse.specs.Growing.{Aim, IsTextOf}
use Rattle.shape_analyse.specs.Facing.{HasPatches, AreFound}
use Rattle.shape_analyse.proofs.faces.add_patches.Given as goal

abbrev pub invariant-loop-patch : goal.invariant-loop-patch
invariant-loop-patch l = (l.parting.axis ≡ l.fn.parting.axis)
    × ((X : Aim) (f : ℕ) (before : List ℕ) → l.fn.parting.axis ≡ face_axis f → AreFound X f [] l.fn.parting.left
    → IsTextOf (HasPatches X f []) (before ++ l.fn.report)
    → (found : List FoundPatch) × AreFound X f found l.parting.left × IsTextOf (HasPatches X f found) (before ++ l.report))

abbrev pub decreases-loop-patch : goal.decreases-loop-patch
decreases-loop-patch l = length (object_points l.parting.left)
