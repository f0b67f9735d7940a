use Rattle.std.proofs.Common.{[], ◌∷◌, ◌++◌, ℕ, List, length}
use Rattle.shape_terms.specs.Pictures.{Picture}
use Rattle.shape_terms.specs.Patches.{FoundPatch}
use Rattle.shape_analyse.specs.Growing.{Aim, IsTextOf}
use Rattle.shape_analyse.specs.Facing.{IsFacing, AreFound, points_found, at_patch}
use Rattle.shape_analyse.proofs.faces.add_refused.Given as goal

abbrev pub invariant-loop-m : goal.invariant-loop-m
invariant-loop-m l = (X : Aim) (f : ℕ) (found : List FoundPatch) (left : Picture) (before : List ℕ) → AreFound X f (found ++ l.patch.found ∷ []) left
    → IsTextOf (IsFacing X (at_patch f (points_found found) l.patch.found (length l.patch.found.patch.points) 0)) (before ++ l.fn.report)
    → IsTextOf (IsFacing X (at_patch f (points_found found) l.patch.found (length l.patch.found.patch.points) l.m)) (before ++ l.report)
