use Rattle.std.proofs.Common.{◌≡◌, ◌≤◌, ℕ, List, length, drop}
use Rattle.shape_terms.specs.Pictures.{object_points, objects_from}
use Rattle.shape_terms.specs.Thinning.{Rule}
use Rattle.shape_terms.specs.Shelves.{Named}
use Rattle.shape_desk.specs.Desk.{DeskState}
use Rattle.report_text.specs.Telling.{Tells}
use Rattle.shape_analyse.specs.Growing.{aim_of, IsGrowing, IsTextOf}
use Rattle.shape_analyse.proofs.begin.tell_nears.Given as goal

abbrev pub invariant-loop-p : goal.invariant-loop-p
invariant-loop-p g l =
    (goal.iterator-loop-p g).can_next l.p-iterator
    × (goal.iterator-loop-p g).is_finite l.p-iterator
    × (drop l.i (object_points l.grid) ≡ objects_from l.p-iterator.grid.now l.p-iterator.next)
    × (l.i ≤ length (object_points l.grid))
    × ((shelf : List (Named Rule)) (name : List ℕ) (by : Rule) (begun : DeskState)
    → Tells (IsTextOf (IsGrowing (aim_of l.grid shelf name by) 0)) begun l.fn.page (g.D.Desk.state l.fn.desk)
    → Tells (IsTextOf (IsGrowing (aim_of l.grid shelf name by) l.i)) begun l.page (g.D.Desk.state l.desk))
