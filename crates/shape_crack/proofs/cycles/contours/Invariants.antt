use Rattle.std.proofs.Common.{◌≡◌, ◌≤◌, ◌-◌, ◌*◌, length}
use Rattle.shape_crack.specs.MarkBits.{is_marked}
use Rattle.shape_crack.proofs.Listing.{Listing}
use Rattle.shape_crack.proofs.cycles.contours.Given as goal

abbrev pub invariant-loop-i : goal.invariant-loop-i
invariant-loop-i l = record {
  listing : Listing l.grid (l.next * 4) (is_marked l.marks) l.list.items;
  room : length l.marks.upper ≡ l.count;
  low : l.next ≤ l.count;
}

abbrev pub decreases-loop-i : goal.decreases-loop-i
decreases-loop-i l = l.count - l.next
