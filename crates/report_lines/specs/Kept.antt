-- What is kept of the points of a box while the lines come, and what a line changes of it.
-- That it is what all lines say is a law.
use Rattle.std.specs.Prelude.{◌≡◌, ℕ, true, false, not, if◌then◌else◌, List, length, slice_set}
use Rattle.shape_terms.specs.Points.{Point, in_box, box_count, raster_number}
use Rattle.shape_terms.specs.Pictures.{at, with_value}
use Rattle.report_lines.specs.Said.{Said}

-- pictures and numbers of a box with these sides
pub record AreOf (sides : List ℕ) (s : Said) : Type 0 where
  pub object_sides : s.object.sides ≡ sides
  pub count : length s.squares ≡ box_count sides
  pub deleted_sides : s.deleted.sides ≡ sides
  pub left_sides : s.left.sides ≡ sides

-- the point is object, with this squared distance; it is left where it is not deleted
abbrev pub now_near : Said → Point → ℕ → Said
now_near s p n = record {
  object = with_value s.object p true;
  squares = slice_set s.squares (raster_number s.object.sides p) n;
  deleted = s.deleted;
  left = if not (at s.deleted p) then with_value s.left p true else s.left;
}

-- the same where the point is in the box; no other point counts
abbrev pub with_near : Said → Point → ℕ → Said
with_near s p n = if in_box s.object.sides p then now_near s p n else s

-- the point is deleted, and is not left
abbrev pub now_deleted : Said → Point → Said
now_deleted s p = record { object = s.object; squares = s.squares; deleted = with_value s.deleted p true; left = with_value s.left p false }

-- the same where the point is in the box; no other point counts
abbrev pub with_deleted : Said → Point → Said
with_deleted s p = if in_box s.object.sides p then now_deleted s p else s
