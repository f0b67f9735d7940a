-- The sheet: where each face of the box, and each view, stands on it, and which voxel is seen at which place.
-- The box is cut open and folded flat round its face z -, seen from outside: x - at its left, x + at its right and z + right of that, y - above and y + below.
-- So faces
-- that are neighbours on the sheet meet along their common edge. Below the faces stand the views along x, y and z, as one sees the box from the faces x -, y -
-- and z -.
use Rattle.std.specs.Prelude.{ℕ, zero, suc, ◌+◌, ◌-◌, ◌*◌, ◌/◌, ◌<◌, ◌≤◌, max, nat_le, count_by, if◌then◌else◌, List, [], ◌∷◌, slice_index, nat_abs, pos}
use Rattle.std.specs.Prelude.{Option, Some, None}
use Rattle.shape_terms.specs.Limits.{most_solid}
use Rattle.shape_terms.specs.Points.{Point, coordinate, in_box}
use Rattle.drawing.specs.declared.layout.Triple.{Triple}
use Rattle.drawing.specs.declared.layout.Panel.{Panel}
use Rattle.drawing.specs.declared.layout.Panel.TheVariants.{Left, Right, Top, Bottom, Front, Back, AlongX, AlongY, AlongZ}

-- ---- boxes and voxels

-- the sides, as a number for each axis
abbrev pub extent : List ℕ → Triple
extent sides = record { x = slice_index sides 0; y = slice_index sides 1; z = slice_index sides 2 }

-- the coordinates of a point, where it is a voxel of the box
abbrev pub voxel_in : List ℕ → Point → Option Triple
voxel_in sides p = if in_box sides p then Some (record { x = nat_abs (coordinate p 0); y = nat_abs (coordinate p 1); z = nat_abs (coordinate p 2) }) else None

-- the sides of the box of a volume
pub record IsBox (s : Triple) : Type 0 where
  pub some_x : 1 ≤ s.x
  pub some_y : 1 ≤ s.y
  pub some_z : 1 ≤ s.z
  pub most_x : s.x ≤ most_solid
  pub most_y : s.y ≤ most_solid
  pub most_z : s.z ≤ most_solid

-- the voxel is one of the box
pub record IsIn (s v : Triple) : Type 0 where
  pub in_x : v.x < s.x
  pub in_y : v.y < s.y
  pub in_z : v.z < s.z

-- ---- the layout

-- between two parts so many columns or rows are empty
abbrev pub gap : Triple → ℕ
gap s = 1 + max s.x (max s.y s.z) / 16

-- and so many at most
abbrev pub widest_gap : ℕ
widest_gap = 1 + most_solid / 16

-- where the columns of parts begin: as wide as the box is deep, as wide as it is wide, and so again
abbrev pub column : Triple → ℕ → ℕ
column s zero = 0
column s (suc zero) = s.z + gap s
column s (suc (suc zero)) = s.z + gap s + s.x + gap s
column s _ = s.z + gap s + s.x + gap s + s.z + gap s

-- where the rows of parts begin
abbrev pub row : Triple → ℕ → ℕ
row s zero = 0
row s (suc zero) = s.z + gap s
row s (suc (suc zero)) = s.z + gap s + s.y + gap s
row s _ = s.z + gap s + s.y + gap s + s.z + gap s

-- the column and the row in which a part begins
abbrev pub left : Triple → Panel → ℕ
left s Left = column s 0
left s Front = column s 1
left s Right = column s 2
left s Back = column s 3
left s Top = column s 1
left s Bottom = column s 1
left s AlongX = column s 0
left s AlongY = column s 1
left s AlongZ = column s 2

abbrev pub top : Triple → Panel → ℕ
top s Left = row s 1
top s Front = row s 1
top s Right = row s 1
top s Back = row s 1
top s Top = row s 0
top s Bottom = row s 2
top s AlongX = row s 3
top s AlongY = row s 3
top s AlongZ = row s 3

-- how wide and how high a part is
abbrev pub wide : Triple → Panel → ℕ
wide s Left = s.z
wide s Right = s.z
wide s AlongX = s.z
wide s _ = s.x

abbrev pub high : Triple → Panel → ℕ
high s Top = s.z
high s Bottom = s.z
high s AlongY = s.z
high s _ = s.y

-- the columns and the rows of the whole sheet
abbrev pub sheet_width : Triple → ℕ
sheet_width s = column s 3 + s.x

abbrev pub sheet_height : Triple → ℕ
sheet_height s = row s 3 + max s.y s.z

abbrev pub sheet_sides : Triple → List ℕ
sheet_sides s = sheet_width s ∷ sheet_height s ∷ []

-- ---- where voxels are seen

-- how many columns right of its part's first one a voxel stands
abbrev pub across : Triple → Panel → Triple → ℕ
across s Left v = s.z - 1 - v.z
across s Right v = v.z
across s Back v = s.x - 1 - v.x
across s AlongX v = s.z - 1 - v.z
across s _ v = v.x

-- and how many rows below its first one
abbrev pub down : Triple → Panel → Triple → ℕ
down s Top v = s.z - 1 - v.z
down s Bottom v = v.z
down s AlongY v = s.z - 1 - v.z
down s _ v = v.y

-- the place of the sheet at which a part shows a voxel
abbrev pub place : Triple → Panel → Triple → Point
place s k v = pos (left s k + across s k v) ∷ pos (top s k + down s k v) ∷ []

-- ---- depths

-- how many voxels behind the face of the box a voxel lies
abbrev pub depth : Triple → Panel → Triple → ℕ
depth s Left v = v.x
depth s Right v = s.x - 1 - v.x
depth s Top v = v.y
depth s Bottom v = s.y - 1 - v.y
depth s Front v = v.z
depth s Back v = s.z - 1 - v.z
depth s AlongX v = v.x
depth s AlongY v = v.y
depth s AlongZ v = v.z

-- the side of the box along which a part is looked at
abbrev pub far : Triple → Panel → ℕ
far s Left = s.x
far s Right = s.x
far s AlongX = s.x
far s Top = s.y
far s Bottom = s.y
far s AlongY = s.y
far s _ = s.z

-- how many of the three planes that cut the box into quarters lie before a voxel
abbrev pub quarter : Triple → Panel → Triple → ℕ
quarter s k v = count_by (λ n. nat_le (n * far s k) (4 * depth s k v)) (1 ∷ 2 ∷ 3 ∷ [])
