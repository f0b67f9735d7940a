-- What the lines of a report say of the points of its box: which are object, how far each is from the background, and which are left.
-- Lines are taken as they stand; what is said of a point outside the box does not count.
use Rattle.std.specs.Prelude.{ℕ, Bool, not, ◌&&◌, if◌then◌else◌, List, [], ◌∷◌, map, filter_map, Option, Some, None}
use Rattle.std.specs.List.{list_any}
use Rattle.std.specs.Ordering.{int_eq}
use Rattle.std.specs.Cmp.Lexicographic.{pointwise}
use Rattle.shape_terms.specs.Points.{Point, sides_of, box_points}
use Rattle.shape_terms.specs.Pictures.{Picture}
use Rattle.report_terms.specs.Lines.{Line}

-- the sides that the heading gives
abbrev pub given_sides : List Line → List ℕ
given_sides (Line.Shape h ∷ lines) = sides_of h.sides
given_sides _ = []

-- the two points are one
abbrev pub is_same_point : Point → Point → Bool
is_same_point p q = pointwise int_eq p q

-- the point that a `near` line is about
abbrev pub near_point : Line → Option Point
near_point (Line.Near p q s) = Some p
near_point _ = None

-- the squared distance that a line gives for a point
abbrev pub square_for : Point → Line → Option ℕ
square_for p (Line.Near q _ s) = if is_same_point p q then Some s else None
square_for p _ = None

-- the point that a `del` line takes away
abbrev pub deleted_point : Line → Option Point
deleted_point (Line.Del p) = Some p
deleted_point _ = None

-- some `near` line is about the point
abbrev pub is_near : List Line → Point → Bool
is_near lines p = list_any (is_same_point p) (filter_map near_point lines)

-- some `del` line takes the point away
abbrev pub is_deleted : List Line → Point → Bool
is_deleted lines p = list_any (is_same_point p) (filter_map deleted_point lines)

-- the point is object, and no line takes it away
abbrev pub is_left : List Line → Point → Bool
is_left lines p = is_near lines p && not (is_deleted lines p)

-- the last of the numbers, and this one where there is none
abbrev pub last_or : ℕ → List ℕ → ℕ
last_or n [] = n
last_or n (m ∷ ms) = last_or m ms

-- the squared distance that the last line about the point gives, and 0 where there is none
abbrev pub square_of : List Line → Point → ℕ
square_of lines p = last_or 0 (filter_map (square_for p) lines)

-- a value for each point of the box, in raster order
abbrev pub values_of : {A : Type 0} → List ℕ → (Point → A) → List A
values_of sides f = map f (box_points sides)

-- the picture of the points of the box of which this is true
abbrev pub picture_of : List ℕ → (Point → Bool) → Picture
picture_of sides f = record { sides = sides; values = values_of sides f }

-- what is said of the points of a box: which are object, the squared distance of each, in raster order, and 0 where none is given, which are deleted, and which
-- object points are not
pub record Said : Type 0 where
  pub object : Picture
  pub squares : List ℕ
  pub deleted : Picture
  pub left : Picture

-- what the lines say of the points of a box with these sides
abbrev pub said_in : List ℕ → List Line → Said
said_in sides lines = record {
  object = picture_of sides (is_near lines);
  squares = values_of sides (square_of lines);
  deleted = picture_of sides (is_deleted lines);
  left = picture_of sides (is_left lines);
}

-- what they say of the points of the box that their heading gives
abbrev pub said : List Line → Said
said lines = said_in (given_sides lines) lines
