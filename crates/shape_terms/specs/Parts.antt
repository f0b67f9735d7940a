-- Components of sets, and the numbers of components of a picture's object and background.
-- A set is a predicate and an adjacency a relation; no way of finding components is told here.
use Rattle.std.specs.Prelude.{◌≡◌, ℕ, ◌<◌, ◌≤◌, false, List, length, slice_index, IsTrue, pos, negsuc, ◌≤ℤ◌}
use Rattle.std.specs.List.{AllZip}
use Rattle.shape_terms.specs.Points.{Point, box_count, raster_number, raster_point}
use Rattle.shape_terms.specs.Pictures.{Picture, at, object_points, IsBackground}
use Rattle.shape_terms.specs.Adjacency.{Near, Side}

-- ---- components of a set

-- a list of points of Y that leads from the first point to the second, each adjacent to the next
pub data Connected {A : Type 0} (R : A → A → Type 0) (Y : A → Type 0) : A → A → Type 0 where
  here : {p : A} → Y p → Connected R Y p p
  onward : {p q r : A} → Y p → R p q → Connected R Y q r → Connected R Y p r

-- the numbers from 1 to n name the components of Y: each is used, adjacent points have one number, and any two points of one number are connected in Y
pub record NamesParts {A : Type 0} (R : A → A → Type 0) (Y : A → Type 0) (n : ℕ) (label : A → ℕ) : Type 0 where
  pub in_range : (p : A) → Y p → (1 ≤ label p) × (label p ≤ n)
  pub used : (k : ℕ) → 1 ≤ k → k ≤ n → (p : A) × Y p × (label p ≡ k)
  pub adjacent : (p q : A) → Y p → Y q → R p q → label p ≡ label q
  pub connected : (p q : A) → Y p → Y q → label p ≡ label q → Connected R Y p q

-- Y has n components
abbrev pub HasParts : {A : Type 0} → (A → A → Type 0) → (A → Type 0) → ℕ → Type 0
HasParts {A} R Y n = (label : A → ℕ) × NamesParts R Y n label

-- ---- components of a picture

-- the object of the picture as a set of points
abbrev pub Object : Picture → Point → Type 0
Object X p = IsTrue (at X p)

-- each coordinate of the point is from -1 up to the side: the point lies in the framed box
abbrev pub InFrame : List ℕ → Point → Type 0
InFrame sides p = AllZip (λ x n. (negsuc 0 ≤ℤ x) × (x ≤ℤ pos n)) p sides

-- the background of the picture in the framed box
abbrev pub FramedBackground : Picture → Point → Type 0
FramedBackground X p = InFrame X.sides p × IsBackground X p

-- the picture has n object points, o components of the object, and b components of the background in the framed box
pub record Counts (X : Picture) (n o b : ℕ) : Type 0 where
  pub points : n ≡ length (object_points X)
  pub object : HasParts Near (Object X) o
  pub background : HasParts Side (FramedBackground X) b

-- before a place with a label each smaller label from 1 on stands
abbrev pub InOrder : List ℕ → Type 0
InOrder labels = (i j : ℕ) → 1 ≤ j → j < slice_index labels i → (k : ℕ) × (k < i) × (slice_index labels k ≡ j)

-- the labels, in raster order of the box, name the components of the object in the order of their first points; background has the label 0
pub record LabelsObject (X : Picture) (labels : List ℕ) : Type 0 where
  pub filled : length labels ≡ box_count X.sides
  pub background : (i : ℕ) → i < box_count X.sides → at X (raster_point X.sides i) ≡ false → slice_index labels i ≡ 0
  pub parts : (n : ℕ) × NamesParts Near (Object X) n (λ p. slice_index labels (raster_number X.sides p))
  pub ordered : InOrder labels
