-- The size of the hull of an object is one: by labels it is that of the component, and two lists of one picture's components agree.
-- Sets of pixels and their corners alone.
use Rattle.std.proofs.Common.{◌≡◌, ◌⊎◌, inl, inr, ℕ, ◌+◌, ◌*◌, ◌<◌, ◌≤◌, ◌∷◌, [], List, length, get_or, refl, ap, sym, subst, ◌∙◌, arith}
use Rattle.std.proofs.Math.IntN.{ℤ, pos, ◌+ℤ◌, ◌-ℤ◌, ◌*ℤ◌}
use Rattle.std.specs.List.{Contains}
use Rattle.std.proofs.lemmas.Int.{ints}
use Rattle.shape_terms.proofs.Products.{rings}
use Rattle.shape_terms.specs.Points.{Point}
use Rattle.shape_terms.specs.Pictures.{Picture}
use Rattle.shape_terms.specs.Parts.{LabelsObject}
use Rattle.measure_terms.specs.Feret.{HasLabel}
use Rattle.measure_terms.specs.Rounding.{IsQuotientRoot}
use Rattle.measure_terms.specs.Measures.{Measures, greatest}
use Rattle.measure_terms.specs.Tables.{IsTable}
use Rattle.measure_terms.specs.Components.{component}
use Rattle.measure_terms.specs.Hulls.{Corner, IsCornerOf, IsCornerOfPixel, IsHull, end, turn, vertex}
use Rattle.measure_terms.specs.Widths.{Width, IsLeastSide, IsLeastWidth}
use Rattle.measure_terms.specs.HullSizes.{HullSize, IsSizeOfPolygon, IsHullSize, AreHulls, HullsComponents}
use Rattle.measure_terms.proofs.TableOfComponents.{some_of_labels, has_label, in_component, table_length}
use Rattle.measure_terms.proofs.Hulled.{same_hull, hull_of_three}
use Rattle.measure_terms.proofs.OneWidth.{one_across, one_length, one_side}
use Rattle.measure_terms.proofs.OneHull.{one_hull}
use Rattle.measure_terms.proofs.NarrowestSides.{least_of_all}

-- ---- the same set of pixels

same_corners : (S T : Point → Type 0) (c : Corner) → ((p : Point) → S p → T p) → IsCornerOf S c → IsCornerOf T c
same_corners S T c to h = record { x = h.x; y = h.y; pixel = to (h.x ∷ h.y ∷ []) h.pixel; corner = h.corner }

pub same_size : (S T : Point → Type 0) (z : HullSize) → ((p : Point) → S p → T p) → ((p : Point) → T p → S p) → IsHullSize S z → IsHullSize T z
same_size S T z to back h = record {
  hull = h.hull;
  is = same_hull (IsCornerOf S) (IsCornerOf T) h.hull (λ c. same_corners S T c to) (λ c. same_corners T S c back) h.is;
  width = h.width;
  size = h.size;
}

-- ---- a hull of corners has three vertices or more

corner_turns : (x y : ℤ) → turn (record { x = x; y = y }) (record { x = x +ℤ pos 1; y = y }) (record { x = x; y = y +ℤ pos 1 }) ≡ pos 1
corner_turns x y = unit x y (x +ℤ pos 1) (y +ℤ pos 1) (omega (arith, ints)) (omega (arith, ints)) (omega (arith, ints)) (omega (arith, ints))
  where
    unit : (a b c d : ℤ) → c -ℤ a ≡ pos 1 → d -ℤ b ≡ pos 1 → b -ℤ b ≡ pos 0 → a -ℤ a ≡ pos 0 → (c -ℤ a) *ℤ (d -ℤ b) -ℤ (b -ℤ b) *ℤ (a -ℤ a) ≡ pos 1
    unit a b c d e f g h = cc

not_one : (z : ℤ) → z ≡ pos 1 → z ≡ pos 0 → ⊥
not_one z e f = absurd (omega (arith, ints, e, f))

pub hull_of_corners : (S : Point → Type 0) (h : List Corner) → IsHull (IsCornerOf S) h → 3 ≤ length h
hull_of_corners S h is =
    let w = is.once.within in
    let c = is.of 0 (omega (arith, w)) in
    let x = c.x in
    let y = c.y in
    let p : Corner = record { x = x; y = y } in
    let q : Corner = record { x = x +ℤ pos 1; y = y } in
    let r : Corner = record { x = x; y = y +ℤ pos 1 } in
    hull_of_three (IsCornerOf S) h p q r is
    (record { x = x; y = y; pixel = c.pixel; corner = record { column = inl refl; row = inl refl } })
    (record { x = x; y = y; pixel = c.pixel; corner = record { column = inr refl; row = inl refl } })
    (record { x = x; y = y; pixel = c.pixel; corner = record { column = inl refl; row = inr refl } })
    (not_one (turn p q r) (corner_turns x y))

-- ---- one size

whole : (m n : ℕ) → pos m ≡ pos n → m ≡ n
whole m n e = omega (arith, ints, e)

same_numbers : (y z : HullSize) → y.double_area ≡ z.double_area → y.perimeter ≡ z.perimeter → y.across ≡ z.across → y.length ≡ z.length
    → y.min_feret ≡ z.min_feret → y.dx ≡ z.dx → y.dy ≡ z.dy → y ≡ z
same_numbers y z a b c d e f g = λ i. record { double_area = a i; perimeter = b i; across = c i; length = d i; min_feret = e i; dx = f i; dy = g i }

-- a root of a quotient is one
one_root : (s t a b : ℕ) → IsQuotientRoot s t a → IsQuotientRoot s t b → a ≡ b
one_root s t a b h k =
    let c : (a ≡ b) ⊎ (a < b) ⊎ (b < a) = grind arith in
    elim c [
      | inl e ↦ e
      | inr d ↦ elim d [
        | inl l ↦ absurd (let x = k.low a l in let y = h.high in omega (arith, x, y))
        | inr l ↦ absurd (let x = h.low b l in let y = k.high in omega (arith, x, y))
      ]
    ]

size_of_polygon : (h : List Corner) (v w : Width) (y z : HullSize) → IsSizeOfPolygon h v y → IsSizeOfPolygon h w z → y ≡ z
size_of_polygon h v w y z a b =
    let e = one_side h v w a.least b.least in
    let across = whole y.across z.across (a.across ∙ one_across h v w a.least.is b.least.is e ∙ sym b.across) in
    let long = whole y.length z.length (a.length ∙ one_length h v w a.least.is b.least.is e ∙ sym b.length) in
    let root = subst (λ t. IsQuotientRoot (z.across * z.across) t y.min_feret) long
    (subst (λ s. IsQuotientRoot (s * s) y.length y.min_feret) across a.min_feret) in
    same_numbers y z
    (whole y.double_area z.double_area (a.double_area ∙ sym b.double_area))
    (whole y.perimeter z.perimeter (a.perimeter ∙ sym b.perimeter))
    across long (one_root (z.across * z.across) z.length y.min_feret z.min_feret root b.min_feret)
    (a.dx ∙ ap (λ i. (end h i).x -ℤ (vertex h i).x) e ∙ sym b.dx)
    (a.dy ∙ ap (λ i. (end h i).y -ℤ (vertex h i).y) e ∙ sym b.dy)

pub one_size : (S : Point → Type 0) (y z : HullSize) → IsHullSize S y → IsHullSize S z → y ≡ z
one_size S y z a b =
    let e = one_hull (IsCornerOf S) a.hull b.hull a.is b.is (hull_of_corners S a.hull a.is) (hull_of_corners S b.hull b.is) in
    size_of_polygon b.hull a.width b.width y z (subst (λ h. IsSizeOfPolygon h a.width y) e a.size) b.size

-- the least width that it tells is the least of all directions
pub size_is_least : (S : Point → Type 0) (z : HullSize) → IsHullSize S z → IsLeastWidth (IsCornerOf S) (pos z.across) (pos z.length)
size_is_least S z h =
    let l = least_of_all (IsCornerOf S) h.hull h.is (hull_of_corners S h.hull h.is) h.width h.size.least in
    subst (λ x. IsLeastWidth (IsCornerOf S) x (pos z.length)) (sym h.size.across)
    (subst (λ x. IsLeastWidth (IsCornerOf S) h.width.across x) (sym h.size.length) l)

-- ---- components

-- the sizes by the labels of a picture's object are those of its components
pub hulls_measure : (X : Picture) (labels : List ℕ) (n : ℕ) (zs : List HullSize) → LabelsObject X labels → n ≤ greatest labels → AreHulls X.sides labels n zs
    → HullsComponents X labels n zs
hulls_measure X labels n zs named few h = record {
  each = λ k d l.
      let p = some_of_labels X labels k named (omega (arith, l, few)) in
      let one = h.each k d p.0 l (has_label X labels k p.0 p.1) in
      same_size (HasLabel X.sides labels (k + 1)) (Contains (component X labels (k + 1))) (get_or zs k d) (λ q. in_component X labels k q named)
      (has_label X labels k) one;
}

-- and two lists of them agree in each row
pub hulls_are_one : (X : Picture) (labels : List ℕ) (n : ℕ) (ys zs : List HullSize) → HullsComponents X labels n ys → HullsComponents X labels n zs
    → (k : ℕ) (d : HullSize) → k < n → get_or ys k d ≡ get_or zs k d
hulls_are_one X labels n ys zs a b k d l = one_size (Contains (component X labels (k + 1))) (get_or ys k d) (get_or zs k d) (a.each k d l) (b.each k d l)

-- the sizes by the labels of a table are those of the components
pub hulls_table : (X left : Picture) (squares : List ℕ) (table : List Measures) (zs : List HullSize) → (h : IsTable X squares left table)
    → AreHulls X.sides h.labels (greatest h.labels) zs
    → HullsComponents X h.labels (length table) zs
hulls_table X left squares table zs h a =
    let len = table_length X left squares table h in
    hulls_measure X h.labels (length table) zs h.named (omega (arith, len)) (subst (λ n. AreHulls X.sides h.labels n zs) (sym len) a)
