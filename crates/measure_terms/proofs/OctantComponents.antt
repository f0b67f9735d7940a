-- Euler numbers and crossings by the labels of a picture's object are those of its components, and a set has one of each.
-- Sets of points and labels alone.
use Rattle.std.proofs.Common.{◌≡◌, ℕ, ◌+◌, List, get_or, length, subst, sym}
use Rattle.std.specs.List.{Contains}
use Rattle.shape_terms.specs.Points.{Point}
use Rattle.shape_terms.specs.Pictures.{Picture}
use Rattle.shape_terms.specs.Parts.{LabelsObject}
use Rattle.measure_terms.specs.Feret.{HasLabel}
use Rattle.measure_terms.specs.Measures.{Measures, greatest}
use Rattle.measure_terms.specs.Tables.{IsTable}
use Rattle.measure_terms.specs.Components.{component}
use Rattle.measure_terms.specs.Crossings.{LeadsOut, AreCrossings}
use Rattle.measure_terms.specs.Minkowski.{Minkowski, IsMinkowski, AreMinkowski, MinkowskiComponents}
use Rattle.measure_terms.proofs.TableOfComponents.{has_label, in_component, table_length}
use Rattle.measure_terms.proofs.CellsOnce.{euler_once}
use Rattle.measure_terms.proofs.EulersSeen.{same_euler}
use Rattle.measure_terms.proofs.Sizes.{same_size, size_once}

-- the same set of points has the same crossings
pub same_crossings : (S T : Point → Type 0) (m n : ℕ) → ((p : Point) → S p → T p) → ((p : Point) → T p → S p) → AreCrossings S m n → AreCrossings T m n
same_crossings S T m n to back h = same_size (LeadsOut S m) (LeadsOut T m) n
    (λ s l. record { direction = l.direction; class = l.class; within = to s.from l.within; out = λ t. l.out (back _ t) })
    (λ s l. record { direction = l.direction; class = l.class; within = back s.from l.within; out = λ t. l.out (to _ t) }) h

-- and the same numbers
pub same_minkowski : (S T : Point → Type 0) (m : Minkowski) → ((p : Point) → S p → T p) → ((p : Point) → T p → S p) → IsMinkowski S m → IsMinkowski T m
same_minkowski S T m to back h = record {
  euler = same_euler S T m.euler to back h.euler;
  x = same_crossings S T 1 m.x to back h.x;
  y = same_crossings S T 2 m.y to back h.y;
  z = same_crossings S T 4 m.z to back h.z;
  xy = same_crossings S T 3 m.xy to back h.xy;
  xz = same_crossings S T 5 m.xz to back h.xz;
  yz = same_crossings S T 6 m.yz to back h.yz;
  xyz = same_crossings S T 7 m.xyz to back h.xyz;
}

-- a set of points has one of each
pub minkowski_once : (S : Point → Type 0) (m n : Minkowski) → IsMinkowski S m → IsMinkowski S n → m ≡ n
minkowski_once S m n h k =
    let e = euler_once S m.euler n.euler h.euler k.euler in
    let x = size_once (LeadsOut S 1) m.x n.x h.x k.x in
    let y = size_once (LeadsOut S 2) m.y n.y h.y k.y in
    let z = size_once (LeadsOut S 4) m.z n.z h.z k.z in
    let xy = size_once (LeadsOut S 3) m.xy n.xy h.xy k.xy in
    let xz = size_once (LeadsOut S 5) m.xz n.xz h.xz k.xz in
    let yz = size_once (LeadsOut S 6) m.yz n.yz h.yz k.yz in
    let xyz = size_once (LeadsOut S 7) m.xyz n.xyz h.xyz k.xyz in
    λ i. record { euler = e i; x = x i; y = y i; z = z i; xy = xy i; xz = xz i; yz = yz i; xyz = xyz i }

pub minkowski_measure : (X : Picture) (labels : List ℕ) (n : ℕ) (ms : List Minkowski) → LabelsObject X labels → AreMinkowski X.sides labels n ms
    → MinkowskiComponents X labels n ms
minkowski_measure X labels n ms named h = record {
  each = λ k d l. same_minkowski (HasLabel X.sides labels (k + 1)) (Contains (component X labels (k + 1))) (get_or ms k d)
      (λ p. in_component X labels k p named) (has_label X labels k) (h.each k d l);
}

-- those by the labels of a table are those of its components
pub minkowski_table : (X left : Picture) (squares : List ℕ) (table : List Measures) (ms : List Minkowski) → (h : IsTable X squares left table)
    → AreMinkowski X.sides h.labels (greatest h.labels) ms
    → MinkowskiComponents X h.labels (length table) ms
minkowski_table X left squares table ms h m =
    subst (λ n. MinkowskiComponents X h.labels n ms) (sym (table_length X left squares table h)) (minkowski_measure X h.labels (greatest h.labels) ms h.named m)
