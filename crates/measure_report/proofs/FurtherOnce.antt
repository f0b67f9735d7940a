-- What further columns tell of the objects of a picture is true of its components, and they tell the same of the same components.
-- Put together from the laws of each kind of column.
use Rattle.std.proofs.Common.{◌≡◌, ◌⊎◌, inl, inr, ℕ, ◌+◌, ◌<◌, ◌≤◌, Bool, List, length, map, get_or, sym, ◌∙◌, subst, arith}
use Rattle.std.specs.Prelude.{IsTrue}
use Rattle.std.specs.List.{Contains}
use Rattle.shape_terms.specs.Points.{Point, in_box, box_points}
use Rattle.shape_terms.specs.Pictures.{Picture, at, object_points}
use Rattle.shape_terms.proofs.Numbered.{object_in_box}
use Rattle.measure_terms.specs.Measures.{Measures, greatest}
use Rattle.measure_terms.specs.Feret.{Feret}
use Rattle.measure_terms.specs.Spacing.{spaced_distance}
use Rattle.measuring.specs.Spaced.{told_or_unit}
use Rattle.measure_terms.specs.Tables.{IsTable}
use Rattle.measure_terms.specs.Components.{component, FeretsComponents}
use Rattle.measure_terms.specs.Minkowski.{Minkowski, MinkowskiComponents}
use Rattle.measure_terms.specs.Moments.{Moments, MomentsComponents}
use Rattle.measure_terms.specs.ThicknessColumns.{ThicknessSum, ThicknessSumsComponents}
use Rattle.measure_terms.proofs.ComponentFerets.{filtered}
use Rattle.measure_terms.proofs.TableOfComponents.{ferets_measure, table_length}
use Rattle.measure_terms.proofs.OctantComponents.{minkowski_table, minkowski_once}
use Rattle.measure_terms.proofs.HullComponents.{hulls_table, hulls_are_one}
use Rattle.measure_terms.proofs.MomentComponents.{moments_table}
use Rattle.measure_terms.proofs.EllipseOnce.{ellipse_once}
use Rattle.measure_terms.proofs.ThicknessComponents.{sums_measure}
use Rattle.shape_thickness.specs.Greatest.{greatest_squares}
use Rattle.masking.specs.Pictures.{told_square}
use Rattle.shape_thickness.proofs.ThicknessLaws.{one_list}
use Rattle.measure_report.specs.FeretColumns.{no_feret}
use Rattle.measure_report.specs.MinkowskiColumns.{no_minkowski}
use Rattle.measure_report.specs.HullColumns.{no_hull}
use Rattle.measure_report.specs.MomentColumns.{no_moments, no_ellipse, IsEllipseOf, AreEllipses}
use Rattle.measure_report.specs.ThicknessColumns.{no_thickness}
use Rattle.measure_report.specs.Further.{Further, AreThick, AreFurther, ThickComponents, FurtherComponents}
use Rattle.measure_report.specs.declared.groups.Groups.{Groups}
use Rattle.measure_report.proofs.FeretsOnce.{feret_once}
use Rattle.measure_report.proofs.Squares.{AreBalls}

-- ---- what is told is true of the components

thick_measure : (object left : Picture) (squares : List ℕ) (rows : List Measures) (ss : List ThicknessSum) → AreBalls object squares
    → (h : IsTable object squares left rows)
    → AreThick object squares h.labels (greatest h.labels) ss → ThickComponents object h.labels (length rows) ss
unfolding AreBalls
thick_measure object left squares rows ss balls h a =
    let local = greatest_squares object (map told_square squares) in
    record {
      local = local;
      are = balls;
      sums = subst (λ n. ThicknessSumsComponents object h.labels n local ss) (sym (table_length object left squares rows h))
          (sums_measure object h.labels (greatest h.labels) local ss h.named a);
    }

pub further_measure : (g : Groups) (d : ℕ) (object left : Picture) (squares : List ℕ) (rows : List Measures) (f : Further) → AreBalls object squares
    → (h : IsTable object squares left rows)
    → AreFurther g d object squares h.labels (greatest h.labels) f → FurtherComponents g d object h.labels (length rows) f
further_measure g d object left squares rows f balls h a = record {
  ferets = ferets_measure (spaced_distance (told_or_unit g.spacing)) object left squares rows f.ferets h a.ferets;
  minkowski = minkowski_table object left squares rows f.minkowski h a.minkowski;
  hulls = λ e. hulls_table object left squares rows f.hulls h (a.hulls e);
  moments = λ asked. moments_table object left squares rows f.moments h (a.moments asked);
  ellipses = λ asked e. subst (λ n. AreEllipses n f.moments f.ellipses) (sym (table_length object left squares rows h)) (a.ellipses asked e);
  thicknesses = λ asked. thick_measure object left squares rows f.thicknesses balls h (a.thicknesses asked);
}

-- ---- and the same of the same components

in_component : (X : Picture) (labels : List ℕ) (k : ℕ) (p : Point) → Contains (component X labels k) p → IsTrue (in_box X.sides p)
in_component X labels k p c = object_in_box X p (filtered (at X) (box_points X.sides) p (filtered _ (object_points X) p c).0).1

same_ferets : (distance : Point → Point → ℕ) (X : Picture) (labels : List ℕ) (n : ℕ) (fs gs : List Feret) → FeretsComponents distance X labels n fs
    → FeretsComponents distance X labels n gs → (j : ℕ) (d : Feret) → j < n
    → get_or fs j d ≡ get_or gs j d
same_ferets distance X labels n fs gs a b j d l =
    feret_once distance X.sides (Contains (component X labels (j + 1))) (in_component X labels (j + 1)) (get_or fs j d) (get_or gs j d) (a.each j d l)
    (b.each j d l)

same_minkowski : (X : Picture) (labels : List ℕ) (n : ℕ) (ms ns : List Minkowski) → MinkowskiComponents X labels n ms → MinkowskiComponents X labels n ns
    → (j : ℕ) → j < n
    → get_or ms j no_minkowski ≡ get_or ns j no_minkowski
same_minkowski X labels n ms ns a b j l = minkowski_once (Contains (component X labels (j + 1))) (get_or ms j no_minkowski) (get_or ns j no_minkowski)
    (a.each j no_minkowski l) (b.each j no_minkowski l)

same_moments : (X : Picture) (labels : List ℕ) (n : ℕ) (ms ns : List Moments) → MomentsComponents X labels n ms → MomentsComponents X labels n ns → (j : ℕ)
    → j < n
    → get_or ms j no_moments ≡ get_or ns j no_moments
same_moments X labels n ms ns a b j l = a.each j no_moments l ∙ sym (b.each j no_moments l)

-- an object has one ellipse, whether it has a point or not
one_ellipse : (m : Moments) (e f : _) → IsEllipseOf m e → IsEllipseOf m f → e ≡ f
one_ellipse m e f a b =
    let split : (m.count ≡ 0) ⊎ (1 ≤ m.count) = grind arith in
    elim split [
      | inl z ↦ a.none z ∙ sym (b.none z)
      | inr some ↦ ellipse_once m e f (a.some some) (b.some some)
    ]

same_ellipses : (n : ℕ) (ms ns : List Moments) (es fs : _) → AreEllipses n ms es → AreEllipses n ns fs → (j : ℕ) → j < n
    → get_or ms j no_moments ≡ get_or ns j no_moments
    → get_or es j no_ellipse ≡ get_or fs j no_ellipse
same_ellipses n ms ns es fs a b j l same =
    one_ellipse (get_or ns j no_moments) (get_or es j no_ellipse) (get_or fs j no_ellipse)
    (subst (λ m. IsEllipseOf m (get_or es j no_ellipse)) same (a.each j l)) (b.each j l)

same_thick : (X : Picture) (labels : List ℕ) (n : ℕ) (ss us : List ThicknessSum) → ThickComponents X labels n ss → ThickComponents X labels n us → (j : ℕ)
    → j < n
    → get_or ss j no_thickness ≡ get_or us j no_thickness
same_thick X labels n ss us a b j l =
    let local = one_list X a.local b.local a.are b.are in
    let mine = subst (λ ts. ThicknessSumsComponents X labels n ts ss) local a.sums in
    mine.each j no_thickness l ∙ sym (b.sums.each j no_thickness l)

-- the entries of one component in what is told of it twice
pub record SameEntries (g : Groups) (d : ℕ) (f h : Further) (j : ℕ) : Type 0 where
  pub ferets : (solid : Bool) → get_or f.ferets j (no_feret solid) ≡ get_or h.ferets j (no_feret solid)
  pub minkowski : get_or f.minkowski j no_minkowski ≡ get_or h.minkowski j no_minkowski
  pub hulls : d ≡ 2 → get_or f.hulls j no_hull ≡ get_or h.hulls j no_hull
  pub moments : IsTrue g.moments → get_or f.moments j no_moments ≡ get_or h.moments j no_moments
  pub ellipses : IsTrue g.moments → d ≡ 2 → get_or f.ellipses j no_ellipse ≡ get_or h.ellipses j no_ellipse
  pub thicknesses : IsTrue g.thickness → get_or f.thicknesses j no_thickness ≡ get_or h.thicknesses j no_thickness

pub further_once : (g : Groups) (d : ℕ) (X : Picture) (labels : List ℕ) (n : ℕ) (f h : Further) → FurtherComponents g d X labels n f
    → FurtherComponents g d X labels n h → (j : ℕ) → j < n → SameEntries g d f h j
further_once g d X labels n f h a b j l =
    let moments = λ (asked : IsTrue g.moments). same_moments X labels n f.moments h.moments (a.moments asked) (b.moments asked) j l in
    record {
      ferets = λ solid. same_ferets (spaced_distance (told_or_unit g.spacing)) X labels n f.ferets h.ferets a.ferets b.ferets j (no_feret solid) l;
      minkowski = same_minkowski X labels n f.minkowski h.minkowski a.minkowski b.minkowski j l;
      hulls = λ e. hulls_are_one X labels n f.hulls h.hulls (a.hulls e) (b.hulls e) j no_hull l;
      moments = moments;
      ellipses = λ asked e. same_ellipses n f.moments h.moments f.ellipses h.ellipses (a.ellipses asked e) (b.ellipses asked e) j l (moments asked);
      thicknesses = λ asked. same_thick X labels n f.thicknesses h.thicknesses (a.thicknesses asked) (b.thicknesses asked) j l;
    }
