-- The law of the contours of a component, in the whole plane and in the framed box.
-- It is put together here of what was shown over any set of points that suits.
use Rattle.std.proofs.Common.{◌≡◌, ℕ, Bool, false, List, length, inl, inr, ◌+◌, arith}
use Rattle.std.proofs.lemmas.Bool.{cases_Bool, both_ways}
use Rattle.std.proofs.Math.Bool.{Bool-discrete}
use native.Mathlib.Decide.{ℕ_discrete}
use Rattle.shape_terms.specs.Points.{Point, IsPoint}
use Rattle.shape_terms.specs.Pictures.{Picture}
use Rattle.shape_terms.specs.Contours.{Crack, AreCycles}
use Rattle.shape_terms.specs.Parts.{InFrame, HasParts}
use Rattle.shape_terms.specs.Adjacency.{Side}
use Rattle.shape_terms.proofs.PartCount.{one_count}
use Rattle.shape_terms.specs.Places.{in_frame}
use Rattle.shape_terms.proofs.FramedNumbers.{frame_tested, frame_is}
use Rattle.measure_terms.specs.ComponentContours.{IsComponent, Complement, contours_of}
use Rattle.measure_terms.specs.Holes.{InHole, inner_contours}
use Rattle.measure_terms.specs.Jordan.{Jordan}
use Rattle.measure_terms.proofs.OneContour.{contour_cracks}
use Rattle.measure_terms.proofs.ContoursBound.{contours_bound}
use Rattle.measure_terms.proofs.Counting.{as_many}
use Rattle.measure_terms.proofs.ManyContours.{contours_once, contour_crack}
use Rattle.measure_terms.proofs.HoleContours.{level, holes_bound, as_many_holes, one_more}
use Rattle.measure_terms.proofs.Bounded.{bounded_parts}
use Rattle.measure_terms.proofs.Fields.{Suits, plane_suits, frame_suits}

-- ---- whether a point is in the set

both : {A B : Type 0} → Dec A → Dec B → Dec (A × B)
both (yes a) (yes b) = yes (a, b)
both (yes a) (no n) = no (λ h. n h.1)
both (no n) d = no (λ h. n h.0)

in_plane : (K : Point → Bool) (p : Point) → Dec (Complement (IsPoint 2) K p)
in_plane K p = both (ℕ_discrete (length p) 2) (Bool-discrete (K p) false)

framed : (s : List ℕ) (p : Point) → Dec (InFrame s p)
framed s p = elim (cases_Bool (in_frame s p)) [
  | inl t ↦ yes (frame_is s p t)
  | inr f ↦ no (λ h. both_ways (in_frame s p) f (frame_tested s p h))
]

in_framed_box : (s : List ℕ) (K : Point → Bool) (p : Point) → Dec (Complement (InFrame s) K p)
in_framed_box s K p = both (framed s p) (Bool-discrete (K p) false)

-- ---- the law

law : (F : Point → Type 0) (X : Picture) (axes : length X.sides ≡ 2) (K : Point → Bool) (part : IsComponent X K) (cycles : List (List Crack))
    → AreCycles X cycles
    → Suits F X K part → ((p : Point) → Dec (Complement F K p)) → Jordan X F K cycles
law F X axes K part cycles are s decided =
    let bounds = contours_bound F s.flat X axes s.around s.wide K part cycles are s.some in
    record {
      cracks = contour_cracks X axes K part cycles are;
      contours = bounds;
      count = as_many (contours_of K cycles) (Complement F K) decided bounds (contours_once X K cycles are) (contour_crack X K cycles are);
      level = level F s.flat X axes s.around s.wide K part cycles are s.some s.far;
      holes = holes_bound F s.flat X axes s.around s.wide K part cycles are s.some s.far;
      hole_count = as_many_holes F s.flat X axes s.around s.wide K part cycles are s.some s.far decided;
      outer = one_more F s.flat X axes s.around s.wide K part cycles are s.some s.far;
    }

pub jordan_in_the_plane : (X : Picture) → length X.sides ≡ 2 → (K : Point → Bool) (cycles : List (List Crack)) → IsComponent X K → AreCycles X cycles
    → Jordan X (IsPoint 2) K cycles
jordan_in_the_plane X axes K cycles part are = law (IsPoint 2) X axes K part cycles are (plane_suits X axes K part) (in_plane K)

pub jordan_in_the_frame : (X : Picture) → length X.sides ≡ 2 → (K : Point → Bool) (cycles : List (List Crack)) → IsComponent X K → AreCycles X cycles
    → Jordan X (InFrame X.sides) K cycles
jordan_in_the_frame X axes K cycles part are = law (InFrame X.sides) X axes K part cycles are (frame_suits X axes K part) (in_framed_box X.sides K)

-- ---- the law in the words of textbooks

pub holes_in_the_plane : (X : Picture) → length X.sides ≡ 2 → (K : Point → Bool) (cycles : List (List Crack)) → IsComponent X K → AreCycles X cycles
    → HasParts Side (InHole K) (length (inner_contours K cycles))
holes_in_the_plane X axes K cycles part are =
    bounded_parts X axes K part (length (inner_contours K cycles)) (jordan_in_the_plane X axes K cycles part are).hole_count

-- one contour more than there are bounded components of what is not in the component
pub one_more_than_holes : (X : Picture) → length X.sides ≡ 2 → (K : Point → Bool) (cycles : List (List Crack)) → IsComponent X K → AreCycles X cycles
    → (n : ℕ) → HasParts Side (InHole K) n → length (contours_of K cycles) ≡ 1 + n
one_more_than_holes X axes K cycles part are n parts =
    let outer = (jordan_in_the_plane X axes K cycles part are).outer in
    let same = one_count Side (InHole K) (length (inner_contours K cycles)) n (holes_in_the_plane X axes K cycles part are) parts in
    omega arith
