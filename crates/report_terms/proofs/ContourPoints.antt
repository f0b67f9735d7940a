-- The points of a picture's contours are object points, so they lie in its box, and so do the points of each arc.
-- Lists of cracks and points alone.
use Rattle.std.proofs.Common.{inl, inr, ℕ, ◌+◌, ◌<◌, ◌%◌, Bool, true, false, sym, subst, arith, List, [], ◌∷◌, length}
use Rattle.std.specs.Prelude.{All, Contains, IsTrue, not, filter, map, flat_map, if◌then◌else◌, ◌==◌}
use Rattle.std.proofs.lemmas.Bool.{cond-true, cond-false, cases_Bool}
use Rattle.std.proofs.lemmas.List.Elements.{All-nil, All-cons, All-head, All-tail, Contains-append_left, Contains-append_right}
use Rattle.shape_terms.specs.Points.{Point, in_box}
use Rattle.shape_terms.specs.Pictures.{Picture}
use Rattle.shape_terms.specs.Refutations.{point_at}
use Rattle.shape_terms.specs.Contours.{Crack, IsCrack, IsCycle, stays, left_pixels, contour_points}
use Rattle.shape_terms.specs.Traces.{Contour, AreContours, contour_of}
use Rattle.shape_terms.specs.Covers.{arc}
use Rattle.shape_terms.proofs.ArcRuns.{length-arc, arc-get}
use Rattle.shape_terms.proofs.Numbered.{object_in_box}
use Rattle.shape_terms.proofs.SameCycles.{head_in, later_in}

-- the point lies in the box of the picture
abbrev pub IsInside : Picture → Point → Type 0
IsInside X p = IsTrue (in_box X.sides p)

module _ (X : Picture) where
  left_inside : (cracks : List Crack) → ((c : Crack) → Contains cracks c → IsCrack X c) → All (IsInside X) (left_pixels X cracks)
  left_inside [] h = All-nil (IsInside X)
  left_inside (c ∷ cracks) h =
      let rest = left_inside cracks (λ d i. h d (later_in c cracks d i)) in
      elim (cases_Bool (not (stays X c))) [
        | inl t ↦ subst (λ cs. All (IsInside X) (map (λ (k : Crack). k.pixel) cs))
            (sym (cond-true (not (stays X c)) (c ∷ filter (λ k. not (stays X k)) cracks) (filter (λ k. not (stays X k)) cracks) t))
            (All-cons (IsInside X) c.pixel (left_pixels X cracks) (inside c (h c (head_in c cracks))) rest)
        | inr f ↦ subst (λ cs. All (IsInside X) (map (λ (k : Crack). k.pixel) cs))
            (sym (cond-false (not (stays X c)) (c ∷ filter (λ k. not (stays X k)) cracks) (filter (λ k. not (stays X k)) cracks) f)) rest
      ]
    where
      inside : (c : Crack) → IsCrack X c → IsInside X c.pixel
      inside c is = object_in_box X c.pixel is.pixel

  points_inside : (c : Crack) (cracks : List Crack) → ((d : Crack) → Contains (c ∷ cracks) d → IsCrack X d) → All (IsInside X) (contour_points X (c ∷ cracks))
  points_inside c cracks h = go (length (left_pixels X (c ∷ cracks)) == 0)
    where
      inside : IsInside X c.pixel
      inside = object_in_box X c.pixel (h c (head_in c cracks)).pixel

      go : (b : Bool) → All (IsInside X) (if b then (c.pixel ∷ []) else left_pixels X (c ∷ cracks))
      go true = All-cons (IsInside X) c.pixel [] inside (All-nil (IsInside X))
      go false = left_inside (c ∷ cracks) h

  cycles_inside : (cycles : List (List Crack)) → All (IsCycle X) cycles → ((c : Crack) → Contains (flat_map (λ x. x) cycles) c → IsCrack X c)
      → All (λ (k : Contour). All (IsInside X) k.points) (map (contour_of X) cycles)
  cycles_inside [] a each = All-nil (λ (k : Contour). All (IsInside X) k.points)
  cycles_inside ([] ∷ cycles) a each = absurd (All-head (IsCycle X) [] cycles a)
  cycles_inside ((c ∷ cracks) ∷ cycles) a each =
      All-cons (λ (k : Contour). All (IsInside X) k.points) (contour_of X (c ∷ cracks)) (map (contour_of X) cycles)
      (points_inside c cracks (λ d i. each d (Contains-append_left (c ∷ cracks) (flat_map (λ x. x) cycles) d i)))
      (cycles_inside cycles (All-tail (IsCycle X) (c ∷ cracks) cycles a) (λ d i. each d (Contains-append_right (c ∷ cracks) (flat_map (λ x. x) cycles) d i)))

  -- each point of each contour lies in the box
  pub contours_inside : (contours : List Contour) → AreContours X contours → All (λ (k : Contour). All (IsInside X) k.points) contours
  contours_inside contours are = subst (All (λ (k : Contour). All (IsInside X) k.points)) (sym are.contours_are)
      (cycles_inside are.cycles are.are.cycle (λ c i. (are.are.each c).1 i))

-- what is true of each point of a contour is true of each point of an arc
pub arc_at : (P : Point → Type 0) (points : List Point) (b e i : ℕ) → All P points → b < length points → i < length (arc points b e)
    → P (point_at (arc points b e) i)
arc_at P points b e i h some l =
    let n = length-arc points b e in
    let q : (b + i) % length points < length points = omega arith in
    subst P (sym (arc-get points b e i (omega (arith, n, l)))) (h ((b + i) % length points) [] q)
