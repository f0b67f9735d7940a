-- The object points of a picture from a raster number on, as they are walked over: which is the next, and where none stands.
-- Laws over pictures and points.
use Rattle.std.proofs.Common.{◌≡◌, ℕ, ◌+◌, ◌-◌, ◌<◌, ◌≤◌, true, ap, sym, ◌∙◌, subst, arith, inl, inr, List, [], ◌∷◌, drop, get_or}
use Rattle.std.specs.Prelude.{Contains}
use Rattle.std.proofs.lemmas.Bool.{cases_lt}
use Rattle.std.proofs.lemmas.List.{get_or-drop, length-drop}
use Rattle.shape_terms.specs.Points.{Point, box_count, box_points, raster_number, raster_point}
use Rattle.shape_terms.specs.Pictures.{Picture, at, objects_from}
use Rattle.shape_terms.proofs.Members.{Contains-filter}
use Rattle.shape_terms.proofs.SameCycles.{head_in, in_cases, in_none}
use Rattle.shape_terms.proofs.Boxes.{raster_below, raster_number-raster_point, raster_point-raster_number}
use Rattle.shape_terms.proofs.BoxLists.{length-box_points, get_or-box_points}
use Rattle.shape_terms.proofs.PointLists.{is_there}
use Rattle.judge_outline.specs.Exposure.{exposed_at, IsLeft, AreLeft, AreTakenBelow}
use Rattle.judge_outline.proofs.Exposing.{kept, in_of_at}

-- ---- where they stand

object_behind : (X : Picture) (a : ℕ) (q : Point) → at X q ≡ true → a ≤ raster_number X.sides q → Contains (objects_from X a) q
object_behind X a q t l =
    let n = raster_number X.sides q in
    let b = raster_below X.sides q (in_of_at X q t) in
    let there : Contains (drop a (box_points X.sides)) q = (
      n - a,
      omega (arith, length-drop a (box_points X.sides), length-box_points X.sides, b),
      get_or-drop a (box_points X.sides) (n - a) q
          ∙ ap (λ k. get_or (box_points X.sides) k q) (omega arith) ∙ get_or-box_points X.sides n q b ∙ raster_point-raster_number X.sides q (in_of_at X q t),
    ) in
    Contains-filter (at X) (drop a (box_points X.sides)) q there t

behind_number : (X : Picture) (a : ℕ) (q : Point) → Contains (objects_from X a) q → a ≤ raster_number X.sides q
behind_number X a q c =
    let (k, l, e) = (kept (at X) (drop a (box_points X.sides)) q c).1 in
    let m : a + k < box_count X.sides = omega (arith, length-drop a (box_points X.sides), length-box_points X.sides, l) in
    let p : raster_point X.sides (a + k) ≡ q = sym (get_or-box_points X.sides (a + k) q m) ∙ sym (get_or-drop a (box_points X.sides) k q) ∙ e in
    omega (arith, ap (raster_number X.sides) (sym p) ∙ raster_number-raster_point X.sides (a + k) m)

-- the next object point is one
pub next_is_object : (X : Picture) (a : ℕ) (p : Point) (rest : List Point) → objects_from X a ≡ p ∷ rest → at X p ≡ true
next_is_object X a p rest e = (kept (at X) (drop a (box_points X.sides)) p (subst (λ l. Contains l p) (sym e) (head_in p rest))).0

-- no object point stands before the next one
none_between : (X : Picture) (a i : ℕ) (q : Point) → i < box_count X.sides → objects_from X a ≡ raster_point X.sides i ∷ objects_from X (i + 1) → at X q ≡ true
    → a ≤ raster_number X.sides q → raster_number X.sides q < i → ⊥
none_between X a i q b e t l h = elim (in_cases (raster_point X.sides i) (objects_from X (i + 1)) q (subst (λ l. Contains l q) e (object_behind X a q t l))) [
  | inl s ↦ omega (arith, ap (raster_number X.sides) (sym s) ∙ raster_number-raster_point X.sides i b)
  | inr c ↦ omega (arith, behind_number X (i + 1) q c)
]

-- where a picture has the exposed points that are not taken, all with smaller raster numbers than its next point are taken
module _ (X : Picture) (face : ℕ) (taken : List Point) (L : Picture) (same : L.sides ≡ X.sides) (h : AreLeft (exposed_at X face) taken L) (a : ℕ)
    (below : AreTakenBelow X face taken a) where
  number : (q : Point) → raster_number L.sides q ≡ raster_number X.sides q
  number q = ap (λ s. raster_number s q) same

  pub taken_up_to : (i : ℕ) → i < box_count L.sides → objects_from L a ≡ raster_point L.sides i ∷ objects_from L (i + 1) → AreTakenBelow X face taken i
  taken_up_to i b e q c l = elim (is_there taken q) [
    | yes t ↦ t
    | no m ↦ elim (cases_lt (raster_number X.sides q) a) [
      | inl k ↦ below q c k
      | inr k ↦ absurd (none_between L a i q b e ((h.each q).1 (record { there = c; left = m })) (omega (arith, number q)) (omega (arith, number q)))
    ]
  ]

  pub next_left : (i : ℕ) → objects_from L a ≡ raster_point L.sides i ∷ objects_from L (i + 1) → IsLeft (exposed_at X face) taken (raster_point X.sides i)
  next_left i e = subst (λ s. IsLeft (exposed_at X face) taken (raster_point s i)) same
      ((h.each (raster_point L.sides i)).0 (next_is_object L a (raster_point L.sides i) (objects_from L (i + 1)) e))

  pub all_taken : objects_from L a ≡ [] → AreTakenBelow X face taken (box_count X.sides)
  all_taken e q c l = elim (is_there taken q) [
    | yes t ↦ t
    | no m ↦ elim (cases_lt (raster_number X.sides q) a) [
      | inl k ↦ below q c k
      | inr k ↦ absurd (in_none q (subst (λ l. Contains l q) e (object_behind L a q ((h.each q).1 (record { there = c; left = m })) (omega (arith, number q)))))
    ]
  ]
