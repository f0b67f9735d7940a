-- A report grows by the good lines of faces.
-- One law for each kind of line that is added.
use Rattle.std.proofs.Common.{◌≡◌, ◌⊎◌, inl, inr, ◌+◌, ◌-◌, ◌<◌, ◌≤◌, ℕ, zero, suc, ℤ, List, [], ◌∷◌, ◌++◌, length, take, drop, refl, sym, ap, ◌∙◌, subst}
use Rattle.std.proofs.Common.{arith, Some}
use Rattle.std.specs.Prelude.{IsTrue, ◌↔◌, ◌≢◌, AllPairs, Contains, slice_get}
use Rattle.std.proofs.lemmas.List.{drop_all, append-nil, append_assoc, length-append, length-map, take_all, length-take-le, take-append-drop}
use Rattle.std.proofs.lemmas.List.Elements.{All-contains, Contains-append_right}
use Rattle.std.proofs.lemmas.Option.{slice_get_within, get_or_from_slice_get}
use Rattle.shape_terms.specs.Points.{Point}
use Rattle.shape_terms.specs.Steps.{Before}
use Rattle.shape_terms.specs.Adjacency.{Near}
use Rattle.shape_terms.specs.Pictures.{Picture, at, object_points}
use Rattle.shape_terms.specs.Naive.{IsProper, HoldsPoint}
use Rattle.shape_terms.specs.Refutations.{Refutes}
use Rattle.shape_terms.proofs.CrackOrder.{before_once, before_itself}
use Rattle.shape_terms.proofs.SameCycles.{in_none}
use Rattle.shape_terms.specs.Patches.{Sense, exposed_points, IsFirstLeft, Patch, IsPartition, FoundPatch, RefusedPoint, points_of}
use Rattle.shape_terms.proofs.PointLists.{across, no_more}
use Rattle.shape_terms.proofs.Places.{place_of, of_place, place_drop, place_take, of_front, place_map}
use Rattle.report_terms.specs.Lines.{Line, IsLineOf}
use Rattle.report_terms.specs.FaceFacts.{face_axis, face_sense}
use Rattle.report_terms.specs.FaceLines.{FaceStanding, face_standing, given_patch, open_exposed, IsTouching, FacesAreFull, IsNextTouching, IsNextOn, IsFaceHead}
use Rattle.report_terms.specs.FaceLines.{IsPatchHead, IsOnLine, IsOffLine, SurfaceClaim}
use Rattle.report_terms.specs.Sections.{Section, section_of, lines_of}
use Rattle.report_terms.proofs.SectionLaws.{none_past, come_more, come_past, good_at, lines_push}
use Rattle.text_terms.proofs.ListPushes.{take_next}
use Rattle.std.proofs.lemmas.Bool.{cases_lt}
use Rattle.report_terms.proofs.FaceGroups.{standing_face, standing_patch, standing_on, standing_off}
use Rattle.shape_plane.specs.Faces.{IsFace}
use Rattle.shape_plane.specs.Parting.{IsPart, IsNextPatch, IsEmpty, IsLaterPoint, AreRefusedOf, patches_of}
use Rattle.shape_plane.proofs.Partings.{points_more}
use Rattle.shape_plane.proofs.Refusing.{pairs_mapped, patches_more}
use Rattle.shape_plane.proofs.Exposing.{face_points, exposed_distinct}
use Rattle.shape_plane.proofs.Parted.{parted_none, parted_more, parted_all}
use Rattle.shape_analyse.specs.Growing.{Aim, IsGrowing, IsSurveyed}
use Rattle.shape_analyse.specs.Facing.{IsFacing, HasFaces, AreFound, HasPatches, points_found, refused_points, at_patch}
use Rattle.shape_analyse.proofs.Growth.{good_more}

-- ---- how many points are exposed

-- a partition has as many points as the face has exposed ones
pub as_many : (d : ℕ) (X : Picture) (t : ℕ) (sense : Sense) (patches : List Patch) → IsPartition d X t sense patches
    → length (points_of patches) ≡ length (exposed_points X t sense)
as_many d X t sense patches p =
    let a = no_more (points_of patches) (exposed_points X t sense) p.once (λ q c. (p.all q).1 c) in
    let b = no_more (exposed_points X t sense) (points_of patches) (exposed_distinct X t sense) (λ q c. (p.all q).0 c) in
    omega (arith, a, b)

-- ---- the patches found so far

pub found_none : (X : Aim) (f : ℕ) (face : Picture) → f < 6 → IsFace X.subject.picture (face_axis f) (face_sense f) face → AreFound X f [] face
found_none X f face few is = record { few = few; face = face; is_face = is; parted = parted_none 3 (face_axis f) face }

pub found_more : (X : Aim) (f : ℕ) (found : List FoundPatch) (left left' : Picture) (x : FoundPatch) → AreFound X f found left
    → IsNextPatch 3 (face_axis f) left left' x → AreFound X f (found ++ x ∷ []) left'
found_more X f found left left' x are next =
    record { few = are.few; face = are.face; is_face = are.is_face; parted = parted_more 3 (face_axis f) are.face found left left' x are.parted next }

last_of : {A : Type 0} (xs : List A) (x : A) → slice_get (xs ++ x ∷ []) (length xs) ≡ Some x
last_of [] x = refl
last_of (y ∷ xs) x = last_of xs x

front_of : {A : Type 0} (xs ys : List A) → take (length xs) (xs ++ ys) ≡ xs
front_of [] ys = refl
front_of (x ∷ xs) ys = ap (λ l. x ∷ l) (front_of xs ys)

behind_last : {A : Type 0} (xs : List A) (x : A) → drop (suc (length xs)) (xs ++ x ∷ []) ≡ []
behind_last xs x = drop_all (suc (length xs)) (xs ++ x ∷ []) (omega (arith, length-append xs (x ∷ [])))

-- ---- one more line of a face

-- no face was begun yet
pub faces_none : (X : Aim) (lines : List Line) → length X.subject.picture.sides ≡ 3 → IsGrowing X (length (object_points X.subject.picture)) lines
    → HasFaces X 0 lines
faces_none X lines solid h =
    let outlines = come_past X.subject Section.Nearest Section.Contours lines refl h.come h.nears in
    let come = come_past X.subject Section.Contours Section.Faces lines refl outlines (record {
      flat = λ flat. absurd (omega (arith, solid, flat));
      other = λ _. none_past Section.Nearest Section.Contours lines (omega arith) h.come.order;
    }) in
    record {
      stand = face_standing [];
      facing = record {
        solid = solid;
        lines_good = h.lines_good;
        come = come;
        stands =
            ap face_standing (none_past Section.Nearest Section.Faces lines (omega arith) h.come.order);
      };
      begun = refl;
      full = λ l. absurd (omega (arith, l));
    }

facing_more : (X : Aim) (s s2 : FaceStanding) (lines : List Line) (l : Line) → IsFacing X s lines → section_of l ≡ Section.Faces
    → SurfaceClaim X.subject.picture s l → IsLineOf 3 l → face_standing (lines_of Section.Faces lines ++ l ∷ []) ≡ s2 → IsFacing X s2 (lines ++ l ∷ [])
facing_more X s s2 lines l o k claim fields next =
    let good = good_at X.subject Section.Faces lines l o.come k (o.solid, subst (λ w. SurfaceClaim X.subject.picture w l) (sym o.stands) claim) in
    record {
      solid = o.solid;
      lines_good = good_more X lines l o.lines_good (omega (arith, o.solid)) (subst (λ d. IsLineOf d l) (sym o.solid) fields) good;
      come = come_more X.subject Section.Faces lines l o.come k;
      stands = ap face_standing (lines_push Section.Faces lines l k) ∙ next;
    }

-- the next face is begun
pub face_begun : (X : Aim) (f : ℕ) (lines : List Line) (n : ℕ) → HasFaces X f lines → f < 6
    → n ≡ length (exposed_points X.subject.picture (face_axis f) (face_sense f)) → IsLineOf 3 (Line.Face (face_axis f) (face_sense f) n)
    → HasPatches X f [] (lines ++ Line.Face (face_axis f) (face_sense f) n ∷ [])
face_begun X f lines n h few count fields =
    let l = Line.Face (face_axis f) (face_sense f) n in
    let s : FaceStanding = record { begun = f + 1; taken = []; patch = given_patch [] } in
    let claim : IsFaceHead X.subject.picture h.stand (face_axis f) (face_sense f) n =
    record { full = h.full; more = omega (arith, h.begun, few); axis = ap face_axis (sym h.begun); sense_is = ap face_sense (sym h.begun); points = count }
    in
    let begun = ap (λ (w : FaceStanding). w.begun) h.facing.stands ∙ h.begun in
    let next = standing_face (lines_of Section.Faces lines) (face_axis f) (face_sense f) n
    ∙ ap (λ b. record { begun = b + 1; taken = []; patch = given_patch [] }) begun in
    record {
      stand = s;
      facing = facing_more X h.stand s lines l h.facing refl claim fields next;
      begun = refl;
      taken = refl;
      full = record { points = refl; refused = λ q t. absurd (in_none t.near.0 t.near.1) };
    }

-- ---- one patch of a face

open_is : (Y : Picture) (f : ℕ) (s : FaceStanding) → s.begun ≡ f + 1 → open_exposed Y s ≡ exposed_points Y (face_axis f) (face_sense f)
open_is Y f s e = ap (λ g. exposed_points Y (face_axis g) (face_sense g)) (let g : s.begun - 1 ≡ f = omega (arith, e) in g)

module _ (X : Aim) (f : ℕ) (found : List FoundPatch) (left : Picture) (x : FoundPatch) (are : AreFound X f (found ++ x ∷ []) left) where
  -- the exposed points, the points of earlier patches and of this one, and what it refused
  abbrev exposed : List Point
  exposed = exposed_points X.subject.picture (face_axis f) (face_sense f)

  abbrev before : List Point
  before = points_found found

  abbrev points : List Point
  points = x.patch.points

  abbrev refs : List Point
  refs = refused_points x.refused

  all_points : points_found (found ++ x ∷ []) ≡ before ++ points
  all_points = ap points_of (patches_more found x) ∙ points_more (patches_of found) x.patch

  on_face : (q : Point) → IsTrue (at are.face q) ↔ Contains exposed q
  on_face = face_points X.subject.picture (face_axis f) (face_sense f) are.face are.is_face

  part : IsPart (face_axis f) (λ q. IsTrue (at are.face q)) (patches_of found) x.patch
  part =
      let ps = patches_of found in
      let there = ap (λ l. slice_get l (length ps)) (patches_more found x) ∙ last_of ps x.patch in
      let front = ap (take (length ps)) (patches_more found x) ∙ front_of ps (x.patch ∷ []) in
      subst (λ l. IsPart (face_axis f) (λ q. IsTrue (at are.face q)) l x.patch) front (are.parted.parting.part (length ps) x.patch there)

  is_first : IsFirstLeft exposed before part.start
  is_first = record { there = (on_face part.start).0 part.there; left = part.fresh; first = λ q c b. part.least q ((on_face q).1 c) b }

  once : AllPairs (λ p q. p ≢ q) (before ++ points)
  once = subst (AllPairs (λ p q. p ≢ q)) all_points are.parted.parting.once

  -- its points are exposed
  is_exposed : (p : Point) → Contains (before ++ points) p → Contains exposed p
  is_exposed p c = (on_face p).0 (are.parted.parting.taken p (subst (λ l. Contains l p) (sym all_points) c))

  -- an exposed point that was not taken is left
  is_left : (p : Point) → Contains exposed p → (Contains (before ++ points) p → ⊥) → IsTrue (at left p)
  is_left p c n = elim (are.parted.parting.rest p ((on_face p).1 c)) [
    | inl a ↦ a
    | inr m ↦ absurd (n (subst (λ l. Contains l p) all_points m))
  ]

  -- it has a point
  pub patch_some : 0 < length points
  patch_some = slice_get_within points 0 part.start part.first

  -- ---- its head

  pub patch_begun : (lines : List Line) (a : List ℤ) (mu : ℤ) → HasPatches X f found lines → record { a = a; mu = mu } ≡ x.patch.plane
      → IsLineOf 3 (Line.Patch (length points) a mu) → IsFacing X (at_patch f before x 0 0) (lines ++ Line.Patch (length points) a mu ∷ [])
  patch_begun lines a mu h plane fields =
      let s = h.stand in
      let l = Line.Patch (length points) a mu in
      let ls = lines_of Section.Faces lines in
      let total = no_more (before ++ points) exposed once is_exposed in
      let claim : IsPatchHead X.subject.picture s (length points) (record { a = a; mu = mu }) = record {
        face = omega (arith, h.begun);
        full = h.full;
        some = omega (arith, patch_some);
        left = omega (arith, total, length-append before points, ap length h.taken, ap length (open_is X.subject.picture f s h.begun));
        proper = subst (λ t. IsProper t (record { a = a; mu = mu })) (ap face_axis (let g : f ≡ s.begun - 1 = omega (arith, h.begun) in g))
            (subst (IsProper (face_axis f)) (sym plane) part.plane.proper);
      } in
      let begun = ap (λ (w : FaceStanding). w.begun) h.facing.stands ∙ h.begun in
      let taken : (face_standing ls).taken ≡ before ++ [] = ap (λ (w : FaceStanding). w.taken) h.facing.stands ∙ (h.taken ∙ sym (append-nil before)) in
      let next = standing_patch ls (length points) a mu (omega (arith, begun)) in
      facing_more X s (at_patch f before x 0 0) lines l h.facing refl claim fields
      (next ∙ (λ i. record { begun = begun i; taken = taken i; patch = record { declared = length points; plane = plane i; points = []; refused = [] } }))

  -- ---- its points

  touching : (j : ℕ) (p : Point) → slice_get points j ≡ Some p → 0 < j → IsTouching exposed (before ++ take j points) (take j points) p
  touching j p e some =
      record { there = is_exposed p (Contains-append_right before points p (of_place points j p e)); left = λ c. apart c; near = near_one j e some }
    where
      parts : before ++ points ≡ (before ++ take j points) ++ drop j points
      parts = ap (λ l. before ++ l) (sym (take-append-drop j points)) ∙ sym (append_assoc before (take j points) (drop j points))

      later : Contains (drop j points) p
      later = of_place (drop j points) 0 p (place_drop j points 0 ∙ (ap (slice_get points) (let q : j + 0 ≡ j = omega arith in q) ∙ e))

      apart : Contains (before ++ take j points) p → ⊥
      apart c = across (λ a b. a ≢ b) (before ++ take j points) (drop j points) p p (subst (AllPairs (λ a b. a ≢ b)) parts once) c later refl

      near_one : (j : ℕ) → slice_get points j ≡ Some p → 0 < j → (q : Point) × Contains (take j points) q × Near p q
      near_one zero e l = absurd (omega (arith, l))
      near_one (suc i) e l = part.grows i p e

  next_on : (pts : List Point) (j : ℕ) (p : Point) → slice_get pts j ≡ Some p → (j ≡ 0 → IsFirstLeft exposed (before ++ []) p)
      → (0 < j → IsTouching exposed (before ++ take j pts) (take j pts) p) → IsNextOn exposed (before ++ take j pts) (take j pts) p
  next_on [] j p e a b = cc
  next_on (q ∷ pts) zero p e a b = a refl
  next_on (q ∷ pts) (suc j) p e a b = b (omega arith)

  first_left : (j : ℕ) (p : Point) → slice_get points j ≡ Some p → j ≡ 0 → IsFirstLeft exposed (before ++ []) p
  first_left j p e z =
      let same : Some part.start ≡ Some p = sym part.first ∙ (ap (slice_get points) (sym z) ∙ e) in
      let q : part.start ≡ p = cc in
      subst (λ l. IsFirstLeft exposed l p) (sym (append-nil before)) (subst (IsFirstLeft exposed before) q is_first)

  pub patch_point : (lines : List Line) (j : ℕ) (p : Point) → IsFacing X (at_patch f before x j 0) lines → slice_get points j ≡ Some p → IsLineOf 3 (Line.On p)
      → IsFacing X (at_patch f before x (j + 1) 0) (lines ++ Line.On p ∷ [])
  patch_point lines j p o e fields =
      let s = at_patch f before x j 0 in
      let l = Line.On p in
      let ls = lines_of Section.Faces lines in
      let within = slice_get_within points j p e in
      let is = open_is X.subject.picture f s refl in
      let claim : IsOnLine X.subject.picture s p = record {
        more = omega (arith, within, length-take-le j points (omega (arith, within)));
        next = subst (λ es. IsNextOn es (before ++ take j points) (take j points) p) (sym is) (next_on points j p e (first_left j p e) (touching j p e));
        held = subst (λ t. HoldsPoint t x.patch.plane p) (ap face_axis (let g : f ≡ f + 1 - 1 = omega arith in g))
            (All-contains (HoldsPoint (face_axis f) x.patch.plane) points p part.plane.holds (of_place points j p e));
      } in
      let some : 0 < (face_standing ls).patch.declared = omega (arith, within, ap (λ (w : FaceStanding). w.patch.declared) o.stands) in
      let more : take j points ++ p ∷ [] ≡ take (j + 1) points = take_next points j p e ∙ ap (λ n. take n points) (let q : suc j ≡ j + 1 = omega arith in q) in
      let taken : (before ++ take j points) ++ p ∷ [] ≡ before ++ take (j + 1) points = append_assoc before (take j points) (p ∷ [])
      ∙ ap (λ l. before ++ l) more in
      let next = standing_on ls p some
      ∙ ap (λ (w : FaceStanding). record { begun = w.begun; taken = w.taken ++ p ∷ []; patch = record w.patch { points = w.patch.points ++ p ∷ [] } })
      o.stands in
      facing_more X s (at_patch f before x (j + 1) 0) lines l o refl claim fields
      (next ∙ (λ i. record {
        begun = f + 1;
        taken = taken i;
        patch = record { declared = length points; plane = x.patch.plane; points = more i; refused = [] };
      }))

  -- ---- what it refused

  whole : take (length points) points ≡ points
  whole = take_all (length points) points (omega arith)

  are_refused : AreRefusedOf 3 (face_axis f) x.patch (IsLaterPoint left (patches_of (drop (suc (length found)) (found ++ x ∷ [])))) x.refused
  are_refused = are.parted.refusing.each (length found) x (last_of found x)

  -- a point that touches the whole patch was refused, and each refused point touches it
  refused_touching : (q : Point) → IsTouching exposed (before ++ points) points q → Contains refs q
  refused_touching q t = (are_refused.each q).1 (inl (is_left q t.there t.left), t.near)

  touching_refused : (q : Point) → Contains refs q → IsTouching exposed (before ++ points) points q
  touching_refused q c =
      let e = (are_refused.each q).0 c in
      let free = are.parted.parting.free q (alone e.0) in
      record { there = (on_face q).0 free.0; left = λ d. free.1 (subst (λ l. Contains l q) (sym all_points) d); near = e.1 }
    where
      alone : IsLaterPoint left (patches_of (drop (suc (length found)) (found ++ x ∷ []))) q → IsTrue (at left q)
      alone (inl a) = a
      alone (inr m) = absurd (in_none q (subst (λ l. Contains (points_found l) q) (behind_last found x) m))

  rising : (i j : ℕ) (a b : Point) → i < j → slice_get refs i ≡ Some a → slice_get refs j ≡ Some b → Before a b
  rising i j a b l d e =
      let all = pairs_mapped (λ (r : RefusedPoint). r.point) Before x.refused are_refused.rising in
      let r = all i j [] l (slice_get_within refs j b e) in
      subst (λ p. Before p b) (get_or_from_slice_get refs i a [] d) (subst (Before _) (get_or_from_slice_get refs j b [] e) r)

  next_refused : (m : ℕ) (p : Point) → slice_get refs m ≡ Some p → IsNextTouching exposed (before ++ points) points (take m refs) p
  next_refused m p e = record {
    touching = touching_refused p (of_place refs m p e);
    new = λ c. let i = of_front m refs p c in before_itself p p refl (rising i.0 m p p i.1 i.2 e);
    next = λ q t b. let i = place_of refs q (refused_touching q t) in by_place q i.0 i.1 b (cases i.0);
  }
    where
      cases : (i : ℕ) → (i < m) ⊎ (m ≤ i)
      cases i = cases_lt i m

      by_place : (q : Point) (i : ℕ) → slice_get refs i ≡ Some q → Before q p → (i < m) ⊎ (m ≤ i) → Contains (take m refs) q
      by_place q i d b (inl l) = of_place (take m refs) i q (place_take m refs i l ∙ d)
      by_place q i d b (inr l) = absurd (later (cases_lt m i))
        where
          later : (m < i) ⊎ (i ≤ m) → ⊥
          later (inl h) = before_once q p b (rising m i p q h e d)
          later (inr h) =
              let g : i ≡ m = omega (arith, l, h) in
              let same : Some q ≡ Some p = sym d ∙ (ap (slice_get refs) g ∙ e) in
              let w : q ≡ p = cc in
              before_itself q p w b

  pub patch_refused : (lines : List Line) (m : ℕ) (r : RefusedPoint) → IsFacing X (at_patch f before x (length points) m) lines → slice_get x.refused m ≡ Some r
      → 0 < length points → IsLineOf 3 (Line.Off r.point r.why)
      → IsFacing X (at_patch f before x (length points) (m + 1)) (lines ++ Line.Off r.point r.why ∷ [])
  patch_refused lines m r o e filled fields =
      let n = length points in
      let s = at_patch f before x n m in
      let l = Line.Off r.point r.why in
      let ls = lines_of Section.Faces lines in
      let is = open_is X.subject.picture f s refl in
      let at_place = place_map (λ (y : RefusedPoint). y.point) x.refused m r e in
      let axis : face_axis f ≡ face_axis (f + 1 - 1) = ap face_axis (let g : f ≡ f + 1 - 1 = omega arith in g) in
      let claim : IsOffLine X.subject.picture s r.point r.why = record {
        points = ap length whole;
        next = subst (λ es. IsNextTouching es (before ++ take n points) (take n points) (take m refs) r.point) (sym is)
            (subst (λ l. IsNextTouching exposed (before ++ l) l (take m refs) r.point) (sym whole) (next_refused m r.point at_place));
        refuted = subst (λ t. Refutes 3 t (take n points ++ r.point ∷ []) r.why) axis
            (subst (λ l. Refutes 3 (face_axis f) (l ++ r.point ∷ []) r.why) (sym whole) (are_refused.weights m r e));
      } in
      let some : 0 < (face_standing ls).patch.declared = omega (arith, filled, ap (λ (w : FaceStanding). w.patch.declared) o.stands) in
      let more : take m refs ++ r.point ∷ [] ≡ take (m + 1) refs = take_next refs m r.point at_place
      ∙ ap (λ n. take n refs) (let q : suc m ≡ m + 1 = omega arith in q) in
      let next = standing_off ls r.point r.why some
      ∙ ap (λ (w : FaceStanding). record w { patch = record w.patch { refused = w.patch.refused ++ r.point ∷ [] } }) o.stands in
      facing_more X s (at_patch f before x n (m + 1)) lines l o refl claim fields
      (next ∙ (λ i. record {
        begun = f + 1;
        taken = before ++ take n points;
        patch =
            record { declared = n; plane = x.patch.plane; points = take n points; refused = more i };
      }))

  -- it has all its lines
  pub patch_done : (lines : List Line) → IsFacing X (at_patch f before x (length points) (length x.refused)) lines → HasPatches X f (found ++ x ∷ []) lines
  patch_done lines o =
      let n = length points in
      let r = length x.refused in
      let s = at_patch f before x n r in
      let is = open_is X.subject.picture f s refl in
      let all : take r refs ≡ refs = take_all r refs (omega (arith, length-map x.refused (λ (y : RefusedPoint). y.point))) in
      record {
        stand = s;
        facing = o;
        begun = refl;
        taken = ap (λ l. before ++ l) whole ∙ sym all_points;
        full = record {
          points = ap length whole;
          refused = λ q t. subst (λ l. Contains l q) (sym all)
              (refused_touching q (subst (λ l. IsTouching exposed (before ++ l) l q) whole
              (subst (λ es. IsTouching es (before ++ take n points) (take n points) q) is t)));
        };
      }

-- ---- the section is complete

pub face_done : (X : Aim) (f : ℕ) (found : List FoundPatch) (left : Picture) (lines : List Line) → AreFound X f found left → IsEmpty left
    → HasPatches X f found lines → HasFaces X (f + 1) lines
face_done X f found left lines are none h =
    let parts = parted_all 3 (face_axis f) X.subject.picture (face_sense f) are.face found left are.is_face are.parted none in
    let total = as_many 3 X.subject.picture (face_axis f) (face_sense f) (patches_of found) parts.partition in
    record {
      stand = h.stand;
      facing = h.facing;
      begun = h.begun;
      full = λ _. record {
        all = ap length h.taken ∙ (total ∙ ap length (sym (open_is X.subject.picture f h.stand h.begun)));
        patch = h.full;
      };
    }

pub surveyed_solid : (X : Aim) (lines : List Line) → HasFaces X 6 lines → IsSurveyed 3 X lines
surveyed_solid X lines h =
    let o = h.facing in
    record {
      axes = o.solid;
      few = omega arith;
      lines_good = o.lines_good;
      come = come_past X.subject Section.Faces Section.Thinned lines refl o.come (record {
        solid = λ _. (subst (FacesAreFull X.subject.picture) (sym o.stands) h.full, ap (λ (w : FaceStanding). w.begun) o.stands ∙ h.begun);
        other = λ other. absurd (other o.solid);
      });
      none = none_past Section.Faces Section.Thinned lines (omega arith) o.come.order;
    }
