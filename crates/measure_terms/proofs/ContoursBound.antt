-- The contours of a component bound the components of the points that are not in it, one each.
-- Over any set of flat points that has all points round an object point and each step from one of its points towards another.
use Rattle.std.proofs.Common.{◌≡◌, ℕ, Bool, true, false, refl, sym, ◌∙◌, ap, subst, List, length}
use Rattle.std.specs.Prelude.{Contains}
use Rattle.std.proofs.lemmas.List.Elements.{All-contains}
use Rattle.shape_terms.specs.Points.{Point}
use Rattle.shape_terms.specs.Adjacency.{Side}
use Rattle.shape_terms.specs.Pictures.{Picture}
use Rattle.shape_terms.specs.Contours.{Crack, IsCrack, successor, BeginsLeast, AreCycles}
use Rattle.shape_terms.specs.Parts.{Connected, Object}
use Rattle.shape_terms.proofs.Paths.{starts_in, joined_to}
use Rattle.shape_terms.proofs.Turning.{edge_ahead}
use Rattle.shape_terms.proofs.Successor.{Place, point, crack_at, crack_of, step, moves, held, moved_step, successor_is, successor_crack, object_axes, Placed}
use Rattle.shape_terms.proofs.Successor.{placed, edge_crack}
use Rattle.shape_terms.proofs.SameCycles.{meeting_same}
use Rattle.measure_terms.specs.ComponentContours.{IsComponent, Complement, over, contours_of, BoundComponents}
use Rattle.measure_terms.proofs.OverSteps.{Close}
use Rattle.measure_terms.proofs.Parted.{Beside, all_or_none}
use Rattle.measure_terms.proofs.Around.{HasAround, next_joined}
use Rattle.measure_terms.proofs.Reaching.{IsWide, way, Reached, reached}
use Rattle.measure_terms.proofs.Planes.{place_of, point_of_place, path_of_points, path_of_places, close_path}
use Rattle.measure_terms.proofs.OneContour.{none_left, own, whole_places, bare_is_none, IsContour, cycle_of, is_cycle, is_crack, own_crack, contour_of, set}
use Rattle.measure_terms.proofs.OneContour.{set_closed, set_own}
use Rattle.measure_terms.proofs.Cycles.{has, has_it, it_has, all_of_cycle}

module _ (F : Point → Type 0) (flat : (p : Point) → F p → length p ≡ 2) (X : Picture) (axes : length X.sides ≡ 2)
    (around : HasAround (λ (p : Place). F (point p)) (held X)) (wide : IsWide (λ (p : Place). F (point p)))
    (K : Point → Bool) (part : IsComponent X K) (cycles : List (List Crack)) (are : AreCycles X cycles) where
  abbrev pub Y : Point → Type 0
  Y = Complement F K

  pub flat_points : (p : Point) → Y p → length p ≡ 2
  flat_points p y = flat p y.0

  -- ---- the pixels over a contour are joined

  pub over_place : (p : Place) (d : ℕ) → over (crack_at p d) ≡ point (step d p)
  over_place p d = moved_step d p

  pub over_placed : (c : Crack) (a : Placed X c) → over c ≡ point (step c.side a.place)
  over_placed c a = ap over a.is ∙ over_place a.place c.side

  step_joined : (c : Crack) → IsCrack X c → Connected Side Y (over c) (over (successor X c))
  step_joined c k =
      let a = placed X axes c k in
      let n = edge_ahead moves (held X) a.place c.side in
      let j = path_of_points Y (next_joined (λ (p : Place). F (point p)) (held X) (own X axes K part) around (bare_is_none X axes K part)
      a.place c.side a.edge) in
      let s : successor X c ≡ crack_of n = ap (successor X) a.is ∙ successor_is X a.place c.side in
      let e : over (successor X c) ≡ point (step n.1 n.0) = ap over s ∙ over_place n.0 n.1 in
      subst (λ (p : Point). Connected Side Y p (over (successor X c))) (sym (over_placed c a))
      (subst (λ (p : Point). Connected Side Y (point (step c.side a.place)) p) (sym e) j)

  JoinedTo : Point → Crack → Type 0
  JoinedTo p c = IsCrack X c × Connected Side Y p (over c)

  joined_on : (p : Point) (c : Crack) → JoinedTo p c → JoinedTo p (successor X c)
  unfolding JoinedTo
  joined_on p c h = (successor_crack X axes c h.0, joined_to h.1 (step_joined c h.0))

  pub along : (xs : List Crack) → IsContour X axes K part cycles are xs → (c d : Crack) → Contains xs c → Contains xs d → Connected Side Y (over c) (over d)
  unfolding JoinedTo
  along xs i c d j l =
      let k = is_crack X axes K part cycles are xs (cycle_of X axes K part cycles are xs i) c j in
      (all_of_cycle X (JoinedTo (over c)) (joined_on (over c)) xs (is_cycle X axes K part cycles are xs i) c d j l
      (k, Connected.here (starts_in (step_joined c k)))).1

  -- ---- two contours at one component of the complement
  module _ (xs : List Crack) (i : IsContour X axes K part cycles are xs) where
    shared : (c d : Crack) → IsCrack X c → IsCrack X d → K c.pixel ≡ true → K d.pixel ≡ true → Contains xs c → Connected Side Y (over c) (over d)
        → Contains xs d
    shared c d k l m n j p =
        let a = placed X axes c k in
        let b = placed X axes d l in
        let q = close_path (Object X) (λ r o. object_axes X r o ∙ axes) (part.joined c.pixel d.pixel m n) in
        let near = subst (λ (r : Place). Connected Close (λ (r : Place). held X r ≡ true) r b.place) (ap (λ (e : Crack). place_of e.pixel) a.is)
        (subst (λ (r : Place). Connected Close (λ (r : Place). held X r ≡ true) (place_of c.pixel) r) (ap (λ (e : Crack). place_of e.pixel) b.is) q) in
        let w = path_of_places Y flat_points p in
        let out = subst (λ (r : Point). Connected Beside (λ (r : Place). Y (point r)) (place_of r) (step d.side b.place)) (over_placed c a)
        (subst (λ (r : Point). Connected Beside (λ (r : Place). Y (point r)) (place_of (over c)) (place_of r)) (over_placed d b) w) in
        let h = all_or_none (λ (p : Place). F (point p)) (held X) (own X axes K part) (set X axes K part cycles are xs i) (none_left X)
        (set_closed X axes K part cycles are xs i) (set_own X axes K part cycles are xs i) a.place b.place c.side d.side a.edge b.edge near out
        (subst (λ (e : Crack). has xs e ≡ true) a.is (has_it xs c j)) in
        it_has xs d (subst (λ (e : Crack). has xs e ≡ true) (sym b.is) h)

  pub apart : (xs ys : List Crack) → IsContour X axes K part cycles are xs → IsContour X axes K part cycles are ys → (c d : Crack) → Contains xs c
      → Contains ys d → Connected Side Y (over c) (over d) → xs ≡ ys
  apart xs ys i j c d k l p =
      let a = own_crack X axes K part cycles are xs i c k in
      let b = own_crack X axes K part cycles are ys j d l in
      let least : (zs : List Crack) → IsContour X axes K part cycles are zs → BeginsLeast zs =
      λ zs k. All-contains BeginsLeast cycles zs are.least (cycle_of X axes K part cycles are zs k) in
      meeting_same X xs ys (is_cycle X axes K part cycles are xs i) (is_cycle X axes K part cycles are ys j) (least xs i) (least ys j) d
      (shared xs i c d a.0 b.0 a.1 b.1 k p) l

  -- ---- each component of the complement has a contour

  -- a crack of the component that a walk from a place came to, with its contour
  found : (q : Place) → Reached (λ (p : Place). F (point p)) (held X) (own X axes K part) q
      → (xs : List Crack) × IsContour X axes K part cycles are xs × ((c : Crack) × Contains xs c × Connected Side Y (point q) (over c))
  found q r =
      let t = contour_of X axes K part cycles are (crack_at r.pixel r.side) (edge_crack X (r.pixel, r.side) r.edge) r.own in (
        t.0,
        t.1,
        (
          crack_at r.pixel r.side,
          t.2,
          subst (λ (p : Point). Connected Side Y (point q) p) (sym (over_place r.pixel r.side)) (path_of_points Y {p = q} {q = step r.side r.pixel} r.joined),
        ),
      )

  moved_start : (p q : Point) → p ≡ q
      → ((xs : List Crack) × IsContour X axes K part cycles are xs × ((c : Crack) × Contains xs c × Connected Side Y p (over c)))
      → (xs : List Crack) × IsContour X axes K part cycles are xs × ((c : Crack) × Contains xs c × Connected Side Y q (over c))
  moved_start p q e t = (t.0, t.1, (t.2.0, t.2.1, subst (λ (r : Point). Connected Side Y r (over t.2.0)) e t.2.2))

  pub each : (seed : F part.some.0) → (q : Point) → Y q
      → (xs : List Crack) × IsContour X axes K part cycles are xs × ((c : Crack) × Contains xs c × Connected Side Y q (over c))
  each seed q y =
      let k = part.some.0 in
      let a = point_of_place q (flat_points q y) in
      let b = point_of_place k (object_axes X k (part.object k part.some.1) ∙ axes) in
      moved_start (point (place_of q)) q a
      (found (place_of q) (reached (λ (p : Place). F (point p)) (held X) (own X axes K part) wide (whole_places X axes K part)
      (way (place_of q) (place_of k)) (place_of q) (place_of k) refl
      (subst F (sym a) y.0) (subst F (sym b) seed) (subst (λ (p : Point). K p ≡ false) (sym a) y.1) (subst (λ (p : Point). K p ≡ true) (sym b) part.some.1)))

  -- the contours of the component bound what is not in it
  pub contours_bound : F part.some.0 → BoundComponents (contours_of K cycles) (Complement F K)
  contours_bound seed = record { along = along; apart = apart; each = each seed }
